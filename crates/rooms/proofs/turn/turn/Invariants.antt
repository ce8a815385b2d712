use Rattle.meaning.specs.Meaning.{arcs_of}
use Rattle.rooms.proofs.Turning.{Turned}
use Rattle.rooms.proofs.turn.turn.Given as goal

abbrev pub invariant-loop-v : goal.invariant-loop-v
invariant-loop-v l = Turned (arcs_of l.states l.values l.targets l.costs) l.v l.initial.to l.initial.fee l.to l.fee
