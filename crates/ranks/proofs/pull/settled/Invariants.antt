use Rattle.std.proofs.Common.{true}
use Rattle.ranks.specs.Rows.{Settled}
use Rattle.ranks.proofs.pull.settled.Given as goal

abbrev pub invariant-loop-q : goal.invariant-loop-q
invariant-loop-q l = Settled l.q l.low l.rests l.row true
