use Rattle.ranks.proofs.Looking.{Pulled}
use Rattle.ranks.proofs.pull.pull.Given as goal

abbrev pub invariant-loop-q : goal.invariant-loop-q
invariant-loop-q l = Pulled l.states l.from l.arcs l.q l.initial.row l.row
