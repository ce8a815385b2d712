use Rattle.ranks.proofs.Looking.{Best}
use Rattle.ranks.proofs.pull.along.Given as goal

abbrev pub invariant-loop-k : goal.invariant-loop-k
invariant-loop-k l = Best l.low l.from l.row l.k l.best
