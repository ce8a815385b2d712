use Rattle.ranks.specs.Rows.{Lowest}
use Rattle.ranks.proofs.pull.lowest.Given as goal

abbrev pub invariant-loop-k : goal.invariant-loop-k
invariant-loop-k l = Lowest l.k l.from l.least
