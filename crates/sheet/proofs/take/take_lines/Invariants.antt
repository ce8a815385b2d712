use Prim.Native.Nat.{◌-◌}
use lib.ListN.{length}
use Rattle.sheet.proofs.Taking.{Taking}
use Rattle.sheet.proofs.take.take_lines.Given as goal

abbrev pub invariant-loop-at : goal.invariant-loop-at
invariant-loop-at l = Taking l.size l.text l.from l.initial.targets l.initial.costs l.at l.next l.number l.accepting l.targets l.costs

abbrev pub decreases-loop-at : goal.decreases-loop-at
decreases-loop-at l = length l.text - l.at
