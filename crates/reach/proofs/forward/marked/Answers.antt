use native.Mathlib.Omega.{arith}
use Rattle.reach.proofs.Sweeping.{marked_yes, marked_no}
use Rattle.reach.proofs.forward.marked.Goals as goal

pub returns-then-on : goal.returns-then-on
returns-then-on c = marked_yes _ _ _ _ c.if-on.true c.put.ensures

pub returns-else-on : goal.returns-else-on
returns-else-on c = marked_no _ _ _ (omega arith) c.if-on.false
