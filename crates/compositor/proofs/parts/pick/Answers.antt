use Rattle.compositor.proofs.Steps.{pick_yes, pick_no}
use Rattle.compositor.proofs.parts.pick.Goals as goal

pub returns-then-c-i-eq1 : goal.returns-then-c-i-eq1
returns-then-c-i-eq1 c = pick_yes _ _ _ c.if-c-i-eq1.true

pub returns-else-c-i-eq1 : goal.returns-else-c-i-eq1
returns-else-c-i-eq1 c = pick_no _ _ _ c.if-c-i-eq1.false
