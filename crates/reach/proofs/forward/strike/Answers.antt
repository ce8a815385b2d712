use Rattle.reach.proofs.Needing.{struck_yes, struck_no}
use Rattle.meaning.specs.Bounds.{top}
use native.Mathlib.Omega.{arith}
use Rattle.reach.proofs.forward.strike.Goals as goal

pub returns-then-cost-need-le-TOP : goal.returns-then-cost-need-le-TOP
returns-then-cost-need-le-TOP c = struck_yes _ _ c.if-cost-need-le-TOP.true

pub returns-else-cost-need-le-TOP : goal.returns-else-cost-need-le-TOP
returns-else-cost-need-le-TOP c = struck_no _ _ c.if-cost-need-le-TOP.false

pub overflow_add-cost : goal.overflow_add-cost
unfolding top
overflow_add-cost c = omega arith
