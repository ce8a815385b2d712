use Rattle.meaning.specs.Bounds.{top}
use Rattle.reach.proofs.Both.{order_not, order_last}
use native.Mathlib.Omega.{arith}
use Rattle.reach.proofs.whole.in_order.Goals as goal

pub returns-then-states-from : goal.returns-then-states-from
unfolding top
returns-then-states-from c = order_not (λ a b. omega arith)

pub returns : goal.returns
unfolding top
returns c = order_last (omega arith) (omega arith)
