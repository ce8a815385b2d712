use Rattle.meaning.specs.Bounds.{top}
use native.Mathlib.Omega.{arith}
use Rattle.reach.proofs.past.raised.Goals as goal

pub returns : goal.returns
unfolding top
returns c = c.min.ensures

pub overflow_add-cost : goal.overflow_add-cost
unfolding top
overflow_add-cost c = omega arith
