use native.Mathlib.Omega.{arith}
use Rattle.kinds.proofs.Bits.{ones_mask, bound_most}
use mathlib.Core.Path.{refl, ap, ◌∙◌}
use Prim.Native.Nat.{ℕ, ◌-◌, min}
use Rattle.kinds.proofs.Mask.full.Goals as goal

pub overflow_sub-result : goal.overflow_sub-result
overflow_sub-result c = omega (arith, bound_most 16 c.args.values)

pub overflow_cast-result : goal.overflow_cast-result
overflow_cast-result c = omega (arith, bound_most 16 c.args.values)

pub returns : goal.returns
returns c = ap (λ (x : ℕ). x - 1) c.bound.ensures ∙ ones_mask 16 (min c.args.values 16) c.args.values refl
