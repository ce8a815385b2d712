use native.Mathlib.Omega.{arith}
use Rattle.kinds.proofs.Bits.{below_bound}
use mathlib.Core.Path.{ap, ◌∙◌}
use Prim.Native.Nat.{ℕ}
use lib.Dec.{ltb}
use Rattle.kinds.proofs.Mask.within.Goals as goal

pub returns : goal.returns
returns c = ap (λ (x : ℕ). ltb c.args.self.0 x) c.bound.ensures ∙ below_bound 16 c.args.self.0 _ (omega arith)
