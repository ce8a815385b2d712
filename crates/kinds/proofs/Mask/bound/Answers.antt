use native.Mathlib.Omega.{arith}
use Rattle.kinds.proofs.Bits.{shl_one}
use mathlib.Core.Path.{◌≡◌}
use Prim.Native.Nat.{min}
use Rattle.kinds.proofs.Mask.bound.Goals as goal

pub returns-then-values : goal.returns-then-values
returns-then-values c = let e : min c.args.values 16 ≡ 16 = omega arith in rw e

pub returns : goal.returns
returns c = let e : min c.args.values 16 ≡ c.args.values = omega arith in rw e (shl_one 32 _ (omega arith))
