use mathlib.Core.Path.{sym}
use native.Mathlib.Omega.{arith}
use Rattle.kinds.proofs.Bits.{bit_test, bit_above}
use Rattle.kinds.proofs.Mask.has.Goals as goal

pub returns-then-v-ge-WIDTH : goal.returns-then-v-ge-WIDTH
returns-then-v-ge-WIDTH c = sym (bit_above 16 _ _ (omega arith) (omega arith))

pub returns : goal.returns
returns c = bit_test _ _
