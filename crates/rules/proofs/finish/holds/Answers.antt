use mathlib.Core.Path.{sym}
use native.Mathlib.Omega.{arith}
use Rattle.kinds.proofs.Bits.{bit_test, bit_above}
use Rattle.rules.proofs.finish.holds.Goals as goal

pub returns-then-from-ge-MOST_STATES : goal.returns-then-from-ge-MOST_STATES
returns-then-from-ge-MOST_STATES c = sym (bit_above 64 _ _ (omega arith) (omega arith))

pub returns : goal.returns
returns c = bit_test _ _
