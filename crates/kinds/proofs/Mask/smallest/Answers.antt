use native.Mathlib.Nat.{lt_of_le_of_lt}
use native.Mathlib.Omega.{arith}
use lib.Count.{trailing_le}
use Rattle.kinds.specs.Bits.{width}
use Rattle.kinds.proofs.Lowest.{smallest_is}
use Rattle.kinds.proofs.Mask.smallest.Goals as goal

pub overflow_cast-zeros : goal.overflow_cast-zeros
overflow_cast-zeros c = record { fits = lt_of_le_of_lt (trailing_le width _) (omega arith) }

pub returns : goal.returns
returns c = smallest_is _
