use native.Mathlib.Omega.{arith}
use Rattle.kinds.proofs.Bits.{meet_mask}
use Rattle.kinds.proofs.Mask.meet.Goals as goal

pub returns : goal.returns
returns c = meet_mask 16 _ _ (omega arith) (omega arith)
