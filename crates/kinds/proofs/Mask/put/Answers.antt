use native.Mathlib.Omega.{arith}
use Rattle.kinds.proofs.Bits.{put_mask, put_none}
use Rattle.kinds.proofs.Mask.put.Goals as goal

pub returns-then-v-ge-WIDTH : goal.returns-then-v-ge-WIDTH
returns-then-v-ge-WIDTH c = put_none 16 _ _ (omega arith) (omega arith)

pub returns : goal.returns
returns c = put_mask 16 _ _ (omega arith) (omega arith)
