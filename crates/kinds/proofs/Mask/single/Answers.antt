use mathlib.Core.Path.{◌∙◌}
use Rattle.kinds.proofs.Bits.{mask_same, bit_none}
use Rattle.kinds.proofs.Mask.single.Goals as goal

pub returns : goal.returns
returns c = c.put.ensures ∙ mask_same _ _ 16 (λ u l. rw (bit_none u))
