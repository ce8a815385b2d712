use native.Mathlib.Omega.{arith}
use Rattle.text.proofs.Putting.{wrote_append}
use Rattle.scribe.proofs.lines.put_field.Goals as goal

pub returns : goal.returns
returns c = wrote_append _ (omega arith) _ _ _ _ _ _ _ c.put_number-next.ensures c.put_byte.ensures
