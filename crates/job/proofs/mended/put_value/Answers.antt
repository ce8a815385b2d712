use Rattle.text.proofs.Putting.{wrote_append}
use native.Mathlib.Omega.{arith}
use Rattle.job.proofs.mended.put_value.Goals as goal

pub returns : goal.returns
returns c = wrote_append _ (omega arith) _ _ _ _ _ _ _ c.put_byte-past_tab.ensures c.put_number.ensures
