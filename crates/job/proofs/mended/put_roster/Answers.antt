use Rattle.text.proofs.Putting.{wrote_append}
use Rattle.job.specs.Mend.{roster_line}
use native.Mathlib.Omega.{arith}
use Rattle.job.proofs.mended.put_roster.Goals as goal

pub returns : goal.returns
unfolding roster_line
returns c = wrote_append _ (omega arith) _ _ _ _ _ _ _ c.put_word-past_word.ensures
    (wrote_append _ (omega (arith, c.output-1.given)) _ _ _ _ _ _ _ c.put_values-past_values.ensures c.put_byte.ensures)
