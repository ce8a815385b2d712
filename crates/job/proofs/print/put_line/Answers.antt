use native.Mathlib.Omega.{arith}
use Rattle.text.proofs.Putting.{wrote_append}
use Rattle.job.proofs.print.put_line.Goals as goal

pub returns : goal.returns
returns c = wrote_append _ (omega arith) _ _ _ _ _ _ _ c.put_word-past_word.ensures
    (wrote_append _ (omega (arith, c.output-1.given)) _ _ _ _ _ _ _ c.put_number-past_number.ensures c.put_byte.ensures)
