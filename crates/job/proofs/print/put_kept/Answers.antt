use native.Mathlib.Omega.{arith}
use Rattle.text.proofs.Putting.{wrote_append}
use Rattle.job.specs.Output.{kept_line}
use Rattle.job.proofs.print.put_kept.Goals as goal

pub returns : goal.returns
unfolding kept_line
returns c = wrote_append _ (omega arith) _ _ _ _ _ _ _ c.put_word-past_word.ensures
    (wrote_append _ (omega (arith, c.output-1.given)) _ _ _ _ _ _ _ c.put_number-past_place.ensures c.put_line.ensures)
