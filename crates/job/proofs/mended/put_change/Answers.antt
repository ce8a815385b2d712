use Rattle.text.proofs.Putting.{wrote_none, wrote_append, wrote_is}
use Rattle.job.specs.Mend.{change_line}
use Rattle.job.proofs.Telling.{change_none, change_some}
use native.Mathlib.Omega.{arith}
use Rattle.job.proofs.mended.put_change.Goals as goal

pub returns-then-value-drawn : goal.returns-then-value-drawn
returns-then-value-drawn c = wrote_is _ _ _ _ _ _ (change_none _ _ _ c.if-value-drawn.true) (wrote_none _ _ (omega arith))

pub returns : goal.returns
unfolding change_line
returns c = wrote_is _ _ _ _ _ _ (change_some _ _ _ c.if-value-drawn.false)
    (wrote_append _ (omega arith) _ _ _ _ _ _ _ c.put_word-past_word.ensures
    (wrote_append _ (omega (arith, c.output-1.given)) _ _ _ _ _ _ _ c.put_number-past_place.ensures
    (wrote_append _ (omega (arith, c.output-1.given, c.output-2-1.given)) _ _ _ _ _ _ _ c.put_byte-past_tab.ensures
    (wrote_append _ (omega (arith, c.output-1.given, c.output-2-1.given, c.output-3-1.given)) _ _ _ _ _ _ _ c.put_number-past_drawn.ensures c.put_line.ensures))))
