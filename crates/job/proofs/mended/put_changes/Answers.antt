use Rattle.text.proofs.Putting.{wrote_none, wrote_append, wrote_is}
use Rattle.job.specs.Mend.{change_lines}
use Rattle.job.proofs.Telling.{change_more}
use native.Mathlib.Omega.{arith}
use Rattle.job.proofs.mended.put_changes.Goals as goal

pub loop-i-init : goal.loop-i-init
unfolding change_lines
loop-i-init c = wrote_none _ _ (omega arith)

pub loop-i-preserved : goal.loop-i-preserved
loop-i-preserved c = wrote_is _ _ _ _ _ _ (change_more _ _ _ c.requires c.loop-i-test.true) (wrote_append _ (omega arith) _ _ _ _ _ _ _ c.loop-i.invariant c.put_change-next.ensures)
