use native.Mathlib.Omega.{arith}
use Rattle.text.proofs.Putting.{wrote_none}
use Rattle.job.specs.Output.{kept_lines}
use Rattle.job.proofs.Printing.{masks_more}
use Rattle.job.proofs.print.put_masks.Goals as goal

pub loop-i-init : goal.loop-i-init
unfolding kept_lines
loop-i-init c = wrote_none _ _ (omega arith)

pub loop-i-preserved : goal.loop-i-preserved
loop-i-preserved c = masks_more _ (omega arith) _ _ _ _ _ _ c.loop-i-test.true c.loop-i.invariant c.put_kept-at.ensures
