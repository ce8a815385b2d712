use mathlib.Core.List.{◌∷◌}
use Rattle.text.specs.Bytes.{tab}
use Rattle.text.specs.Numbers.{decimal}
use Rattle.text.proofs.Putting.{wrote_append, wrote_is}
use Rattle.job.proofs.Telling.{each_more}
use native.Mathlib.Omega.{arith}
use Rattle.job.proofs.mended.put_values.Goals as goal

pub loop-value-preserved : goal.loop-value-preserved
loop-value-preserved c = wrote_is _ _ _ _ _ _ (each_more (λ v. tab ∷ decimal v) _ _ c.loop-value-test.true) (wrote_append _ (omega arith) _ _ _ _ _ _ _ c.loop-value.invariant c.put_value-next.ensures)
