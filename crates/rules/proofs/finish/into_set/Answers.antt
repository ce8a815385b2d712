use mathlib.Core.Path.{refl, ◌∙◌}
use native.Mathlib.Omega.{arith}
use Rattle.kinds.proofs.Bits.{next_bit}
use Rattle.rules.proofs.Finishing.{into_none, into_more, into_skip}
use Rattle.rules.proofs.finish.into_set.Goals as goal
use Rattle.rules.proofs.finish.into_set.Goals.{then-to-set-ne0, else-to-set-ne0}

pub loop-to-init : goal.loop-to-init
loop-to-init c = (into_none _ _, refl)

pub loop-to-preserved : goal.loop-to-preserved
loop-to-preserved c = let l = c.loop-to in
    let b = next_bit 64 l.to-index l.bit (omega arith) l.invariant.1 in
    elim c.if-to-set-ne0.branch [
      | then-to-set-ne0 w ↦ (w.found-is ∙ into_more _ _ l.to-index l.found l.bit (omega arith) l.invariant.0 l.invariant.1 w.if-to-set-ne0.true, b)
      | else-to-set-ne0 w ↦ (w.found-is ∙ into_skip _ _ l.to-index l.found l.invariant.0 w.if-to-set-ne0.false, b)
    ]
