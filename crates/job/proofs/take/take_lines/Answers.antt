use native.Mathlib.Omega.{arith}
use Rattle.job.proofs.Taking.{going_start, going_full, going_wrong, going_more, going_end}
use Rattle.job.proofs.take.take_lines.Goals as goal

pub loop-number-init : goal.loop-number-init
loop-number-init c = going_start _ _ _ _ _ c.requires.4

pub loop-number-preserved : goal.loop-number-preserved
loop-number-preserved c = let g = c.loop-number.invariant in
    going_more _ _ _ _ _ _ _ _ _ g _ (c.line_end-end.ensures.inside c.if-text-at.false) c.loop-number-test.true c.in-Ok.asked c.in-Ok.ensures.0 _ _ c.masks-1.given c.limits-1.given c.take_one.ensures

pub returns-then-text-at : goal.returns-then-text-at
returns-then-text-at c = going_end _ _ _ _ _ _ _ _ _ c.loop-number.invariant c.if-text-at.true

pub returns-in_default : goal.returns-in_default
returns-in_default c = let g = c.loop-number.invariant in
    going_wrong _ _ _ _ _ _ _ _ _ g _ (c.line_end-end.ensures.inside c.if-text-at.false) c.loop-number-test.true _ c.in_default.ensures

pub returns-then-at-text : goal.returns-then-at-text
returns-then-at-text c = let g = c.loop-number.invariant in
    going_full _ _ _ _ _ _ _ _ _ g c.if-at-text.true (omega arith)

pub returns : goal.returns
returns c = going_end _ _ _ _ _ _ _ _ _ c.loop-number.invariant c.if-at-text.false
