use mathlib.Core.Path.{refl}
use Rattle.text.proofs.Judging.{begins_true, begins_false}
use Rattle.job.proofs.Seeking.{seeking_start, seeking_here, seeking_more, seeking_end}
use native.Mathlib.Omega.{arith}
use Rattle.job.proofs.wish.drawn_at.Goals as goal

pub loop-at-init : goal.loop-at-init
loop-at-init c = seeking_start _ _ c.requires

pub slice_bounds-begins-count : goal.slice_bounds-begins-count
slice_bounds-begins-count c = omega (arith, c.line_end-end.ensures.inside c.loop-at-test.true)

pub slice_bounds-begins-start : goal.slice_bounds-begins-start
slice_bounds-begins-start c = omega (arith, c.line_end-end.ensures.inside c.loop-at-test.true)

pub slice_bounds-begins-end : goal.slice_bounds-begins-end
slice_bounds-begins-end c = omega (arith, c.line_end-end.ensures.inside c.loop-at-test.true)

pub returns-then-begins : goal.returns-then-begins
returns-then-begins c = seeking_here _ _ _ _ c.loop-at.invariant c.loop-at-test.true _ (c.line_end-end.ensures.inside c.loop-at-test.true) _ (begins_true _ _ _ c.begins.ensures refl c.if-begins.true)

pub overflow_add-number : goal.overflow_add-number
overflow_add-number c = omega (arith, c.loop-at.invariant.count)

pub loop-at-smaller : goal.loop-at-smaller
loop-at-smaller c = omega (arith, c.line_end-end.ensures.inside c.loop-at-test.true)

pub loop-at-preserved : goal.loop-at-preserved
loop-at-preserved c = seeking_more _ _ _ _ c.loop-at.invariant c.loop-at-test.true _ (c.line_end-end.ensures.inside c.loop-at-test.true) (begins_false _ _ _ c.begins.ensures refl c.if-begins.false)

pub returns : goal.returns
returns c = seeking_end _ _ _ _ c.loop-at.invariant c.loop-at-test.false
