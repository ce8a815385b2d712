use mathlib.Core.Path.{◌∙◌}
use native.Mathlib.Omega.{arith}
use Rattle.meaning.specs.Bounds.{top}
use Rattle.rooms.proofs.Filling.{low_fits, filled_none, filled_more, filled_end, laid_none, laid_more, laid_end}
use Rattle.rooms.proofs.backward.lay_like.Goals as goal

pub loop-k-init : goal.loop-k-init
loop-k-init c = (laid_none _ _ _, filled_none _ _)

pub overflow_add-work : goal.overflow_add-work
overflow_add-work c = let l = c.loop-k.invariant in
    omega (arith, l.0.others c.args.like c.loop-k.k (omega arith) (λ e k. omega (arith, c.requires.2)), low_fits (c.requires.6.low c.args.like c.loop-k.k c.requires.2 (omega arith) (omega arith)) c.requires.5)

pub loop-k-preserved : goal.loop-k-preserved
unfolding top
loop-k-preserved c = let l = c.loop-k.invariant in
    let o = l.0.others c.args.like c.loop-k.k (omega arith) (λ e k. omega (arith, c.requires.2)) in
    (laid_more _ (omega arith) (omega arith) l.0 (c.max-need.ensures ∙ rw (c.min.ensures, o)), filled_more _ (omega arith) l.1 (c.max-need.ensures ∙ rw (c.min.ensures, o)))

pub returns : goal.returns
returns c = let l = c.loop-k.invariant in (laid_end l.0 (omega arith) (omega arith), filled_end l.1 (omega arith) (omega arith))
