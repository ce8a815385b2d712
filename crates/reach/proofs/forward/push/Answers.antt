use mathlib.Core.Path.{refl}
use lib.ListN.{length-set}
use Rattle.meaning.specs.Bounds.{top}
use Rattle.reach.proofs.Sweeping.{pushed_none, pushed_more, pushed_end}
use native.Mathlib.Omega.{arith}
use Rattle.reach.proofs.forward.push.Goals as goal

pub loop-q-init : goal.loop-q-init
loop-q-init c = (omega arith, refl, pushed_none _ _ _ _)

pub overflow_cast-to : goal.overflow_cast-to
overflow_cast-to c = omega (arith, c.type_inv.targets c.loop-q.q)

pub overflow_cast-spent : goal.overflow_cast-spent
overflow_cast-spent c = omega (arith, c.type_inv.costs c.loop-q.q)

pub overflow_add-spent : goal.overflow_add-spent
unfolding top
overflow_add-spent c = omega (arith, c.type_inv.costs c.loop-q.q, c.requires.5.low c.loop-q.q (omega arith))

pub offset_bounds-onward-to : goal.offset_bounds-onward-to
offset_bounds-onward-to c = omega (arith, c.type_inv.targets c.loop-q.q)

pub bounds-onward-to : goal.bounds-onward-to
bounds-onward-to c = omega (arith, c.type_inv.targets c.loop-q.q)

pub offset_bounds-onward-to-in-loop-q : goal.offset_bounds-onward-to-in-loop-q
offset_bounds-onward-to-in-loop-q c = omega (arith, c.type_inv.targets c.loop-q.q)

pub bounds-onward-to-in-loop-q : goal.bounds-onward-to-in-loop-q
bounds-onward-to-in-loop-q c = omega (arith, c.type_inv.targets c.loop-q.q)

pub loop-q-preserved : goal.loop-q-preserved
loop-q-preserved c = let l = c.loop-q in
    (omega arith, simp length-set l.invariant.1, pushed_more _ _ _ l.q _ (omega (arith, c.type_inv.targets l.q)) l.invariant.2 c.min.ensures)

pub shape_of-onward : goal.shape_of-onward
shape_of-onward c = c.loop-q.invariant.1

pub returns : goal.returns
returns c = pushed_end _ _ _ c.loop-q.invariant.2 c.loop-q.invariant.0 c.loop-q-test.false
