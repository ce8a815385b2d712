use Prim.Native.Nat.{◌+◌, ◌-◌}
use mathlib.Core.Path.{refl, ◌∙◌}
use lib.ListN.{length-take, length-drop}
use native.Mathlib.Omega.{arith}
use Rattle.kinds.proofs.Bits.{mask_lt}
use Rattle.kinds.specs.Bits.{width}
use Rattle.reach.specs.Turning.{net_in}
use Rattle.rooms.proofs.Choosing.{choices_within, picked_less, through_none, through_more, through_end}
use Rattle.reach.specs.Looks.{Swept}
use Rattle.reach.proofs.Sweeping.{some_left, none_left, next_picked, next_few, swept_none, swept_more}
use Rattle.reach.proofs.forward.sweep.Goals as goal

pub loop-unswept-init : goal.loop-unswept-init
loop-unswept-init c = let a = c.args in (refl, through_none _ _ (rw c.meet-unswept.ensures (mask_lt _ width)) (swept_none a.arcs.now.targets.now a.arcs.now.costs.now a.arcs.now.states a.front.now a.onward.now))

pub overflow_add-end : goal.overflow_add-end
overflow_add-end c = omega (arith, c.turned_at-at.ensures, next_few c.loop-unswept.invariant.1 c.smallest-v.ensures c.loop-unswept-test.ensures)

pub slice_bounds-push-end : goal.slice_bounds-push-end
slice_bounds-push-end c = omega (arith, c.turned_at-at.ensures, next_few c.loop-unswept.invariant.1 c.smallest-v.ensures c.loop-unswept-test.ensures)

pub offset_bounds-arcs-at : goal.offset_bounds-arcs-at
offset_bounds-arcs-at c = omega (arith, c.turned_at-at.ensures, next_few c.loop-unswept.invariant.1 c.smallest-v.ensures c.loop-unswept-test.ensures)

pub slice_bounds-push-end-in-loop-unswept : goal.slice_bounds-push-end-in-loop-unswept
slice_bounds-push-end-in-loop-unswept c = omega (arith, c.turned_at-at.ensures, next_few c.loop-unswept.invariant.1 c.smallest-v.ensures c.loop-unswept-test.ensures)

pub push-requires : goal.push-requires
push-requires c = let few = next_few c.loop-unswept.invariant.1 c.smallest-v.ensures c.loop-unswept-test.ensures in let e = c.turned_at-at.ensures in
    (c.args.arcs.now.in_range.0, simp (length-take, length-drop) (omega arith), simp (length-take, length-drop) (omega arith), c.requires.0, c.loop-unswept.invariant.0 ∙ c.requires.1, c.requires.2)

pub loop-unswept-smaller : goal.loop-unswept-smaller
loop-unswept-smaller c = picked_less (next_picked c.loop-unswept.invariant.1 c.smallest-v.ensures c.rest-unswept.ensures) (some_left c.loop-unswept-test.ensures)

pub loop-unswept-preserved : goal.loop-unswept-preserved
loop-unswept-preserved c = let a = c.args in let l = c.loop-unswept in
    let at = c.turned_at-at in
    let one = next_picked l.invariant.1 c.smallest-v.ensures c.rest-unswept.ensures in (
      c.push.auto.onward ∙ l.invariant.0,
      through_more _ (λ us. Swept (net_in a.arcs.now) a.arcs.now.states us a.front.now a.onward.now _) one (some_left c.loop-unswept-test.ensures) (λ us s. swept_more a.arcs.now.targets.now a.arcs.now.costs.now a.arcs.now.states a.front.now c.smallest-v.result.0 at.result (at.result + 64 - at.result) us (omega (arith, at.ensures)) (omega (arith, a.arcs.now.in_range.0)) c.push.ensures s) l.invariant.1,
    )

pub shape_of-onward : goal.shape_of-onward
shape_of-onward c = c.loop-unswept.invariant.0

pub returns : goal.returns
returns c = let a = c.args in through_end (λ us. Swept (net_in a.arcs.now) a.arcs.now.states us a.front.now a.onward.now c.loop-unswept.onward) (none_left c.loop-unswept-test.ensures) c.loop-unswept.invariant.1 (choices_within a.arcs.now.values a.mask.0 a.arcs.now.in_range.1 c.full.ensures c.meet-unswept.ensures)
