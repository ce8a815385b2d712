use Prim.Native.Nat.{◌+◌, ◌*◌}
use mathlib.Core.Path.{refl, sym, ◌∙◌}
use lib.ListN.{length, length-set}
use Rattle.kinds.proofs.Lowest.{smallest_some, rest_less}
use Rattle.meaning.specs.Bounds.{top}
use Rattle.reach.specs.Turning.{net_in}
use Rattle.rooms.proofs.Filling.{part_copied}
use Rattle.rooms.proofs.Layering.{needed_none}
use Rattle.reach.proofs.Living.{row_low}
use Rattle.reach.proofs.Needing.{filled_low}
use Rattle.reach.proofs.Walking.{walking_starts, walking_more, walks_none, walks_some, trying_none, trying_takes, trying_more, trying_tried, turned_to, turned_fee}
use native.Mathlib.Omega.{arith}
use Rattle.reach.proofs.walk.walk.Goals as goal

pub loop-i-init : goal.loop-i-init
unfolding top
loop-i-init c = let p = c.requires in
    let a = c.args in
    (refl, p.4, walking_starts (net_in a.arcs.now) a.arcs.now.states a.arcs.now.values a.start.0 a.spent a.masks.now a.work.now a.roster.now _ p.2 p.3 (needed_none a.arcs.now.states refl))

pub overflow_add-row : goal.overflow_add-row
overflow_add-row c = omega (arith, c.requires.0.few_places)

pub overflow_mul-row : goal.overflow_mul-row
overflow_mul-row c = omega (arith, c.requires.0.few_places)

pub overflow_add-end : goal.overflow_add-end
overflow_add-end c = omega (arith, c.requires.0.few_places)

pub offset_bounds-work-row : goal.offset_bounds-work-row
offset_bounds-work-row c = omega (arith, c.requires.0.few_places)

pub slice_bounds-copy-end : goal.slice_bounds-copy-end
slice_bounds-copy-end c = omega (arith, c.requires.0.all_work)

pub slice_bounds-copy-end-in-loop-i : goal.slice_bounds-copy-end-in-loop-i
slice_bounds-copy-end-in-loop-i c = sym c.loop-i.invariant.0

pub loop-needs-init : goal.loop-needs-init
loop-needs-init c = trying_none _ _ _ _ _ _ (omega (arith, c.type_inv.masks c.loop-i.i))

pub slice_bounds-leads_on-end : goal.slice_bounds-leads_on-end
slice_bounds-leads_on-end c = sym (c.copy.auto.row ∙ c.loop-i.invariant.0)

pub leads_on-requires : goal.leads_on-requires
leads_on-requires c = let p = c.requires in
    let a = c.args in
    let o = c.loop-i in
    let l = c.copy in
    let t = c.loop-i-test.true in (
      l.auto.row ∙ o.invariant.0,
      omega (arith, o.invariant.2.state, p.0.few_states_lem),
      omega (arith, o.invariant.2.low),
      omega (arith, p.0.few_values, c.if-arcs-from.false),
      filled_low o.invariant.0 o.invariant.2.bare (part_copied ((o.i + 1) * 64) a.work.now p.0.few_states_lem (omega (arith, t, p.0.all_work)) (omega (arith, o.invariant.0, p.0.few_states_lem)) l.ensures) (row_low a.arcs.now.states (length a.masks.now) o.i a.work.now p.0.few_states_lem t p.1).low,
    )

pub loop-needs-smaller : goal.loop-needs-smaller
loop-needs-smaller c = let l = c.loop-needs in rw c.rest-left.ensures (rest_less l.left.0 (smallest_some l.left.0 (omega (arith, c.smallest-v.ensures, c.if-arcs-from.false, c.requires.0.few_values))) l.invariant.few)

pub loop-needs-preserved : goal.loop-needs-preserved
loop-needs-preserved c = trying_more _ _ _ _ _ _ c.loop-needs.invariant c.smallest-v.ensures (omega (arith, c.if-arcs-from.false, c.requires.0.few_values)) c.leads_on.ensures c.if-leads_on.false c.rest-left.ensures

pub overflow_add-cost : goal.overflow_add-cost
unfolding top
overflow_add-cost c = omega (arith, c.loop-i.invariant.2.low)

pub loop-i-preserved : goal.loop-i-preserved
loop-i-preserved c = let p = c.requires in
    let a = c.args in
    let o = c.loop-i in
    let l = c.copy in
    let v = c.smallest-v in
    let e = c.turned_at-at.ensures in
    let h = c.loop-i-test.true in
    let k = c.if-arcs-from.false in (
      l.auto.row ∙ o.invariant.0,
      simp length-set o.invariant.1,
      walking_more (net_in a.arcs.now) a.arcs.now.states a.arcs.now.values a.start.0 a.spent a.masks.now a.work.now a.roster.now o.roster o.needs _ o.q.0 o.cost o.i v.result.0
          p.0.few_states_lem h o.invariant.1 o.invariant.0 l.auto.row o.invariant.2 (part_copied ((o.i + 1) * 64) a.work.now p.0.few_states_lem (omega (arith, h, p.0.all_work)) (omega (arith, o.invariant.0, p.0.few_states_lem)) l.ensures) (trying_tried _ _ _ _ _ _ c.loop-needs.invariant v.ensures v.result.0 (omega arith) (omega arith)) (omega arith) (trying_takes _ _ _ _ _ _ c.loop-needs.invariant v.ensures (omega (arith, k, p.0.few_values)) c.leads_on.ensures) c.if-leads_on.true
          (turned_to a.arcs.now.targets.now a.arcs.now.costs.now o.q.0 v.result.0 e) (turned_fee a.arcs.now.targets.now a.arcs.now.costs.now o.q.0 o.cost v.result.0 e),
    )

pub returns-then-arcs-from : goal.returns-then-arcs-from
returns-then-arcs-from c = let p = c.requires in
    let a = c.args in
    let o = c.loop-i in
    walks_none (net_in a.arcs.now) a.arcs.now.states a.arcs.now.values a.start.0 a.spent a.masks.now a.work.now a.roster.now o.roster o.needs _ o.q.0 o.cost o.i a.arcs.now.values
    p.0.few_states_lem c.loop-i-test.true o.invariant.1 o.invariant.0 c.copy.auto.row o.invariant.2 (part_copied ((o.i + 1) * 64) a.work.now p.0.few_states_lem (omega (arith, c.loop-i-test.true, p.0.all_work)) (omega (arith, o.invariant.0, p.0.few_states_lem)) c.copy.ensures) (trying_tried _ _ _ _ _ _ c.loop-needs.invariant c.smallest-v.ensures a.arcs.now.values (omega arith) (omega arith)) (omega arith)

pub returns-after-loop-i : goal.returns-after-loop-i
returns-after-loop-i c = let p = c.requires in
    let a = c.args in
    let o = c.loop-i in
    walks_some (net_in a.arcs.now) a.arcs.now.states a.arcs.now.values a.start.0 a.spent a.masks.now a.work.now a.roster.now o.roster o.needs o.q.0 o.cost o.i
    p.0.some_places (omega arith) (omega arith) o.invariant.1 o.invariant.2
