use Prim.Native.Nat.{◌≤◌}
use mathlib.Core.Path.{refl, sym, ◌∙◌}
use lib.ListN.{length, length-set, length-take, length-drop}
use Rattle.meaning.specs.Bounds.{top}
use Rattle.reach.specs.Turning.{net_in}
use Rattle.reach.proofs.Living.{start_low, row_low}
use Rattle.reach.proofs.Rising.{past_none}
use Rattle.reach.proofs.Passing.{passing_opens, passing_more, passing_some, passing_none}
use Rattle.rooms.proofs.Filling.{blanked_filled}
use Rattle.rooms.proofs.Layering.{needed_none}
use native.Mathlib.Omega.{arith}
use Rattle.reach.proofs.forward.pass.Goals as goal

pub bounds-work-from : goal.bounds-work-from
bounds-work-from c = omega (arith, c.from.ensures, c.requires.0.all_work, c.requires.0.few_states_lem)

pub open_front-requires : goal.open_front-requires
unfolding top
open_front-requires c = let p = c.requires in
    (p.2, p.0.few_states_lem, omega (arith, p.3), rw c.from.ensures (start_low p.2 p.1))

pub loop-i-init : goal.loop-i-init
unfolding top
loop-i-init c = let p = c.requires in
    let a = c.args in
    let h : a.arcs.now.states ≤ 256 = omega (arith, p.0.few_states_lem) in (
      c.open_front.auto.front,
      refl,
      c.blank.auto.row,
      refl,
      refl,
      refl,
      refl,
      p.4,
      omega arith,
      omega arith,
      past_none (net_in a.arcs.now) a.arcs.now.states a.arcs.now.values _ _,
      passing_opens (net_in a.arcs.now) a.arcs.now.states a.arcs.now.values a.spent a.masks.now a.work.now _ p.3 a.start.0 _ _ _ a.kept.now p.2 (rw c.from.ensures at c.open_front.ensures) (blanked_filled _ _ h c.blank.ensures) (needed_none a.arcs.now.states refl),
    )

pub overflow_add-at : goal.overflow_add-at
overflow_add-at c = omega (arith, c.requires.0.few_places)

pub overflow_mul-at : goal.overflow_mul-at
overflow_mul-at c = omega (arith, c.requires.0.few_places)

pub overflow_add-end : goal.overflow_add-end
overflow_add-end c = omega (arith, c.requires.0.few_places)

pub again-requires : goal.again-requires
again-requires c = c.loop-i-test.true

pub offset_bounds-work-at : goal.offset_bounds-work-at
offset_bounds-work-at c = omega (arith, c.requires.0.few_places)

pub slice_bounds-step-end : goal.slice_bounds-step-end
slice_bounds-step-end c = omega (arith, c.requires.0.all_work)

pub slice_bounds-step-end-in-loop-i : goal.slice_bounds-step-end-in-loop-i
slice_bounds-step-end-in-loop-i c = sym c.loop-i.invariant.0

pub slice_bounds-step-end-in-loop-i-2 : goal.slice_bounds-step-end-in-loop-i-2
slice_bounds-step-end-in-loop-i-2 c = sym c.loop-i.invariant.1

pub slice_bounds-step-end-in-loop-i-3 : goal.slice_bounds-step-end-in-loop-i-3
slice_bounds-step-end-in-loop-i-3 c = sym c.loop-i.invariant.2

pub slice_bounds-step-end-in-loop-i-4 : goal.slice_bounds-step-end-in-loop-i-4
slice_bounds-step-end-in-loop-i-4 c = sym c.loop-i.invariant.3

pub slice_bounds-step-end-in-loop-i-5 : goal.slice_bounds-step-end-in-loop-i-5
slice_bounds-step-end-in-loop-i-5 c = sym c.loop-i.invariant.4

pub slice_bounds-step-end-in-loop-i-6 : goal.slice_bounds-step-end-in-loop-i-6
slice_bounds-step-end-in-loop-i-6 c = sym c.loop-i.invariant.5

pub slice_bounds-step-end-in-loop-i-7 : goal.slice_bounds-step-end-in-loop-i-7
slice_bounds-step-end-in-loop-i-7 c = sym c.loop-i.invariant.6

pub step-requires : goal.step-requires
step-requires c = let a = c in
    let p = a.requires.0 in
    let l = c.loop-i.invariant in (
      omega (arith, p.few_places),
      simp (length-take, length-drop) (omega (arith, p.few_states_lem, p.all_work)),
      l.8,
      l.9,
      omega (arith, l.0),
      l.1,
      l.2,
      l.3,
      l.4,
      l.5,
      l.6,
      l.11.low,
      row_low a.args.arcs.now.states (length a.args.masks.now) c.loop-i.i a.args.work.now p.few_states_lem c.loop-i-test.true a.requires.1,
      l.11.bare,
      record { none = l.11.blank },
      l.10,
      a.requires.5,
    )

pub offset_bounds-kept-i : goal.offset_bounds-kept-i
offset_bounds-kept-i c = omega (arith, c.requires.0.few_places)

pub loop-i-preserved : goal.loop-i-preserved
loop-i-preserved c = let p = c.requires in
    let a = c.args in
    let l = c.loop-i in
    let s = c.step in (
      s.auto.front ∙ l.invariant.0,
      s.auto.needs ∙ l.invariant.1,
      s.auto.onward ∙ l.invariant.2,
      s.auto.hints ∙ l.invariant.3,
      s.auto.fronts ∙ l.invariant.4,
      s.auto.onwards ∙ l.invariant.5,
      s.auto.held ∙ l.invariant.6,
      simp length-set l.invariant.7,
      s.ensures.1,
      s.ensures.2,
      s.ensures.3,
      passing_more (net_in a.arcs.now) a.arcs.now.states a.arcs.now.values a.spent a.masks.now a.work.now _ p.3 l.i _ _ _ _ _ _ _ _ p.0.few_values c.loop-i-test.true l.invariant.7 p.0.few_states_lem l.invariant.1 s.auto.needs l.invariant.11 s.ensures.0,
    )

pub slice_bounds-cheapest-end : goal.slice_bounds-cheapest-end
slice_bounds-cheapest-end c = sym c.loop-i.invariant.0

pub cheapest-least-requires : goal.cheapest-least-requires
cheapest-least-requires c = let p = c.requires.0 in (p.few_states_lem, omega (arith, p.few_states_lem, c.loop-i.invariant.0))

pub returns-then-least-le-TOP : goal.returns-then-least-le-TOP
unfolding top
returns-then-least-le-TOP c = let p = c.requires in
    let a = c.args in
    let l = c.loop-i in
    passing_some (net_in a.arcs.now) a.arcs.now.states a.arcs.now.values a.spent a.masks.now a.work.now _ p.3 a.start.0 l.i _ _ _ _ _ p.2 (rw c.from.ensures at c.open_front.ensures) (omega arith) (omega arith) l.invariant.7 l.invariant.11 c.cheapest-least.ensures (omega arith)

pub returns-else-least-le-TOP : goal.returns-else-least-le-TOP
unfolding top
returns-else-least-le-TOP c = let p = c.requires in
    let a = c.args in
    let l = c.loop-i in
    passing_none (net_in a.arcs.now) a.arcs.now.states a.arcs.now.values a.spent a.masks.now a.work.now _ p.3 a.start.0 l.i _ _ _ _ _ p.2 (rw c.from.ensures at c.open_front.ensures) (omega arith) (omega arith) l.invariant.7 l.invariant.11 c.cheapest-least.ensures (omega arith)
