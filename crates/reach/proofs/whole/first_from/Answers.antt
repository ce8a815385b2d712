use mathlib.Core.Path.{refl, sym, ◌∙◌}
use lib.Seq.{length-take-le}
use native.Mathlib.Omega.{arith}
use Rattle.rules.proofs.Checks.{test_failed, test_passed}
use Rattle.rooms.proofs.Sizing.{sizes_same}
use Rattle.reach.proofs.Both.{ready_prepared, first_runs_not, first_runs_is}
use Rattle.reach.proofs.Narrowing.{alone_long, finds_is}
use Rattle.reach.proofs.whole.first_from.Goals as goal

pub returns-then-not-in_order : goal.returns-then-not-in_order
returns-then-not-in_order c = first_runs_not refl (λ s a b d e. c.in_order.ensures.wrong (test_failed refl c.if-not-in_order.true) a b d)

pub returns-then-count-place : goal.returns-then-count-place
returns-then-count-place c = first_runs_not refl (λ s a b d e. omega (arith, c.if-count-place.true))

pub returns-then-count-gt-MOST_PLACES : goal.returns-then-count-gt-MOST_PLACES
returns-then-count-gt-MOST_PLACES c = first_runs_not refl (λ s a b d e. omega (arith, c.if-count-gt-MOST_PLACES.true, s.few_places))

pub slice_bounds-room-end : goal.slice_bounds-room-end
slice_bounds-room-end c = c.if-count-gt-MOST_PLACES.false

pub slice_bounds-own-end : goal.slice_bounds-own-end
slice_bounds-own-end c = sym (length-take-le _ _ c.if-count-gt-MOST_PLACES.false)

pub narrow-requires : goal.narrow-requires
narrow-requires c = (c.if-count-place.false, length-take-le _ _ c.if-count-gt-MOST_PLACES.false)

pub slice_bounds-table-end : goal.slice_bounds-table-end
slice_bounds-table-end c = c.rows_for.ensures

pub slice_bounds-arcs-end : goal.slice_bounds-arcs-end
slice_bounds-arcs-end c = sym (length-take-le _ _ c.rows_for.ensures)

pub returns-then-not-prepare : goal.returns-then-not-prepare
returns-then-not-prepare c = let w = c.prepare.ensures.wrong (test_failed refl c.if-not-prepare.true) in
    let o = alone_long c.args.masks.now c.args.place _ c.narrow.ensures in
    first_runs_not w.4 (λ s a b d e. w.0 (sizes_same s refl refl o refl refl) refl refl)

pub walk-found-requires : goal.walk-found-requires
walk-found-requires c = let r = c.prepare in
    let q = r.ensures.right (test_passed refl c.if-not-prepare.false) in
    let i = c.in_order.ensures.right (test_passed refl c.if-not-in_order.false) in
    let s = q.0 in
    let k = r.auto in
    let o = alone_long c.args.masks.now c.args.place _ c.narrow.ensures in
    (sizes_same s (k.to ∙ sym s.all_targets) (k.fee ∙ sym s.all_costs) refl (sym s.all_limits) k.work, ready_prepared q.3, i.0, i.1, i.2 ∙ sym o)

pub returns : goal.returns
returns c = let r = c.prepare in
    let q = r.ensures.right (test_passed refl c.if-not-prepare.false) in
    let i = c.in_order.ensures.right (test_passed refl c.if-not-in_order.false) in
    let o = alone_long c.args.masks.now c.args.place _ c.narrow.ensures in
    let s = sizes_same q.0 refl refl (sym o) refl refl in
    first_runs_is s i c.if-count-place.false (finds_is s c.if-count-place.false c.narrow.ensures q.3 c.walk-found.ensures r.auto.work c.wipe.ensures)
