use native.Mathlib.Omega.{arith}
use Rattle.meaning.specs.Bounds.{top}
use Rattle.rules.proofs.Checks.{test_failed, test_passed}
use Rattle.checker.proofs.Following.{following_starts, following_more, arc_within, count_change, count_kept, stops_value, stops_arc, stops_limit, ends_count, ends_accepts}
use Rattle.checker.proofs.follow.right.Goals as goal
use Rattle.checker.proofs.follow.right.Goals.{then-v-drawn, else-v-drawn}

pub loop-i-init : goal.loop-i-init
loop-i-init c = following_starts c.requires.1 c.requires.2

pub returns-then-not-has : goal.returns-then-not-has
returns-then-not-has c = stops_value c.requires.0 c.loop-i.invariant c.loop-i-test.true (test_failed c.has.ensures c.if-not-has.true)

pub bounds-rules-at : goal.bounds-rules-at
bounds-rules-at c = omega (arith, c.requires.0.all_targets, arc_within c.requires.0 c.loop-i.invariant c.loop-i-test.true c.requires.3 c.arc_at-at.ensures)

pub bounds-rules-at-in-loop-i : goal.bounds-rules-at-in-loop-i
bounds-rules-at-in-loop-i c = omega (arith, c.requires.0.all_costs, arc_within c.requires.0 c.loop-i.invariant c.loop-i-test.true c.requires.3 c.arc_at-at.ensures)

pub overflow_add-reached : goal.overflow_add-reached
unfolding top
overflow_add-reached c = omega (arith, c.loop-i.invariant.low)

pub returns-then-size-to : goal.returns-then-size-to
returns-then-size-to c = stops_arc c.requires.0 c.loop-i.invariant c.loop-i-test.true (test_passed c.has.ensures c.if-not-has.false) c.arc_at-at.ensures c.if-size-to.true

pub returns-then-not-in_limit : goal.returns-then-not-in_limit
returns-then-not-in_limit c = stops_limit c.requires.0 c.loop-i.invariant c.loop-i-test.true (test_passed c.has.ensures c.if-not-has.false) c.arc_at-at.ensures (test_failed c.in_limit.ensures c.if-not-in_limit.true)

pub loop-i-preserved : goal.loop-i-preserved
loop-i-preserved c =
    following_more c.requires.0 c.loop-i.invariant c.loop-i-test.true (test_passed c.has.ensures c.if-not-has.false) c.arc_at-at.ensures
    c.if-size-to.false (test_passed c.in_limit.ensures c.if-not-in_limit.false)
    (elim c.if-v-drawn.branch [
      | then-v-drawn w ↦ count_change _ w.if-v-drawn.true w.changes-is
      | else-v-drawn w ↦ count_kept _ w.if-v-drawn.false w.changes-is
    ])

pub returns-then-changes-claimed : goal.returns-then-changes-claimed
returns-then-changes-claimed c = ends_accepts c.requires.0 c.loop-i.invariant c.loop-i-test.false c.if-changes-claimed.true c.holds.ensures

pub returns-else-changes-claimed : goal.returns-else-changes-claimed
returns-else-changes-claimed c = ends_count c.requires.0 c.loop-i.invariant c.loop-i-test.false c.if-changes-claimed.false
