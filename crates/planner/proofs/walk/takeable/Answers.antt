use Rattle.rules.specs.Checks.{rules_in}
use Rattle.rules.proofs.Checks.{test_failed, test_passed}
use Rattle.planner.proofs.Walking.{no_value, no_arc_lem, no_change, takes_at}
use Rattle.planner.proofs.walk.takeable.Goals as goal

pub returns-then-not-has : goal.returns-then-not-has
returns-then-not-has c = let a = c.args in
    no_value (rules_in a.rules.now).arcs a.work.now a.i a.mask.0 a.drawn.0 a.q.0 a.spent a.left a.v.0 (test_failed c.has.ensures c.if-not-has.true)

pub returns-then-rules-to : goal.returns-then-rules-to
returns-then-rules-to c = let a = c.args in
    no_arc_lem (rules_in a.rules.now).arcs a.work.now a.i a.mask.0 a.drawn.0 a.q.0 a.spent a.left a.v.0 (test_passed c.has.ensures c.if-not-has.false) c.arc_at-at.ensures c.if-rules-to.true

pub returns-in_default : goal.returns-in_default
returns-in_default c = let a = c.args in
    no_change (rules_in a.rules.now).arcs a.work.now a.i a.mask.0 a.drawn.0 a.q.0 a.spent a.left a.v.0 (test_passed c.has.ensures c.if-not-has.false) c.arc_at-at.ensures c.if-rules-to.false c.changed.ensures.0 c.in_default.ensures

pub returns : goal.returns
returns c = let a = c.args in
    takes_at (rules_in a.rules.now).arcs a.work.now a.i a.mask.0 a.drawn.0 a.q.0 a.spent a.left a.v.0 (test_passed c.has.ensures c.if-not-has.false) c.arc_at-at.ensures c.if-rules-to.false c.changed.ensures.0 c.in-Some.ensures.0 c.in-Some.ensures.1 c.room_at.ensures
