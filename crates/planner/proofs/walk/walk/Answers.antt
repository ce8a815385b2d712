use lib.ListN.{length-set}
use Rattle.rules.specs.Checks.{rules_in}
use Rattle.planner.proofs.Walking.{walking_more, walking_never, walks_end, takes_room}
use native.Mathlib.Omega.{arith}
use Rattle.planner.proofs.walk.walk.Goals as goal

pub returns-in_default : goal.returns-in_default
returns-in_default c = let a = c.args in
    let o = c.loop-i in
    record {
      first = λ net ls accepting k hk m. absurd (walking_never (rules_in a.rules.now).arcs a.rules.now.size.start.0 a.spent a.masks.now a.drawn.now a.work.now a.most o.roster o.q.0 o.cost o.left o.i a.rules.now.size.values
          c.loop-i-test.true c.requires.0.all_drawn o.invariant.0 o.invariant.1 c.in_default.ensures (omega arith) net ls accepting k hk m);
    }

pub overflow_sub-left : goal.overflow_sub-left
overflow_sub-left c = omega (arith, c.changed-left.ensures.0, (takes_room _ _ _ _ _ _ _ _ _ c.in-Some.ensures.2).1)

pub loop-i-preserved : goal.loop-i-preserved
loop-i-preserved c = let a = c.args in
    let o = c.loop-i in (
      simp length-set o.invariant.0,
      walking_more (rules_in a.rules.now).arcs a.rules.now.size.start.0 a.spent a.masks.now a.drawn.now a.work.now a.most o.roster o.q.0 o.cost o.left o.i c.in-Some.v.0
          c.loop-i-test.true c.requires.0.all_drawn o.invariant.0 o.invariant.1 c.in-Some.ensures.1 c.in-Some.ensures.0 c.in-Some.ensures.2 c.arc_at-at.ensures c.changed-left.ensures.0,
    )

pub returns : goal.returns
returns c = let a = c.args in
    let o = c.loop-i in
    record { first = walks_end (rules_in a.rules.now).arcs a.rules.now.size.start.0 a.spent a.masks.now a.drawn.now a.work.now a.most o.roster o.q.0 o.cost o.left o.i (omega arith) (omega arith) o.invariant.0 o.invariant.1 }
