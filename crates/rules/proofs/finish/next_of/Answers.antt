use mathlib.Core.Path.{◌∙◌}
use native.Mathlib.Omega.{arith}
use Rattle.rules.proofs.Finishing.{next_none, next_more, next_skip}
use Rattle.rules.proofs.finish.next_of.Goals as goal
use Rattle.rules.proofs.finish.next_of.Goals.{then-from-arcs, else-from-arcs}

pub loop-v-init : goal.loop-v-init
loop-v-init c = next_none _ _

pub loop-v-preserved : goal.loop-v-preserved
loop-v-preserved c = let l = c.loop-v in
    let few = c.args.arcs.now.in_range.0 in
    let t = c.target_of-to.ensures in
    elim c.if-from-arcs.branch [
      | then-from-arcs w ↦ w.next-is ∙ next_more _ _ l.v l.next _ few l.invariant t (omega (arith, c.from.ensures, w.if-from-arcs.true))
      | else-from-arcs w ↦ w.next-is ∙ next_skip _ _ l.v l.next l.invariant (omega (arith, t, c.from.ensures, w.if-from-arcs.false))
    ]
