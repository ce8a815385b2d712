use mathlib.Core.Path.{refl, ◌∙◌}
use Rattle.kinds.specs.Bits.{width}
use Rattle.kinds.proofs.Bits.{mask_lt}
use Rattle.reach.specs.Turning.{net_in}
use Rattle.rooms.proofs.Choosing.{choices_within, picked_less, through_none, through_more, through_end}
use Rattle.reach.specs.Looks.{Keeps}
use Rattle.reach.proofs.Sweeping.{some_left, none_left, next_picked, next_few, keeps_none, keeps_more}
use Rattle.reach.proofs.forward.keep.Goals as goal

pub loop-unseen-init : goal.loop-unseen-init
loop-unseen-init c = let a = c.args in (refl, through_none _ _ (rw c.meet-unseen.ensures (mask_lt _ width)) (keeps_none (net_in a.arcs.now) a.arcs.now.states a.front.now a.needs.now), tt)

pub look-kept-requires : goal.look-kept-requires
look-kept-requires c = let p = c.requires in let l = c.loop-unseen.invariant in
    (p.0, p.1, next_few l.1 c.smallest-v.ensures c.loop-unseen-test.ensures, l.0 ∙ p.2, p.3, l.2, p.4)

pub loop-unseen-smaller : goal.loop-unseen-smaller
loop-unseen-smaller c = picked_less (next_picked c.loop-unseen.invariant.1 c.smallest-v.ensures c.rest-unseen.ensures) (some_left c.loop-unseen-test.ensures)

pub loop-unseen-preserved : goal.loop-unseen-preserved
loop-unseen-preserved c = let a = c.args in let l = c.loop-unseen in
    let one = next_picked l.invariant.1 c.smallest-v.ensures c.rest-unseen.ensures in (
      c.look-kept.auto.hints ∙ l.invariant.0,
      through_more _ (λ us. Keeps (net_in a.arcs.now) a.arcs.now.states us a.front.now a.needs.now c.look-kept.result.0) one (some_left c.loop-unseen-test.ensures) (λ us s. keeps_more (net_in a.arcs.now) a.arcs.now.states a.front.now a.needs.now _ us c.look-kept.ensures.0 s) l.invariant.1,
      c.look-kept.ensures.1,
    )

pub shape_of-hints : goal.shape_of-hints
shape_of-hints c = c.loop-unseen.invariant.0

pub returns : goal.returns
returns c = let a = c.args in through_end (λ us. Keeps (net_in a.arcs.now) a.arcs.now.states us a.front.now a.needs.now c.loop-unseen.kept.0) (none_left c.loop-unseen-test.ensures) c.loop-unseen.invariant.1 (choices_within a.arcs.now.values a.mask.0 a.arcs.now.in_range.1 c.full.ensures c.meet-unseen.ensures)
