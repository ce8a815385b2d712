use mathlib.Core.Path.{refl, ◌∙◌}
use Rattle.kinds.proofs.Bits.{next_bit}
use Rattle.reach.proofs.Living.{live_none, live_more, live_skip, live_end}
use native.Mathlib.Omega.{arith}
use Rattle.reach.proofs.forward.living.Goals as goal
use Rattle.reach.proofs.forward.living.Goals.{then-front-q-le-TOP, else-front-q-le-TOP}

pub loop-q-init : goal.loop-q-init
loop-q-init c = (omega arith, live_none _, refl)

pub loop-q-preserved : goal.loop-q-preserved
loop-q-preserved c = let l = c.loop-q in
    let b = next_bit 64 l.q l.bit (omega arith) l.invariant.2 in
    elim c.if-front-q-le-TOP.branch [
      | then-front-q-le-TOP w ↦ (omega arith, w.live-is ∙ live_more _ l.q l.live l.bit (omega arith) l.invariant.1 l.invariant.2 w.if-front-q-le-TOP.true, b)
      | else-front-q-le-TOP w ↦ (omega arith, w.live-is ∙ live_skip _ l.q l.live l.invariant.1 w.if-front-q-le-TOP.false, b)
    ]

pub returns : goal.returns
returns c = live_end _ _ _ _ c.loop-q.invariant.0 c.loop-q-test.false c.loop-q.invariant.1
