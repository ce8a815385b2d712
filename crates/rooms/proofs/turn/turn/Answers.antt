use mathlib.Core.Path.{◌≡◌}
use Prim.Native.Nat.{◌*◌}
use lib.ListN.{length-take, length-drop}
use Rattle.rooms.proofs.Filling.{laid_put}
use Rattle.rooms.proofs.Turning.{turned_none, turned_more, turned_end}
use native.Mathlib.Omega.{arith}
use Rattle.rooms.proofs.turn.turn.Goals as goal

pub loop-v-init : goal.loop-v-init
loop-v-init c = turned_none _ _ _

pub turn_value-requires : goal.turn_value-requires
turn_value-requires c = let p = c.requires in
    (p.0, p.1, p.2, p.3, omega arith, simp (length-take, length-drop) (omega arith), simp (length-take, length-drop) (omega arith))

pub loop-v-preserved : goal.loop-v-preserved
loop-v-preserved c = let l = c.loop-v in
    let t = c.turn_value in
    let h = c.requires.0 in
    let e : c.turned_at-at.result ≡ l.v * 64 = omega (arith, c.turned_at-at.ensures) in
    turned_more h l.invariant (laid_put l.v _ l.to _ h e (omega arith) t.auto.to t.ensures.0) (laid_put l.v _ l.fee _ h e (omega arith) t.auto.fee t.ensures.1)

pub returns : goal.returns
returns c = turned_end (omega arith) (omega arith) c.loop-v.invariant
