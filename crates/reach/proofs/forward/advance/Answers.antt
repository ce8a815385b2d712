use Prim.Native.Nat.{suc}
use mathlib.Core.Path.{refl, ◌∙◌}
use lib.ListN.{length-set}
use Rattle.meaning.specs.Bounds.{top}
use Rattle.ranks.proofs.Parts.{within}
use Rattle.rooms.proofs.Filling.{filled_none, filled_more, filled_end}
use native.Mathlib.Omega.{arith}
use Rattle.reach.proofs.forward.advance.Goals as goal

pub loop-q-init : goal.loop-q-init
loop-q-init c = (omega arith, refl, refl, filled_none _ _, filled_none _ _)

pub strike-requires : goal.strike-requires
strike-requires c = let l = c.loop-q in
    let p = c.requires in
    (rw (l.invariant.4.left l.q (omega arith)) (p.5.low l.q (omega arith)), p.4.low l.q (omega arith))

pub loop-q-preserved : goal.loop-q-preserved
unfolding top
loop-q-preserved c = let l = c.loop-q in
    (omega arith, simp length-set l.invariant.1, simp length-set l.invariant.2, filled_more _ (omega arith) l.invariant.3 (c.strike.ensures ∙ rw (l.invariant.4.left l.q (omega arith), within c.args.needs.now l.q 0 (suc top) (omega arith))), filled_more _ (omega arith) l.invariant.4 refl)

pub shape_of-front : goal.shape_of-front
shape_of-front c = c.loop-q.invariant.1

pub shape_of-onward : goal.shape_of-onward
shape_of-onward c = c.loop-q.invariant.2

pub returns : goal.returns
returns c = (filled_end c.loop-q.invariant.3 c.loop-q.invariant.0 c.loop-q-test.false, filled_end c.loop-q.invariant.4 c.loop-q.invariant.0 c.loop-q-test.false)
