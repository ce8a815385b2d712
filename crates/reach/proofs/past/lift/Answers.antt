use native.Mathlib.Omega.{arith}
use mathlib.Core.Path.{refl}
use lib.ListN.{length-set}
use Rattle.rooms.proofs.Filling.{filled_none, filled_more, filled_end}
use Rattle.reach.proofs.past.lift.Goals as goal

pub loop-k-init : goal.loop-k-init
loop-k-init c = (omega arith, refl, filled_none _ _)

pub raised-requires : goal.raised-requires
raised-requires c = (c.requires.3.low c.loop-k.k (omega arith), c.requires.2)

pub loop-k-preserved : goal.loop-k-preserved
loop-k-preserved c = (omega arith, simp length-set c.loop-k.invariant.1, filled_more _ (omega arith) c.loop-k.invariant.2 c.raised.ensures)

pub shape_of-row : goal.shape_of-row
shape_of-row c = c.loop-k.invariant.1

pub returns : goal.returns
returns c = filled_end c.loop-k.invariant.2 c.loop-k.invariant.0 c.loop-k-test.false
