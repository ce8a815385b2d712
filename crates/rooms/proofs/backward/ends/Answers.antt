use native.Mathlib.Omega.{arith}
use Rattle.rooms.proofs.Filling.{filled_none, filled_more, filled_end}
use Rattle.rooms.proofs.backward.ends.Goals as goal

pub loop-q-init : goal.loop-q-init
loop-q-init c = filled_none _ _

pub loop-q-preserved : goal.loop-q-preserved
loop-q-preserved c = let l = c.loop-q.invariant in (filled_more _ (omega arith) l c.ending.ensures)

pub returns : goal.returns
returns c = let l = c.loop-q.invariant in filled_end l (omega arith) (omega arith)
