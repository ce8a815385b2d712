use mathlib.Core.Path.{◌∙◌}
use native.Mathlib.Omega.{arith}
use Rattle.rooms.proofs.Filling.{filled_none, filled_more, filled_end}
use Rattle.rooms.proofs.backward.lessen.Goals as goal
use Rattle.rooms.proofs.backward.lessen.Goals.{then-first, else-first}
use Rattle.meaning.specs.Bounds.{top}

pub loop-q-init : goal.loop-q-init
loop-q-init g c = filled_none _ _

pub loop-q-preserved : goal.loop-q-preserved
unfolding top
loop-q-preserved g c = filled_more _ (omega arith) c.loop-q.invariant (c.least_by.ensures ∙ elim c.if-first.branch [
  | then-first w ↦ rw (w.was-is, w.if-first.true)
  | else-first w ↦ rw (w.was-is, w.if-first.false, c.loop-q.invariant.left c.loop-q.q (omega arith))
])

pub returns : goal.returns
returns g c = filled_end c.loop-q.invariant (omega arith) (omega arith)
