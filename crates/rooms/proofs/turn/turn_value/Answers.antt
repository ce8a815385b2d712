use Rattle.rules.proofs.Checks.{arc_place}
use Rattle.rooms.proofs.Filling.{filled_none, filled_more, filled_end}
use native.Mathlib.Omega.{arith}
use Rattle.rooms.proofs.turn.turn_value.Goals as goal

pub loop-q-init : goal.loop-q-init
loop-q-init c = (filled_none _ _, filled_none _ _)

pub bounds-targets-at : goal.bounds-targets-at
bounds-targets-at c = omega (arith, arc_place {q = c.loop-q.q} {v = c.args.values} {u = c.args.v.0} (omega arith) (omega arith) (omega arith), c.arc_at-at.ensures)

pub offset_bounds-costs-at : goal.offset_bounds-costs-at
offset_bounds-costs-at c = omega (arith, arc_place {q = c.loop-q.q} {v = c.args.values} {u = c.args.v.0} (omega arith) (omega arith) (omega arith), c.arc_at-at.ensures)

pub bounds-costs-at : goal.bounds-costs-at
bounds-costs-at c = omega (arith, arc_place {q = c.loop-q.q} {v = c.args.values} {u = c.args.v.0} (omega arith) (omega arith) (omega arith), c.arc_at-at.ensures)

pub loop-q-preserved : goal.loop-q-preserved
loop-q-preserved c = let l = c.loop-q.invariant in
    (filled_more _ (omega arith) l.0 (rw c.arc_at-at.ensures), filled_more _ (omega arith) l.1 (rw c.arc_at-at.ensures))

pub returns : goal.returns
returns c = let l = c.loop-q.invariant in
    (filled_end l.0 (omega arith) (omega arith), filled_end l.1 (omega arith) (omega arith))
