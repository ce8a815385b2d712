use Rattle.std.proofs.Common.{arith}
use Rattle.meaning.specs.Bounds.{top}
use Rattle.ranks.proofs.Looking.{best_one, best_more, best_stops, best_end}
use Rattle.ranks.proofs.pull.along.Goals as goal
use Rattle.ranks.proofs.pull.along.Goals.{else-loop-k-test, then-loop-k-test+then-best-low}

pub loop-k-init : goal.loop-k-init
loop-k-init c = (best_one _ _ _ _ (omega (arith, c.type_inv.row 0)) c.given-best.ensures)

pub overflow_add-low : goal.overflow_add-low
unfolding top
overflow_add-low c = omega (arith, c.cost_of.ensures, c.type_inv.row c.loop-k.k)

pub loop-k-preserved : goal.loop-k-preserved
loop-k-preserved c = let l = c.loop-k in
    rw c.min-best.ensures (best_more _ _ _ l.k l.best _ (omega arith) (omega (arith, c.type_inv.row l.k)) c.given.ensures l.invariant)

pub returns : goal.returns
unfolding top
returns c = let l = c.loop-k in
    rw c.min.ensures
    (elim c.loop-k-test.branch [
      | else-loop-k-test w ↦ best_end _ _ _ l.k l.best (omega arith) (omega arith) l.invariant
      | then-loop-k-test+then-best-low w ↦ best_stops _ _ _ l.k l.best (omega arith) (omega (arith, w.cost_of.ensures, w.if-best-low.true)) l.invariant
    ])
