use Rattle.meaning.specs.Bounds.{top}
use lib.ListN.{get_or}
use native.Mathlib.Omega.{arith}
use Rattle.reach.proofs.Needing.{arc_fits}
use Rattle.reach.proofs.tables.Turned.leads_on.Goals as goal

pub overflow_add-result : goal.overflow_add-result
unfolding top
overflow_add-result c = omega arith

pub overflow_add-result-2 : goal.overflow_add-result-2
unfolding top
overflow_add-result-2 c = omega (arith, c.requires.4.low (get_or c.args.self.now.targets.now c.turned_at-at.result 0) (omega arith))

pub returns : goal.returns
returns c = let a = c.args in
    arc_fits a.self.now.targets.now a.self.now.costs.now a.needs.now a.spent a.q.0 a.v.0 c.turned_at-at.ensures (omega arith)
