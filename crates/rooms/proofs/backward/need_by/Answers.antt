use native.Mathlib.Omega.{arith}
use Prim.Native.Nat.{suc, ◌≤◌}
use lib.ListN.{get_or}
use Rattle.meaning.specs.Bounds.{top}
use Rattle.rooms.specs.Tables.{turned}
use Rattle.ranks.proofs.Parts.{within}
use Rattle.rooms.proofs.Filling.{most_top, low_fits}
use Rattle.rooms.proofs.backward.need_by.Goals as goal

pub bounds-targets-at : goal.bounds-targets-at
bounds-targets-at c = omega (arith, c.turned_at-at.ensures)

pub overflow_cast-result : goal.overflow_cast-result
overflow_cast-result c = omega (arith, c.type_inv.targets c.turned_at-at.result)

pub offset_bounds-needs-targets : goal.offset_bounds-needs-targets
offset_bounds-needs-targets c = omega (arith, c.type_inv.targets c.turned_at-at.result)

pub bounds-needs-targets : goal.bounds-needs-targets
bounds-needs-targets c = omega (arith, c.type_inv.targets c.turned_at-at.result)

pub offset_bounds-costs-at : goal.offset_bounds-costs-at
offset_bounds-costs-at c = omega (arith, c.turned_at-at.ensures)

pub bounds-costs-at : goal.bounds-costs-at
bounds-costs-at c = omega (arith, c.turned_at-at.ensures)

pub overflow_cast-result-2 : goal.overflow_cast-result-2
overflow_cast-result-2 c = omega (arith, c.type_inv.costs c.turned_at-at.result)

pub overflow_add-result : goal.overflow_add-result
overflow_add-result c = let at = c.turned_at-at.result in
    let h : get_or c.args.costs.now at 0 ≤ 366001 = omega (arith, c.type_inv.costs at) in
    omega (arith, low_fits (c.requires.3.low (get_or c.args.targets.now at 0) (omega (arith, c.type_inv.targets at))) (most_top h))

pub returns : goal.returns
unfolding turned
returns c = let at = c.turned_at-at.result in
    rw (within c.args.needs.now (get_or c.args.targets.now at 0) 0 (suc top) (omega (arith, c.type_inv.targets at)), c.turned_at-at.ensures)
