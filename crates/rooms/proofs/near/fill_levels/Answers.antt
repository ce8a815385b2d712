use native.Mathlib.Omega.{arith}
use Rattle.meaning.specs.Bounds.{top}
use Rattle.rooms.specs.Tables.{turned, frame}
use Rattle.rooms.proofs.Sizing.{plan_fewer}
use Rattle.rooms.proofs.Nearing.{searched_none, searched_more, finds_some, finds_none}
use Rattle.rooms.proofs.near.fill_levels.Goals as goal

pub loop-j-init : goal.loop-j-init
loop-j-init c = searched_none _ _ _ _ _

pub fill_level-requires : goal.fill_level-requires
fill_level-requires c = (plan_fewer _ c.requires.0 (omega arith) c.loop-j.auto.work, c.requires.2, c.loop-j.invariant.rooms)

pub overflow_mul-at : goal.overflow_mul-at
overflow_mul-at c = omega (arith, c.requires.0.few_changes)

pub overflow_add-at : goal.overflow_add-at
overflow_add-at c = omega (arith, c.requires.0.few_changes, c.requires.0.plain.few_states_lem, c.requires.1)

pub bounds-work-at : goal.bounds-work-at
bounds-work-at c = let p = c.requires.0 in omega (arith, p.few_changes, p.plain.few_states_lem, c.requires.1, p.all_rows, c.loop-j.auto.work, c.fill_level.auto.work)

pub returns-then-spent-saturating_sub : goal.returns-then-spent-saturating_sub
unfolding top
returns-then-spent-saturating_sub c = let a = c.args in
    finds_some (frame (turned a.targets.now a.costs.now) a.states a.values a.accepting) a.drawn.now a.masks.now a.limits.now c.requires.1 c.loop-j.invariant c.fill_level.ensures (rw c.from.ensures at c.saturating_sub.ensures) _ (omega arith) c.if-spent-saturating_sub.true

pub loop-j-preserved : goal.loop-j-preserved
unfolding top
loop-j-preserved c = let a = c.args in
    searched_more (frame (turned a.targets.now a.costs.now) a.states a.values a.accepting) a.drawn.now a.masks.now a.limits.now c.requires.1 c.loop-j.invariant c.fill_level.ensures (rw c.from.ensures at c.saturating_sub.ensures) (omega (arith, c.if-spent-saturating_sub.false))

pub returns : goal.returns
returns c = let a = c.args in
    finds_none (frame (turned a.targets.now a.costs.now) a.states a.values a.accepting) a.drawn.now a.masks.now a.limits.now a.most (omega arith) (omega arith) c.loop-j.invariant
