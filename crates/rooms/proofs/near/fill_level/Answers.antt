use mathlib.Core.Path.{refl, ◌∙◌}
use native.Mathlib.Omega.{arith}
use Rattle.meaning.specs.Bounds.{top}
use Rattle.rooms.specs.Tables.{turned, frame}
use Rattle.rooms.proofs.Layering.{needed_low}
use Rattle.rooms.proofs.Nearing.{spare_none, spare_on, beside_none, beside_on, laid_beside, level_last, level_more, level_low, level_end}
use Rattle.rooms.proofs.near.fill_level.Goals as goal

pub least_at-requires : goal.least_at-requires
least_at-requires c = omega (arith, c.requires.0.plain.all_limits)

pub overflow_mul-last : goal.overflow_mul-last
overflow_mul-last c = omega (arith, c.requires.0.plain.few_places)

pub overflow_add-last : goal.overflow_add-last
overflow_add-last c = omega (arith, c.requires.0.plain.few_places, c.requires.0.few_changes)

pub fill_last-requires : goal.fill_last-requires
fill_last-requires c = let p = c.requires.0 in (p.plain.few_states_lem, refl, omega (arith, p.all_rows, p.few_changes))

pub loop-i-init : goal.loop-i-init
unfolding top
loop-i-init c = let a = c.args in
    let p = c.requires.0 in
    let l = c.fill_last in (
      refl,
      l.auto.needs,
      spare_none a.states a.j refl,
      level_last (frame (turned a.targets.now a.costs.now) a.states a.values a.accepting) a.drawn.now a.masks.now a.limits.now p.plain.all_limits p.all_drawn _ a.j p.plain.few_states_lem p.few_changes refl l.auto.needs c.least_at.ensures c.requires.2 l.ensures,
      beside_none _ _ _,
    )

pub least_at-least-requires : goal.least_at-least-requires
least_at-least-requires c = omega (arith, c.requires.0.plain.all_limits)

pub bounds-drawn-i : goal.bounds-drawn-i
bounds-drawn-i c = omega (arith, c.requires.0.all_drawn)

pub lay_row-requires : goal.lay_row-requires
lay_row-requires c = let a = c.args in
    let p = c.requires.0 in
    let l = c.loop-i.invariant in
    (p.plain.few_states_lem, p.plain.few_values, p.plain.all_targets, p.plain.all_costs, omega (arith, p.plain.few_places), p.few_changes, omega (arith, c.fill_last.auto.work, p.all_rows), l.0, l.2, level_low (frame (turned a.targets.now a.costs.now) a.states a.values a.accepting) a.drawn.now a.masks.now a.limits.now c.loop-i-test.true (omega arith) l.3.0, l.1, needed_low l.1 l.3.1, c.requires.1)

pub loop-i-preserved : goal.loop-i-preserved
loop-i-preserved c = let a = c.args in
    let p = c.requires.0 in
    let l = c.loop-i.invariant in
    let t = c.loop-i-test.true in
    let y = c.lay_row in (
      y.auto.fewer ∙ l.0,
      y.auto.needs ∙ l.1,
      spare_on l.0 y.auto.fewer l.2 (level_low (frame (turned a.targets.now a.costs.now) a.states a.values a.accepting) a.drawn.now a.masks.now a.limits.now t (omega arith) l.3.0) y.ensures.0,
      level_more (frame (turned a.targets.now a.costs.now) a.states a.values a.accepting) a.drawn.now a.masks.now a.limits.now p.plain.all_limits p.all_drawn c.loop-i.i _ a.j p.plain.few_states_lem p.few_changes l.0 y.auto.fewer l.1 y.auto.needs t (omega arith) c.least_at-least.ensures l.2 l.3 y.ensures,
      beside_on l.4 (laid_beside _ _ p.few_changes y.ensures.1),
    )

pub returns : goal.returns
returns c = let l = c.loop-i.invariant in
    (level_end (omega arith) l.3.0, beside_on (laid_beside _ _ c.requires.0.few_changes c.fill_last.ensures.0) l.4)
