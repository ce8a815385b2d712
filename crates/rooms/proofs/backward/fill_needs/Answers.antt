use mathlib.Core.Path.{refl, ◌∙◌}
use native.Mathlib.Omega.{arith}
use Rattle.meaning.specs.Bounds.{top}
use Rattle.rooms.specs.Tables.{turned, frame}
use Rattle.rooms.proofs.Filling.{laid_outside, outside_none, outside_on}
use Rattle.rooms.proofs.Sizing.{sizes_same}
use Rattle.rooms.proofs.Layering.{needed_none, needed_low, layers_last, layers_low, layers_end}
use Rattle.rooms.proofs.Falling.{lays_down}
use Rattle.rooms.proofs.backward.fill_needs.Goals as goal

pub least_at-requires : goal.least_at-requires
least_at-requires c = omega (arith, c.requires.0.all_limits)

pub fill_last-requires : goal.fill_last-requires
fill_last-requires c = let p = c.requires.0 in (p.few_states_lem, refl, omega (arith, p.all_work))

pub loop-i-init : goal.loop-i-init
unfolding top
loop-i-init c = let p = c.requires.0 in
    let a = c.args in
    let l = c.fill_last in (
      omega arith,
      omega arith,
      layers_last (frame (turned a.targets.now a.costs.now) a.states a.values a.accepting) a.masks.now a.limits.now p.all_limits _ _ _ _ _ (omega (arith, l.auto.needs, p.few_states_lem)) l.auto.needs c.least_at.ensures (needed_none a.states refl) l.ensures,
      outside_none _ _ _,
    )

pub lay-span-requires : goal.lay-span-requires
lay-span-requires c = let l = c.loop-i.invariant in
    let n = c.loop-i-test.array_long in
    (sizes_same c.requires.0 refl refl refl refl (c.loop-i.auto.work ∙ c.fill_last.auto.work), omega arith, l.0, l.1, n, needed_low n l.2.1, layers_low l.2.0, record { none = l.2.1.none }, c.requires.1)

pub loop-i-preserved : goal.loop-i-preserved
loop-i-preserved c = let l = c.loop-i.invariant in
    let y = c.lay-span.ensures in
    (y.0, y.1, lays_down c.args.accepting c.loop-i-test.true y.2 l.2, outside_on l.3 y.2.beside)

pub returns : goal.returns
returns c = let a = c.args in
    let l = c.loop-i.invariant in
    (layers_end (frame (turned a.targets.now a.costs.now) a.states a.values a.accepting) a.masks.now a.limits.now c.requires.0.all_limits (omega arith) l.2.0, outside_on (laid_outside (omega arith) c.fill_last.ensures.0) l.3)
