use Prim.Native.Nat.{◌+◌}
use native.Mathlib.Omega.{arith}
use Rattle.rooms.specs.Tables.{turned}
use Rattle.rooms.proofs.Falling.{lays_like, lays_more}
use Rattle.rooms.proofs.backward.lay.Goals as goal

pub rise_to-requires : goal.rise_to-requires
rise_to-requires c = let p = c.requires in let s = p.0 in
    (s.few_states_lem, c.least_at-least.ensures, omega (arith, p.2), c.if-like-masks.true, s.few_places, s.all_limits, p.4, p.5, omega (arith, s.all_work, c.if-like-masks.true), p.6)

pub lay_like-requires : goal.lay_like-requires
lay_like-requires c = let p = c.requires in let s = p.0 in
    (s.few_states_lem, p.4, omega (arith, p.2), omega (arith, s.few_places, c.if-like-masks.true), omega (arith, s.all_work, c.if-like-masks.true), (c.rise_to.ensures _ c.in-Some.is).few, record { low = λ j q h l k. p.6.low j q h (omega (arith, l, c.if-like-masks.true)) k })

pub returns-in-Some : goal.returns-in-Some
returns-in-Some c = let a = c.args in let p = c.requires in let s = p.0 in
    (p.2, p.3, lays_like _ a.states a.values a.masks.now a.limits.now a.i _ _ _ _ _ s.few_states_lem s.all_limits c.least_at-least.ensures p.4 c.lay_like.auto.needs (a.i + a.span) _ (omega (arith, p.2)) c.if-like-masks.true (c.rise_to.ensures _ c.in-Some.is) c.lay_like.ensures)

pub fill_layer-requires : goal.fill_layer-requires
fill_layer-requires c = let p = c.requires in let s = p.0 in
    (s.few_states_lem, s.few_values, s.all_targets, s.all_costs, p.4, p.5, p.7, omega (arith, s.few_places, p.1), omega (arith, s.all_work, p.1), p.8)

pub returns : goal.returns
returns c = let a = c.args in let p = c.requires in let s = p.0 in
    (omega arith, omega arith, lays_more (turned a.targets.now a.costs.now) a.states a.values a.masks.now a.limits.now a.i _ _ _ _ _ s.few_states_lem s.all_limits c.least_at-least.ensures p.4 c.fill_layer.auto.needs p.1 c.fill_layer.ensures)
