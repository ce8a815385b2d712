use mathlib.Core.Path.{refl, ◌∙◌}
use native.Mathlib.Omega.{arith}
use lib.ListN.{length-take, length-drop}
use Rattle.rules.proofs.Checks.{test_failed, test_passed}
use Rattle.reach.specs.Turning.{net_in}
use Rattle.reach.proofs.Rising.{past_low, spread_known, spread_swept}
use Rattle.reach.proofs.forward.gather.Goals as goal

pub lift-requires : goal.lift-requires
lift-requires c = let p = c.requires in
    let a = c.args.arcs.now in
    let k = c.in-Some.ensures in
    (simp (length-take, length-drop) (omega arith), omega arith, k.low, past_low (net_in a) a.states a.values a.in_range.0 p.0 k.some p.8)

pub returns-in-Some : goal.returns-in-Some
returns-in-Some c = let p = c.requires in
    let a = c.args in
    spread_known (net_in a.arcs.now) a.arcs.now.states a.arcs.now.values a.slot a.mask.0 _ a.front.now a.fronts.now a.onwards.now a.held.now _ _ a.arcs.now.in_range.0 p.0 p.8 c.in-Some.ensures c.lift.ensures

pub sweep-requires : goal.sweep-requires
sweep-requires c = let p = c.requires in
    (omega (arith, c.args.arcs.now.in_range.0, p.1), c.pulled.auto.onward ∙ p.5, p.6)

pub returns-then-not-pulled : goal.returns-then-not-pulled
returns-then-not-pulled c = let a = c.args in
    spread_swept (net_in a.arcs.now) a.arcs.now.states a.arcs.now.values a.mask.0 (c.pulled.ensures.none (test_failed refl c.if-not-pulled.true)) c.sweep.ensures

pub returns-else-not-pulled : goal.returns-else-not-pulled
returns-else-not-pulled c = let u = c.pulled.ensures in
    let e = test_passed refl c.if-not-pulled.false in
    u.right e (net_in c.args.arcs.now) (c.requires.9 (u.long e))
