use mathlib.Core.Path.{refl, sym, ◌∙◌}
use lib.ListN.{get_or-replicate}
use Rattle.rules.proofs.Checks.{test_failed, test_passed}
use Rattle.rooms.proofs.Sizing.{sizes_same}
use Rattle.reach.proofs.Both.{ready_prepared, ready_turned, filters_is, filter_runs_not, filter_runs_is}
use Rattle.reach.proofs.whole.passes.Goals as goal

pub returns-then-not-prepare : goal.returns-then-not-prepare
returns-then-not-prepare c = let w = c.prepare.ensures.wrong (test_failed refl c.if-not-prepare.true) in
    filter_runs_not w.4 (λ s a b d. w.0 s refl refl)

pub pass-least-requires : goal.pass-least-requires
pass-least-requires c = let r = c.prepare in
    let q = r.ensures.right (test_passed refl c.if-not-prepare.false) in
    let p = c.requires in
    let s = q.0 in
    let k = r.auto in
    let t = c.turn in (
      sizes_same s (k.to ∙ sym s.all_targets) (k.fee ∙ sym s.all_costs) refl (sym s.all_limits) k.work,
      ready_prepared q.3,
      p.0,
      p.1,
      p.2,
      ready_turned s (λ j. (c.type_inv.costs j).fits) q.3 p.3 k.arcs p.4 refl (λ j h. get_or-replicate 64 j 16777215 0 h) t.auto.into t.ensures,
    )

pub returns : goal.returns
returns c = let r = c.prepare in
    let q = r.ensures.right (test_passed refl c.if-not-prepare.false) in
    let p = c.requires in
    filter_runs_is q.0 (p.0, p.1, p.2) (filters_is q.0.all_limits q.3 c.pass-least.ensures r.auto.work c.wipe.ensures)
