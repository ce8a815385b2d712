use mathlib.Core.Path.{refl, sym, ◌∙◌}
use Prim.Native.Nat.{◌<◌}
use native.Mathlib.Omega.{arith}
use Rattle.meaning.specs.Meaning.{arcs_of}
use Rattle.rules.proofs.Checks.{test_failed, test_passed}
use Rattle.rooms.specs.Tables.{turned}
use Rattle.rooms.proofs.Sizing.{plan_same, nears_not, nears_is}
use Rattle.rooms.proofs.near.fewest.Goals as goal
use Rattle.rooms.proofs.near.fewest.Goals.{then-not-fits-via-then-not-fits, then-not-fits-via-else-not-fits+then-states-from}

pub returns-then-not-fits : goal.returns-then-not-fits
returns-then-not-fits c = nears_not (λ s l. let h : c.args.start.0 < c.args.states = l in elim c.then-not-fits.branch [
  | then-not-fits-via-then-not-fits w ↦ c.fits.ensures.1 (test_failed refl w.if-not-fits.true) s
  | then-not-fits-via-else-not-fits+then-states-from w ↦ omega (arith, w.from.ensures, w.if-states-from.true)
])

pub turn-requires : goal.turn-requires
turn-requires c = let s = (c.fits.ensures.0 (test_passed refl c.if-not-fits.false)).plain in (s.few_states_lem, s.few_values, s.all_targets, s.all_costs, refl, refl)

pub fill_levels-requires : goal.fill_levels-requires
fill_levels-requires c = let s = c.fits.ensures.0 (test_passed refl c.if-not-fits.false) in
    let t = c.turn in
    let r = c.rank in
    let a = c.args in (
      plan_same s (t.auto.to ∙ sym s.plain.all_targets) (t.auto.fee ∙ sym s.plain.all_costs),
      omega arith,
      λ e. record {
        of = arcs_of a.states a.values a.targets.now a.costs.now;
        states = refl;
        values = refl;
        same = t.ensures.0;
        ranked = r.ensures.right s.plain.few_states_lem s.plain.few_values s.plain.all_targets s.plain.all_costs (sym r.auto.out ∙ e);
      },
    )

pub returns : goal.returns
returns c = let s = c.fits.ensures.0 (test_passed refl c.if-not-fits.false) in
    let t = c.turn in
    nears_is (turned t.new.to t.new.fee) s (omega arith) t.ensures.0 c.fill_levels.ensures
