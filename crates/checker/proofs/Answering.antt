-- The returns of the checker, against the one equation. Assumes nothing.
use mathlib.Core.Path.{◌≡◌, refl, sym, ◌∙◌}
use mathlib.Core.Bool.{Bool, true, false}
use mathlib.Core.List.{List}
use Prim.Native.Nat.{ℕ, ◌<◌}
use native.Mathlib.Omega.{arith}
use lib.ListN.{length}
use Rattle.meaning.specs.Meaning.{places}
use Rattle.rules.specs.Answers.{number_of, Check, decided}
use Rattle.rules.specs.declared.Answer.{Answer}
use Rattle.rules.specs.Checks.{Handed, tables_long}
use Rattle.rules.specs.Report.{values_right}
use Rattle.rules.proofs.Checks.{both, size_of_lem, sizes_of, long_tables, Passed, answered, all_passed}
use Rattle.rules.proofs.Refusals.{number_some, refused_by}
use Rattle.mending.specs.Mending.{right}
use Rattle.mending.specs.Outcomes.{said, check_checks, check_from, check_of}
use Rattle.mending.proofs.Lengths.{long_of}
use Rattle.checker.specs.Inner.{Sizes}

module _ (h : Handed) (ms ls ds w : List ℕ) where
  abbrev checks : List Check
  checks = check_checks h ms ls ds w

  pub check_refused : (claimed : ℕ) (a : Answer) → number_of a ≡ decided checks (λ n. n) 0 → said (number_of a) false ≡ check_of h ms ls ds w claimed
  unfolding check_of check_from
  check_refused claimed a e = refused_by (λ m. said m false) _ checks e (number_some a)

  module _ (judged : 0 ≡ decided checks (λ n. n) 0) where
    passed : Passed checks
    passed = answered (λ n. n) (λ n. n) 0 (λ n. refl) 0 checks refl (sym judged)

    -- what passed the checks is ready for the walk
    pub ready : Sizes h.rules ms ls ds w × (h.start < h.rules.arcs.states) × (values_right h.rules.arcs.values w ≡ true)
    ready =
        let v = h.rules.arcs.values in
        let z = sizes_of h.places h.rules.arcs.states v h.start passed.0 in
        let y = size_of_lem h.rules.arcs.states v h.start z.size in
        let b = both (tables_long h.rules.arcs.targets h.rules.arcs.costs) _ passed.1.0 in
        let k = long_tables h.rules.arcs.targets h.rules.arcs.costs b.0 in
        let l = long_of h.places (length ms) (length ls) (length ds) (length w) b.1 in (
          record {
            few_states_lem = y.few_states_lem;
            few_values = y.few_values;
            all_targets = k.0;
            all_costs = k.1;
            few_places = omega (arith, z.few_places, l.of_out);
            all_masks = l.of_masks ∙ sym l.of_out;
            all_limits = l.of_limits ∙ sym l.of_out;
            all_drawn = l.of_drawn ∙ sym l.of_out;
          },
          y.start_state,
          (both (values_right v ds) _ passed.1.1.1.1.0).1,
        )

    pub check_done : (claimed : ℕ) {b : Bool} → b ≡ right h.rules h.start 0 (places ms ls) ds w claimed → said 0 b ≡ check_of h ms ls ds w claimed
    unfolding check_of check_from
    check_done claimed e = rw e (sym (all_passed (λ m. said m false) _ checks passed))
