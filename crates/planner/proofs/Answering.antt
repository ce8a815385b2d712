-- The returns of the planner, against the one equation. Assumes nothing.
use mathlib.Core.Path.{◌≡◌, refl, sym, ap, ◌∙◌}
use mathlib.Core.List.{List, []}
use Prim.Native.Nat.{ℕ, ◌≤◌, ◌<◌}
use native.Mathlib.Omega.{arith}
use lib.Dec.{leb}
use lib.ListN.{length, length-take}
use borrow.Author.Tests.{leb-true, eqb-true, le-leb, lt-leb}
use Rattle.std.specs.Prelude.{None, Some}
use Rattle.meaning.specs.Meaning.{places, rosters}
use Rattle.meaning.specs.Bounds.{most_changes, plan_size}
use Rattle.rules.specs.Checks.{Handed, tables_long}
use Rattle.rules.specs.Answers.{number_of, Check, decided, zeros, work_after}
use Rattle.rules.specs.declared.Answer.{Answer}
use Rattle.rules.proofs.Checks.{both, size_of_lem, sizes_of, long_tables, Passed, answered, all_passed}
use Rattle.rules.proofs.Refusals.{number_some, refused_by}
use Rattle.rooms.specs.Changes.{PlanSizes}
use Rattle.mending.specs.Outcomes.{planned, rosters_long, mend_checks, mend_done, mend_from, mend_of}
use Rattle.mending.proofs.Lengths.{long_of}
use Rattle.mending.specs.Mending.{mended}
use Rattle.planner.specs.Inner.{Mends}

-- the work table after a refusal: wiped above answer 2
pub work_wiped : {x : ℕ} (work : List ℕ) {is : List ℕ} → 2 < x → is ≡ zeros work → is ≡ work_after x work
work_wiped {x} work l e = rw (lt-leb x 2 l) e

pub work_kept : {x : ℕ} (work : List ℕ) → x ≤ 2 → work ≡ work_after x work
work_kept {x} work l = rw (le-leb x 2 l)

module _ (h : Handed) (ms ls ds : List ℕ) (k : ℕ) (roster work : List ℕ) where
  abbrev checks : List Check
  checks = mend_checks h ms ls ds k (length roster) (length work)

  -- a refusal: 1 and 2 leave the work table, the others clear it
  pub mend_refused : (a : Answer) → number_of a ≡ decided checks (λ n. n) 0 → {is : List ℕ} → is ≡ work_after (number_of a) work
      → planned (number_of a) 0 roster is ≡ mend_of h ms ls ds k roster work
  unfolding mend_of mend_from
  mend_refused a e f = rw f (refused_by (λ m. planned m 0 roster (work_after m work)) _ checks e (number_some a))

  module _ (judged : 0 ≡ decided checks (λ n. n) 0) where
    passed : Passed checks
    passed = answered (λ n. n) (λ n. n) 0 (λ n. refl) 0 checks refl (sym judged)

    -- what passed the checks is ready for the planner
    pub ready : PlanSizes h.rules.arcs.states h.rules.arcs.values h.rules.arcs.targets h.rules.arcs.costs ms ls ds k work × (h.start < h.rules.arcs.states) × (length roster ≡ length ms)
    ready =
        let z = sizes_of h.places h.rules.arcs.states h.rules.arcs.values h.start passed.0 in
        let y = size_of_lem h.rules.arcs.states h.rules.arcs.values h.start z.size in
        let b = both (tables_long h.rules.arcs.targets h.rules.arcs.costs) _ passed.1.0 in
        let t = long_tables h.rules.arcs.targets h.rules.arcs.costs b.0 in
        let d = both (rosters_long h.places (length ms) (length ls) (length ds) (length roster)) _ b.1 in
        let l = long_of h.places (length ms) (length ls) (length ds) (length roster) d.0 in
        let w : length work ≡ plan_size (length ms) = eqb-true _ _ d.1 ∙ ap plan_size (sym l.of_masks) in (
          record {
            plain = record {
              few_states_lem = y.few_states_lem;
              few_values = y.few_values;
              all_targets = t.0;
              all_costs = t.1;
              some_places = omega (arith, z.some_places, l.of_masks);
              few_places = omega (arith, z.few_places, l.of_masks);
              all_limits = l.of_limits ∙ sym l.of_masks;
              all_work = simp length-take (omega arith);
            };
            all_drawn = l.of_drawn ∙ sym l.of_masks;
            few_changes = leb-true _ _ (both (leb k most_changes) _ passed.1.1.1.1.0).0;
            all_rows = w;
          },
          y.start_state,
          l.of_out ∙ sym l.of_masks,
        )

    -- the mended roster with its changes, or that there is none
    module _ {out is : List ℕ} where
      pub mend_found : {n : ℕ} → Mends (rosters h.rules h.start 0 (places ms ls)) ds k roster out work is (Some n) → planned 0 n out is ≡ mend_of h ms ls ds k roster work
      unfolding mend_of mend_from mend_done
      mend_found m = rw (m.clear, all_passed (λ n. planned n 0 roster (work_after n work)) _ checks passed, m.roster.1, m.roster.2)

      pub mend_none : Mends (rosters h.rules h.start 0 (places ms ls)) ds k roster out work is None → planned 11 0 out is ≡ mend_of h ms ls ds k roster work
      unfolding mend_of mend_from mend_done
      mend_none m = rw (m.clear, all_passed (λ n. planned n 0 roster (work_after n work)) _ checks passed, m.roster.0, m.roster.1)

-- that there is none, by the list of rosters alone, as `auto` takes it: an exit that answers 11 needs no answer of its own
pub none_told : (h : Handed) (ms ls ds : List ℕ) (k : ℕ) (roster work : List ℕ) → 0 ≡ decided (mend_checks h ms ls ds k (length roster) (length work)) (λ n. n) 0
    → mended ds k (rosters h.rules h.start 0 (places ms ls)) ≡ [] → mend_of h ms ls ds k roster work ≡ planned 11 0 roster (zeros work)
none_told h ms ls ds k roster work e m = sym (mend_none h ms ls ds k roster work e (record { roster = (m, refl); clear = refl }))
