-- What the answers of the planner and of the checker say, checks included, from any state and with any cost spent; and that the checker says yes to
-- whatever the planner proposes. Assumes nothing.
use mathlib.Core.Path.{◌≡◌, refl, sym, ap, ◌∙◌}
use mathlib.Core.Bool.{true, false}
use mathlib.Core.List.{List, [], ◌∷◌}
use mathlib.Core.List.{Memᴰ as In}
use mathlib.Core.Logic.{◌↔◌}
use Prim.Native.Nat.{ℕ, ◌≤◌}
use native.Mathlib.Omega.{arith}
use lib.Dec.{leb}
use lib.ListN.{length}
use borrow.Author.Tests.{eqb-true, eq-eqb}
use Rattle.meaning.specs.Bounds.{most_changes}
use Rattle.meaning.specs.Meaning.{places, rosters, allowed}
use Rattle.meaning.proofs.Members.{roster_in, length_places}
use Rattle.rules.specs.Answers.{Check, zeros, work_after}
use Rattle.rules.specs.Checks.{Handed, tables_long}
use Rattle.rules.specs.Report.{values_right}
use Rattle.rules.proofs.Checks.{both, and_goes, Passed, all_passed, others, answered}
use Rattle.rules.proofs.Walk.{below_right}
use Rattle.mending.specs.Mending.{changes, mended, right}
use Rattle.mending.specs.Outcomes.{Planned, planned, rosters_long, mend_checks, mend_done, mend_from, mend_of, Said, said, check_checks, check_from, check_of}
use Rattle.mending.proofs.Lengths.{long_of, long_last}
use Rattle.mending.proofs.Nearest.{Mends, changes_none, mended_one, mended_means, mended_empty, drawn_allowed}

-- THE CHECKER SAYS YES exactly if its checks are passed, the roster is allowed and has the claimed number of changes
pub check_says : (h : Handed) (q c : ℕ) (ms ls ds w : List ℕ) (claimed : ℕ)
    → (check_from h q c ms ls ds w claimed ≡ said 0 true)
    ↔ (Passed (check_checks h ms ls ds w) × (allowed h.rules q c (places ms ls) w ≡ true) × (changes ds w ≡ claimed))
unfolding check_from right
check_says h q c ms ls ds w claimed = (
  λ e.
      let p = answered (λ (y : Said). y.answer) (λ n. said n false) _ (λ n. refl) 0 (check_checks h ms ls ds w) refl (ap (λ (y : Said). y.answer) e) in
      let r = both (allowed h.rules q c (places ms ls) w) _ (ap (λ (y : Said). y.says) (sym (all_passed (λ n. said n false) _ (check_checks h ms ls ds w) p) ∙ e)) in
      (p, r.0, eqb-true _ _ r.1),
  λ y. all_passed (λ n. said n false) _ (check_checks h ms ls ds w) y.0 ∙ rw (y.1, eq-eqb (changes ds w) claimed y.2),
)

module _ (h : Handed) (q c : ℕ) (ms ls ds : List ℕ) (k : ℕ) (roster work : List ℕ) where
  abbrev found : List (List ℕ)
  found = mended ds k (rosters h.rules q c (places ms ls))

  abbrev checks : List Check
  checks = mend_checks h ms ls ds k (length roster) (length work)

  passed : (a : ℕ) → others a checks ≡ true → (mend_from h q c ms ls ds k roster work).answer ≡ a → Passed checks
  unfolding mend_from
  passed a o e = answered (λ (y : Planned). y.answer) (λ n. planned n 0 roster (work_after n work)) _ (λ n. refl) a checks o e

  done : Passed checks → mend_from h q c ms ls ds k roster work ≡ mend_done ds found roster work
  unfolding mend_from
  done p = all_passed _ _ checks p

  -- under 0 the one mended roster is proposed
  proposed : (mend_from h q c ms ls ds k roster work).answer ≡ 0
      → (w : List ℕ) × (found ≡ w ∷ []) × (mend_from h q c ms ls ds k roster work ≡ planned 0 (changes ds w) w (zeros work))
  unfolding mend_done
  proposed e = let d = done (passed 0 refl e) in go found refl d (sym (ap (λ (y : Planned). y.answer) d) ∙ e)
    where
      go : (ws : List (List ℕ)) → found ≡ ws → mend_from h q c ms ls ds k roster work ≡ mend_done ds ws roster work → (mend_done ds ws roster work).answer ≡ 0
          → (w : List ℕ) × (found ≡ w ∷ []) × (mend_from h q c ms ls ds k roster work ≡ planned 0 (changes ds w) w (zeros work))
      go [] f d z = absurd (omega arith)
      go (w ∷ []) f d z = (w, f, d)
      go (w ∷ (y ∷ ws)) f d z = absurd (mended_one ds k (rosters h.rules q c (places ms ls)) f)

  -- THE PLANNER PROPOSES the mended roster, with its number of changes
  pub mend_proposes : (mend_from h q c ms ls ds k roster work).answer ≡ 0
      → Mends h.rules q c (places ms ls) ds k (mend_from h q c ms ls ds k roster work).roster
      × ((mend_from h q c ms ls ds k roster work).changed ≡ changes ds (mend_from h q c ms ls ds k roster work).roster)
  mend_proposes e = let y = proposed e in rw y.2 ((mended_means h.rules q c (places ms ls) ds k y.0).0 y.1, refl)

  -- IT ANSWERS 11 exactly if its checks are passed and no allowed roster has k changes or fewer
  pub mend_none : ((mend_from h q c ms ls ds k roster work).answer ≡ 11)
      ↔ (Passed checks × ((z : List ℕ) → In z (rosters h.rules q c (places ms ls)) → changes ds z ≤ k → ⊥))
  unfolding mend_done
  mend_none = (
    λ e.
        let p = passed 11 refl e in
        (p, (mended_empty h.rules q c (places ms ls) ds k).0 (go found (sym (ap (λ (y : Planned). y.answer) (done p)) ∙ e))),
    λ y. ap (λ (y : Planned). y.answer) (done y.0) ∙ rw ((mended_empty h.rules q c (places ms ls) ds k).1 y.1),
  )
    where
      go : (ws : List (List ℕ)) → (mend_done ds ws roster work).answer ≡ 11 → ws ≡ []
      go [] z = refl
      go (w ∷ ws) z = absurd (omega arith)

  -- an allowed drawn roster comes back with no change
  pub drawn_comes_back : Passed checks → In ds (rosters h.rules q c (places ms ls)) → mend_from h q c ms ls ds k roster work ≡ planned 0 0 ds (zeros work)
  unfolding mend_done
  drawn_comes_back p m = done p ∙ rw (drawn_allowed h.rules q c (places ms ls) ds k m, changes_none ds)

  -- A PROPOSAL PASSES: the checker says yes to it, with the number of changes that the planner tells
  pub proposal_passes : (mend_from h q c ms ls ds k roster work).answer ≡ 0
      → check_from h q c ms ls ds (mend_from h q c ms ls ds k roster work).roster (mend_from h q c ms ls ds k roster work).changed ≡ said 0 true
  proposal_passes e =
      let y = proposed e in
      let w : List ℕ = y.0 in
      let p = passed 0 refl e in
      let t = both (tables_long h.rules.arcs.targets h.rules.arcs.costs) _ p.1.0 in
      let l = long_of h.places (length ms) (length ls) (length ds) (length roster) (both (rosters_long h.places (length ms) (length ls) (length ds) (length roster)) _ t.1).0 in
      let i = (roster_in h.rules q c (places ms ls) w).0 ((mended_means h.rules q c (places ms ls) ds k w).0 y.1).allowed in
      let n : length w ≡ h.places = i.0 ∙ (length_places ms ls (l.of_masks ∙ sym l.of_limits) ∙ l.of_masks) in
      let long = and_goes _ _ _ t.0 (sym (long_last _ _ _ _ _ l.of_masks l.of_limits l.of_drawn) ∙ eq-eqb (length w) h.places n) in
      let range = and_goes (values_right h.rules.arcs.values ds) _ _ (both (leb k most_changes) _ p.1.1.1.1.0).1 (below_right h.rules.arcs.values w i.1) in
      rw y.2 ((check_says h q c ms ls ds w (changes ds w)).1 ((p.0, (long, (p.1.1.0, (p.1.1.1.0, (range, tt))))), i.2, refl))

pub mend_then_check : (h : Handed) (ms ls ds : List ℕ) (k : ℕ) (roster work : List ℕ) → (mend_of h ms ls ds k roster work).answer ≡ 0
    → check_of h ms ls ds (mend_of h ms ls ds k roster work).roster (mend_of h ms ls ds k roster work).changed ≡ said 0 true
unfolding mend_of check_of
mend_then_check h ms ls ds k roster work e = proposal_passes h h.start 0 ms ls ds k roster work e
