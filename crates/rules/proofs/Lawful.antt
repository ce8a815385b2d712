-- What the check of the tables says of them, entry by entry; that no roster of a lawful rule set passes the top, so that only masks and lower
-- limits tell its rosters from its accepted words; and that kept masks pass the check of masks. Assumes nothing.
use mathlib.Core.Path.{◌≡◌, refl}
use mathlib.Core.Logic.{◌⊎◌, ⊎_elim, inl, inr}
use mathlib.Core.Bool.{Bool, true, false, ◌&&◌, and-false, or-true}
use mathlib.Core.List.{List, [], ◌∷◌, map}
use Prim.Native.Nat.{ℕ, zero, suc, ◌+◌, ◌*◌, ◌^◌, ◌≤◌, ◌<◌, min}
use native.Mathlib.Decide.{ℕ_discrete}
use native.Mathlib.Omega.{arith}
use lib.Arith.{digits_lt}
use lib.Dec.{eqb, leb, ltb}
use lib.ListN.{length, get_or, take}
use lib.Seq.{take-length}
use borrow.Author.Tests.{eq-eqb, eqb-true, leb-true, ltb-true, lt-ltb, le-leb}
use Rattle.kinds.specs.Bits.{bit}
use Rattle.meaning.specs.Bounds.{most_places, most_cost, no_target, top}
use Rattle.meaning.specs.Lists.{from, all}
use Rattle.meaning.specs.Meaning.{Rules, rules_of, target, cost, has_arc, accepted, total, Place, fits, words, rosters, kept_at, kept, verdict_of}
use Rattle.meaning.specs.Prefixes.{accepted_words}
use Rattle.rules.specs.Checks.{arc_right, tables_from, tables_right, masks_right}
use Rattle.rules.proofs.Checks.{both, or_cases}
use Rattle.meaning.proofs.Lists.{those_same}
use Rattle.meaning.proofs.Members.{Below, words_in}
use Rattle.meaning.proofs.Kept.{kept_lt}

abbrev pub ArcIn : ℕ → ℕ → ℕ → Type 0
ArcIn q t c = ((t ≡ no_target) × (c ≡ 0)) ⊎ ((t < q) × (c ≤ most_cost))

pub record Lawful (r : Rules) : Type 0 where
  pub bits : r.accepting < 2 ^ r.arcs.states
  pub entry : (k : ℕ) → k < r.arcs.states * r.arcs.values → ArcIn r.arcs.states (get_or r.arcs.targets k 0) (get_or r.arcs.costs k 0)

all_at : (f : ℕ → Bool) (i n k : ℕ) → all f (from i n) ≡ true → i ≤ k → k < i + n → f k ≡ true
all_at f i zero k h a b = absurd (omega arith)
all_at f i (suc n) k h a b =
    let p : (f i ≡ true) × (all f (from (suc i) n) ≡ true) = both (f i) _ h in
    go p.0 (ℕ_discrete i k) (λ x. all_at f (suc i) n k p.1 x (omega arith))
  where
    go : f i ≡ true → Dec (i ≡ k) → (suc i ≤ k → f k ≡ true) → f k ≡ true
    go x (yes e) later = rw (← e) x
    go x (no e) later = later (omega arith)

arc_in_lem : (q t c : ℕ) → arc_right q t c ≡ true → ArcIn q t c
unfolding arc_right
arc_in_lem q t c h =
    or_cases (eqb t no_target && eqb c 0) (ltb t q && leb c most_cost) h
    (λ e. let p = both (eqb t no_target) _ e in inl (eqb-true _ _ p.0, eqb-true _ _ p.1))
    (λ e. let p = both (ltb t q) _ e in inr (ltb-true _ _ p.0, leb-true _ _ p.1))

pub lawful : (q v : ℕ) (t c : List ℕ) (a : ℕ) → tables_right q v t c a ≡ true → Lawful (rules_of q v t c a)
unfolding tables_right tables_from
lawful q v t c a h =
    let p = both (all (λ k. arc_right q (get_or t k 0) (get_or c k 0)) (from 0 (q * v))) _ h in
    record {
      bits = ltb-true _ _ p.1;
      entry = λ k l. arc_in_lem _ _ _ (all_at (λ k. arc_right q (get_or t k 0) (get_or c k 0)) 0 (q * v) k p.0 (omega arith) (omega arith));
    }

all_of : (f : ℕ → Bool) (i n : ℕ) → ((k : ℕ) → i ≤ k → k < i + n → f k ≡ true) → all f (from i n) ≡ true
all_of f i zero h = refl
all_of f i (suc n) h = rw (h i (omega arith) (omega arith)) (all_of f (suc i) n (λ k a b. h k (omega arith) (omega arith)))

in_arc : (q t c : ℕ) → ArcIn q t c → arc_right q t c ≡ true
unfolding arc_right
in_arc q t c h =
    ⊎_elim (λ x. rw (eq-eqb t no_target x.0, eq-eqb c 0 x.1)) (λ x. rw (lt-ltb t q x.0, le-leb c most_cost x.1) (or-true (eqb t no_target && eqb c 0))) h

pub lawful_right : (r : Rules) → Lawful r → tables_right r.arcs.states r.arcs.values r.arcs.targets r.arcs.costs r.accepting ≡ true
unfolding tables_right tables_from
lawful_right r w =
    rw (all_of (λ k. arc_right r.arcs.states (get_or r.arcs.targets k 0) (get_or r.arcs.costs k 0)) 0 (r.arcs.states * r.arcs.values)
    (λ k a b. in_arc _ _ _ (w.entry k (omega arith))))
    (lt-ltb _ _ w.bits)

module _ (r : Rules) (w : Lawful r) where
  cost_most : (q v : ℕ) → q < r.arcs.states → v < r.arcs.values → cost r.arcs q v ≤ most_cost
  cost_most q v h k = ⊎_elim (λ x. omega arith) (λ x. x.1) (w.entry (q * r.arcs.values + v) (digits_lt h k))

  -- the running cost of an accepted roster after i steps
  pub running_most : (i q c : ℕ) (xs : List ℕ) → q < r.arcs.states → Below r.arcs.values xs → accepted r q xs ≡ true
      → total r.arcs q c (take i xs) ≤ c + i * most_cost
  running_most zero q c xs h b a = omega arith
  running_most (suc i) q c [] h b a = omega arith
  running_most (suc i) q c (v ∷ xs) h b a =
      let p = both (has_arc r.arcs q v) _ a in
      let k : cost r.arcs q v ≤ most_cost = cost_most q v h b.0 in
      omega (arith, running_most i (target r.arcs q v) (c + cost r.arcs q v) xs (ltb-true _ _ p.0) b.1 p.1)

  -- NONE OF 366 PLACES PASSES 366,000: neither at a place nor in all
  pub running_top : (i q : ℕ) (xs : List ℕ) → i ≤ most_places → q < r.arcs.states → Below r.arcs.values xs → accepted r q xs ≡ true
      → total r.arcs q 0 (take i xs) ≤ top
  unfolding top
  running_top i q xs l h b a = omega (arith, running_most i q 0 xs h b a)

  pub roster_top : (q : ℕ) (xs : List ℕ) → length xs ≤ most_places → q < r.arcs.states → Below r.arcs.values xs → accepted r q xs ≡ true
      → total r.arcs q 0 xs ≤ top
  roster_top q xs l h b a = rw (take-length xs) at (running_top (length xs) q xs l h b a)

  -- WHERE NEITHER MASKS NOR LIMITS FORBID ANY, THE ROSTERS ARE THE ACCEPTED WORDS
  abbrev Free : List Place → Type 0
  Free [] = Unit {0}
  Free (p ∷ ps) = ((v : ℕ) → v < r.arcs.values → bit p.mask v ≡ true) × (top ≤ p.limit) × Free ps

  free_fits : (q c : ℕ) (ps : List Place) (xs : List ℕ) → Free ps → length xs ≡ length ps → q < r.arcs.states → Below r.arcs.values xs → accepted r q xs ≡ true
      → c + length xs * most_cost ≤ top → fits r.arcs q c ps xs ≡ true
  free_fits q c [] [] f e h b a l = refl
  free_fits q c [] (v ∷ xs) f e h b a l = absurd (omega arith)
  free_fits q c (p ∷ ps) [] f e h b a l = absurd (omega arith)
  free_fits q c (p ∷ ps) (v ∷ xs) f e h b a l =
      let k = both (has_arc r.arcs q v) _ a in
      let m : cost r.arcs q v ≤ most_cost = cost_most q v h b.0 in
      rw (
        f.0 v b.0,
        le-leb (c + cost r.arcs q v) (min p.limit top) (omega (arith, f.1)),
        free_fits (target r.arcs q v) (c + cost r.arcs q v) ps xs f.2 (omega arith) (ltb-true _ _ k.0) b.1 k.1 (omega arith),
      )

  pub free_rosters : (q : ℕ) (ps : List Place) → Free ps → length ps ≤ most_places → q < r.arcs.states → rosters r q 0 ps ≡ accepted_words r q (length ps)
  unfolding rosters accepted_words
  free_rosters q ps f l h =
      those_same _ _ (words r.arcs.values (length ps)) (λ xs m. let t = words_in r.arcs.values (length ps) xs m in go xs t (accepted r q xs) refl)
    where
      go : (xs : List ℕ) → (length xs ≡ length ps) × Below r.arcs.values xs → (b : Bool) → accepted r q xs ≡ b → (fits r.arcs q 0 ps xs && b) ≡ b
      go xs t true a = rw (free_fits q 0 ps xs f t.0 h t.1 a (unfold top in (omega (arith, t.0))))
      go xs t false a = and-false (fits r.arcs q 0 ps xs)

-- no kept mask has a bit at or above V
pub kept_right : (r : Rules) (q c : ℕ) (ps : List Place) → masks_right r.arcs.values (verdict_of r q c ps).masks ≡ true
unfolding masks_right verdict_of kept
kept_right r q c ps = go 0 (length ps)
  where
    go : (i n : ℕ) → all (λ m. ltb m (2 ^ r.arcs.values)) (map (kept_at r.arcs.values (rosters r q c ps)) (from i n)) ≡ true
    go i zero = refl
    go i (suc n) = rw (lt-ltb _ _ (kept_lt r.arcs.values (rosters r q c ps) i)) (go (suc i) n)
