-- What the definition of a mended roster says. Assumes nothing.
use mathlib.Core.Path.{◌≡◌, refl, sym, ap, ◌∙◌, subst}
use mathlib.Core.Bool.{Bool, true, false, cond, ◌&&◌, and-eq-true_iff}
use mathlib.Core.Logic.{inl, inr, ⊎_elim, ◌↔◌}
use mathlib.Core.List.Memᴰ
use mathlib.Core.List.{List, [], ◌∷◌, map, nil≢cons, head-eq_of_cons-eq}
use mathlib.Core.List.Memᴰ.{cases_cons as cases}
use mathlib.Core.List.Memᴰ.{head}
use mathlib.Core.List.Memᴰ.{not-nil}
use mathlib.Core.List.{Memᴰ as In}
use Prim.Native.Nat.{ℕ, suc, ◌+◌, ◌≤◌, ◌<◌}
use native.Mathlib.Omega.{arith}
use lib.Dec.{eqb, leb, ltb}
use lib.ListN.{length, take}
use borrow.Author.Tests.{eqb-true, eq-eqb, leb-true, le-leb, ltb-true, lt-ltb}
use Rattle.meaning.specs.Meaning.{Rules, Place, rosters, answer}
use Rattle.meaning.specs.Lists.{those}
use Rattle.meaning.proofs.Lists.{those_in, in_those, those_same, both_ways}
use Rattle.meaning.proofs.Members.{roster_in, least_in, least_le}
use Rattle.meaning.proofs.Order.{Sooner, Rising, rising_those, rising}
use Rattle.mending.specs.Mending.{changes, fewest, mended}

-- no two words come before each other
not_sooner : (w z : List ℕ) → Sooner w z → Sooner z w → ⊥
not_sooner [] z h k = h
not_sooner (x ∷ w) [] h k = h
not_sooner (x ∷ w) (y ∷ z) (inl a) (inl b) = omega arith
not_sooner (x ∷ w) (y ∷ z) (inl a) (inr b) = omega (arith, b.0)
not_sooner (x ∷ w) (y ∷ z) (inr a) (inl b) = omega (arith, a.0)
not_sooner (x ∷ w) (y ∷ z) (inr a) (inr b) = not_sooner w z a.1 b.1

-- a roster has no changes from itself
pub changes_none : (w : List ℕ) → changes w w ≡ 0
unfolding changes
changes_none [] = refl
changes_none (v ∷ w) = rw (eq-eqb v v refl, changes_none w)

-- and one without changes is the drawn one
changes_same : (ds w : List ℕ) → length ds ≡ length w → changes ds w ≡ 0 → w ≡ ds
unfolding changes
changes_same [] [] e h = refl
changes_same [] (v ∷ w) e h = absurd (omega arith)
changes_same (d ∷ ds) [] e h = absurd (omega arith)
changes_same (d ∷ ds) (v ∷ w) e h = go (eqb v d) refl h (λ k. changes_same ds w (omega arith) k)
  where
    go : (b : Bool) → eqb v d ≡ b → cond b 0 1 + changes ds w ≡ 0 → (changes ds w ≡ 0 → w ≡ ds) → v ∷ w ≡ d ∷ ds
    go true k h rec = let f : v ≡ d = eqb-true _ _ k in rw (f, rec (omega arith))
    go false k h rec = absurd (omega arith)

-- the first of a list
pub first_in : {A : Type 0} (xs : List A) {x : A} → take 1 xs ≡ x ∷ [] → In x xs
first_in [] e = absurd (nil≢cons e)
first_in (y ∷ xs) e = head (sym (head-eq_of_cons-eq e))

none_in : {A : Type 0} (xs : List A) → take 1 xs ≡ [] → {x : A} → In x xs → ⊥
none_in [] e m = not-nil m
none_in (y ∷ xs) e m = nil≢cons (sym e)

pub nothing : {A : Type 0} (xs : List A) → ((x : A) → In x xs → ⊥) → xs ≡ []
nothing [] h = refl
nothing (x ∷ xs) h = absurd (h x (head refl))

-- of a rising list none comes before the first, and one that none comes before is the first
first_rises : (ws : List (List ℕ)) {w : List ℕ} → Rising ws → take 1 ws ≡ w ∷ [] → (z : List ℕ) → In z ws → Sooner z w → ⊥
first_rises [] s e z m t = not-nil m
first_rises (x ∷ ws) {w} s e z m t =
    let d : x ≡ w = head-eq_of_cons-eq e in
    let k : Sooner z x = subst (λ (u : List ℕ). Sooner z u) (sym d) t in
    ⊎_elim (λ y. not_sooner z x k (subst (λ (u : List ℕ). Sooner x u) (sym y) (subst (λ (u : List ℕ). Sooner u x) y k))) (λ y. not_sooner x z (s.0 z y) k) (cases m)

rises_first : (ws : List (List ℕ)) {w : List ℕ} → Rising ws → In w ws → ((z : List ℕ) → In z ws → Sooner z w → ⊥) → take 1 ws ≡ w ∷ []
rises_first [] s m h = absurd (not-nil m)
rises_first (x ∷ ws) {w} s m h = ⊎_elim (λ d. ap (λ (u : List ℕ). u ∷ []) (sym d)) (λ k. absurd (h x (head refl) (s.0 w k))) (cases m)

-- the fewest changes: no roster has less, and one has as many, if there is any
fewest_least : (ds : List ℕ) (ws : List (List ℕ)) {w : List ℕ} → In w ws → fewest ds ws ≤ changes ds w
unfolding fewest
fewest_least ds ws {w} m = least_le (changes ds w) (map (changes ds) ws) (Memᴰ.map (changes ds) m)

fewest_in : (ds : List ℕ) (ws : List (List ℕ)) {z : List ℕ} → In z ws → (w : List ℕ) × In w ws × (changes ds w ≡ fewest ds ws)
unfolding fewest
fewest_in ds ws m = let k = Memᴰ.of_map (changes ds) ws (least_in (map (changes ds) ws) (some ws m)) in (k.0, k.1, k.2)
  where
    some : (ws : List (List ℕ)) {z : List ℕ} → In z ws → answer (map (changes ds) ws) ≡ 0
    some [] m = absurd (not-nil m)
    some (w ∷ ws) m = refl

module _ (ds : List ℕ) (k : ℕ) (ws : List (List ℕ)) where
  -- those that the first is taken of
  abbrev best : List ℕ → Bool
  best w = eqb (changes ds w) (fewest ds ws) && leb (changes ds w) k

  best_of : (w : List ℕ) → best w ≡ true → (changes ds w ≡ fewest ds ws) × (changes ds w ≤ k)
  best_of w e = let a = (and-eq-true_iff (eqb (changes ds w) (fewest ds ws)) _).0 e in (eqb-true _ _ a.0, leb-true _ _ a.1)

  is_best : (w : List ℕ) → changes ds w ≡ fewest ds ws → changes ds w ≤ k → best w ≡ true
  is_best w e h = rw (eq-eqb _ _ e, le-leb _ _ h)

  -- where each roster has j changes or more, the first with no more than j is the mended one
  pub mended_first : (j : ℕ) {w : List ℕ} → j ≤ k → ((z : List ℕ) → In z ws → j ≤ changes ds z) → take 1 (those (λ z. ltb (changes ds z) (suc j)) ws) ≡ w ∷ []
      → (mended ds k ws ≡ w ∷ []) × (changes ds w ≡ j)
  unfolding mended
  mended_first j {w} h least e =
      let m = those_in (λ z. ltb (changes ds z) (suc j)) ws (first_in (those (λ z. ltb (changes ds z) (suc j)) ws) e) in
      let l : changes ds w < suc j = ltb-true _ _ m.1 in
      let y = fewest_in ds ws m.0 in
      let f : fewest ds ws ≡ j = omega (arith, fewest_least ds ws m.0, least w m.0, least y.0 y.1, y.2) in (
        ap (take 1) (those_same best (λ z. ltb (changes ds z) (suc j)) ws (λ z n. both_ways (best z) (ltb (changes ds z) (suc j))
            (λ b. lt-ltb (changes ds z) (suc j) (omega (arith, (best_of z b).0)))
            (λ b. let t = ltb-true (changes ds z) (suc j) b in is_best z (omega (arith, least z n)) (omega arith)))) ∙ e,
        omega (arith, least w m.0),
      )

  pub mended_none : ((z : List ℕ) → In z ws → changes ds z ≤ k → ⊥) → mended ds k ws ≡ []
  unfolding mended
  mended_none h = ap (take 1) (nothing (those best ws) (λ z m. let t = those_in best ws m in h z t.0 (best_of z t.1).1))

  pub mended_one : {w z : List ℕ} {zs : List (List ℕ)} → mended ds k ws ≡ w ∷ (z ∷ zs) → ⊥
  unfolding mended
  mended_one e = one (those best ws) e
    where
      one : (xs : List (List ℕ)) {w z : List ℕ} {zs : List (List ℕ)} → take 1 xs ≡ w ∷ (z ∷ zs) → ⊥
      one [] e = nil≢cons e
      one (x ∷ xs) e = let n : ◌≡◌ {A = ℕ} 1 (suc (suc _)) = ap length e in omega arith

-- THE MENDED ROSTER of a rule set: it is allowed, differs in at most k places, no allowed roster differs in fewer, and none that differs in as
-- few comes before it
pub record Mends (r : Rules) (q c : ℕ) (ps : List Place) (ds : List ℕ) (k : ℕ) (w : List ℕ) : Type 0 where
  pub allowed : In w (rosters r q c ps)
  pub few : changes ds w ≤ k
  pub fewest : (z : List ℕ) → In z (rosters r q c ps) → changes ds w ≤ changes ds z
  pub first : (z : List ℕ) → In z (rosters r q c ps) → changes ds z ≡ changes ds w → Sooner z w → ⊥

module _ (r : Rules) (q c : ℕ) (ps : List Place) (ds : List ℕ) (k : ℕ) where
  pub mended_means : (w : List ℕ) → (mended ds k (rosters r q c ps) ≡ w ∷ []) ↔ Mends r q c ps ds k w
  unfolding mended
  mended_means w = (fwd, bwd)
    where
      fwd : take 1 (those (best ds k (rosters r q c ps)) (rosters r q c ps)) ≡ w ∷ [] → Mends r q c ps ds k w
      fwd e =
          let m = those_in (best ds k (rosters r q c ps)) (rosters r q c ps) (first_in (those (best ds k (rosters r q c ps)) (rosters r q c ps)) e) in
          let b = best_of ds k (rosters r q c ps) w m.1 in
          record {
            allowed = m.0;
            few = b.1;
            fewest = λ z n. omega (arith, b.0, fewest_least ds (rosters r q c ps) n);
            first = λ z n d t. first_rises (those (best ds k (rosters r q c ps)) (rosters r q c ps)) (rising_those (best ds k (rosters r q c ps)) (rosters r q c ps) (rising r q c ps)) e z
                (in_those (best ds k (rosters r q c ps)) n (is_best ds k (rosters r q c ps) z (d ∙ b.0) (omega (arith, d, b.1)))) t;
          }

      bwd : Mends r q c ps ds k w → take 1 (those (best ds k (rosters r q c ps)) (rosters r q c ps)) ≡ w ∷ []
      bwd m =
          let y = fewest_in ds (rosters r q c ps) m.allowed in
          let f : changes ds w ≡ fewest ds (rosters r q c ps) = omega (arith, fewest_least ds (rosters r q c ps) m.allowed, m.fewest y.0 y.1, y.2) in
          rises_first (those (best ds k (rosters r q c ps)) (rosters r q c ps)) (rising_those (best ds k (rosters r q c ps)) (rosters r q c ps) (rising r q c ps))
          (in_those (best ds k (rosters r q c ps)) m.allowed (is_best ds k (rosters r q c ps) w f m.few))
          (λ z n. let t = those_in (best ds k (rosters r q c ps)) (rosters r q c ps) n in m.first z t.0 ((best_of ds k (rosters r q c ps) z t.1).0 ∙ sym f))

  -- there is none exactly if no allowed roster has k changes or fewer
  pub mended_empty : (mended ds k (rosters r q c ps) ≡ []) ↔ ((z : List ℕ) → In z (rosters r q c ps) → changes ds z ≤ k → ⊥)
  unfolding mended
  mended_empty = (
    λ e z m h.
        let y = fewest_in ds (rosters r q c ps) m in
        none_in (those (best ds k (rosters r q c ps)) (rosters r q c ps)) e
        (in_those (best ds k (rosters r q c ps)) y.1 (is_best ds k (rosters r q c ps) y.0 y.2 (omega (arith, y.2, fewest_least ds (rosters r q c ps) m)))),
    λ h. mended_none ds k (rosters r q c ps) h,
  )

  -- an allowed drawn roster comes back as it is
  pub drawn_allowed : In ds (rosters r q c ps) → mended ds k (rosters r q c ps) ≡ ds ∷ []
  drawn_allowed m = (mended_means ds).1 (record {
    allowed = m;
    few = omega (arith, changes_none ds);
    fewest = λ z n. omega (arith, changes_none ds);
    first = λ z n e s.
        let d : z ≡ ds = changes_same ds z (((roster_in r q c ps ds).0 m).0 ∙ sym ((roster_in r q c ps z).0 n).0) (e ∙ changes_none ds) in
        not_sooner z ds s (subst (λ (u : List ℕ). Sooner ds u) (sym d) (subst (λ (u : List ℕ). Sooner u ds) d s));
  })
