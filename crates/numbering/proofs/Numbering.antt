-- The numbering: its list has each reached configuration once, and the sheet accepts what the automaton accepts. Assumes nothing.
use mathlib.Core.Path.{◌≡◌, refl, sym, ap, ◌∙◌, subst}
use mathlib.Core.Bool.{Bool, true, false, cond, ◌||◌, false≢true}
use mathlib.Core.Logic.{◌⊎◌, inl, inr, ⊎_elim, ◌↔◌}
use mathlib.Core.List.{List, [], ◌∷◌, ◌++◌, map, append-nil, append_assoc}
use Prim.Native.Nat.{ℕ, zero, suc, ◌+◌, ◌≤◌, ◌<◌}
use native.Mathlib.Omega.{arith}
use native.Mathlib.Decide.{ℕ_discrete, dec_lt}
use native.Mathlib.Nat.{zero-add, suc-add}
use lib.Dec.{eqb, ltb}
use lib.ListN.{length, get_or, length-append, get_or-append}
use borrow.Author.Tests.{eqb-true, eq-eqb, ne_eqb, eqb-false, ltb-true, lt-ltb, le-ltb}
use Rattle.meaning.specs.Lists.{from}
use Rattle.numbering.specs.Numbering.{Reached, begin, on, is_in, index_of, meet, meets, row_of, met, Distinct, nothing, another, MoreThan}
use Rattle.rules.proofs.Checks.{or_cases, or_left, or_right, or_no}

-- membership
pub in_append : (c : ℕ) (xs ys : List ℕ) → is_in c (xs ++ ys) ≡ (is_in c xs || is_in c ys)
in_append c [] ys = refl
in_append c (x ∷ xs) ys = go (eqb x c) (in_append c xs ys)
  where
    go : (b : Bool) → is_in c (xs ++ ys) ≡ (is_in c xs || is_in c ys) → (b || is_in c (xs ++ ys)) ≡ ((b || is_in c xs) || is_in c ys)
    go true h = refl
    go false h = h

in_at : (xs : List ℕ) (i : ℕ) → i < length xs → is_in (get_or xs i 0) xs ≡ true
in_at [] i h = absurd (omega arith)
in_at (x ∷ xs) zero h = or_left (eqb x x) (is_in x xs) (eq-eqb x x refl)
in_at (x ∷ xs) (suc i) h = or_right (eqb x (get_or xs i 0)) (is_in (get_or xs i 0) xs) (in_at xs i (omega arith))

pub index_lt : (c : ℕ) (xs : List ℕ) → is_in c xs ≡ true → index_of c xs < length xs
index_lt c [] h = absurd (false≢true h)
index_lt c (x ∷ xs) h = go (eqb x c) h (λ k. index_lt c xs k)
  where
    go : (b : Bool) → (b || is_in c xs) ≡ true → (is_in c xs ≡ true → index_of c xs < length xs) → cond b 0 (suc (index_of c xs)) < suc (length xs)
    go true h rec = omega arith
    go false h rec = let r = rec h in omega arith

pub at_index : (c : ℕ) (xs : List ℕ) → is_in c xs ≡ true → get_or xs (index_of c xs) 0 ≡ c
at_index c [] h = absurd (false≢true h)
at_index c (x ∷ xs) h = go (eqb x c) refl h (λ k. at_index c xs k)
  where
    go : (b : Bool) → eqb x c ≡ b → (b || is_in c xs) ≡ true → (is_in c xs ≡ true → get_or xs (index_of c xs) 0 ≡ c) → get_or (x ∷ xs) (cond b 0 (suc (index_of c xs))) 0 ≡ c
    go true e h rec = eqb-true x c e
    go false e h rec = rec h

distinct_end : (c : ℕ) {xs : List ℕ} → Distinct xs → is_in c xs ≡ false → Distinct (xs ++ (c ∷ []))
distinct_end c nothing h = another refl nothing
distinct_end c (another {x} {xs} n d) h =
    let o = or_no (eqb x c) (is_in c xs) h in
    another (in_append x xs (c ∷ []) ∙ rw (n, ne_eqb c x (λ e. eqb-false x c o.0 (sym e)))) (distinct_end c d o.1)

-- a list that goes on
pub record Grown (xs zs : List ℕ) : Type 0 where
  pub more : List ℕ
  pub same : zs ≡ xs ++ more

pub grown_refl : (xs : List ℕ) → Grown xs xs
grown_refl xs = record { more = []; same = sym (append-nil xs) }

pub grown_trans : {xs ys zs : List ℕ} → Grown xs ys → Grown ys zs → Grown xs zs
grown_trans {xs} g h = record { more = g.more ++ h.more; same = h.same ∙ ap (λ (l : List ℕ). l ++ h.more) g.same ∙ append_assoc xs g.more h.more }

pub grown_in : {xs zs : List ℕ} (c : ℕ) → Grown xs zs → is_in c xs ≡ true → is_in c zs ≡ true
grown_in {xs} c g h = ap (is_in c) g.same ∙ in_append c xs g.more ∙ or_left (is_in c xs) (is_in c g.more) h

grown_at : {xs zs : List ℕ} (i : ℕ) → Grown xs zs → i < length xs → get_or zs i 0 ≡ get_or xs i 0
grown_at {xs} i g h = ap (λ (l : List ℕ). get_or l i 0) g.same ∙ get_or-append xs g.more 0 i h

pub grown_length : {xs zs : List ℕ} → Grown xs zs → length xs ≤ length zs
grown_length {xs} g = let e = ap length g.same ∙ length-append xs g.more in omega arith

-- one configuration met
module _ (cs : List ℕ) (c : ℕ) where
  pub meet_grown : Grown cs (meet cs c)
  unfolding meet
  meet_grown = go (eqb c 0 || is_in c cs)
    where
      go : (b : Bool) → Grown cs (cond b cs (cs ++ (c ∷ [])))
      go true = grown_refl cs
      go false = record { more = c ∷ []; same = refl }

  pub meet_has : (c ≡ 0 → ⊥) → is_in c (meet cs c) ≡ true
  unfolding meet
  meet_has n = go (is_in c cs) refl
    where
      go : (b : Bool) → is_in c cs ≡ b → is_in c (cond (eqb c 0 || is_in c cs) cs (cs ++ (c ∷ []))) ≡ true
      go true e = rw (ne_eqb c 0 n, e) e
      go false e = rw (ne_eqb c 0 n, e) (in_append c cs (c ∷ []) ∙ or_right (is_in c cs) (is_in c (c ∷ [])) (or_left (eqb c c) false (eq-eqb c c refl)))

  meet_distinct : Distinct cs → Distinct (meet cs c)
  unfolding meet
  meet_distinct d = go (eqb c 0 || is_in c cs) refl
    where
      go : (b : Bool) → (eqb c 0 || is_in c cs) ≡ b → Distinct (cond b cs (cs ++ (c ∷ [])))
      go true e = d
      go false e = distinct_end c d (or_no (eqb c 0) (is_in c cs) e).1

  meet_in_lem : (x : ℕ) → is_in x (meet cs c) ≡ true → (is_in x cs ≡ true) ⊎ ((x ≡ c) × (c ≡ 0 → ⊥))
  unfolding meet
  meet_in_lem x h = go (eqb c 0 || is_in c cs) refl h
    where
      go : (b : Bool) → (eqb c 0 || is_in c cs) ≡ b → is_in x (cond b cs (cs ++ (c ∷ []))) ≡ true → (is_in x cs ≡ true) ⊎ ((x ≡ c) × (c ≡ 0 → ⊥))
      go true e h = inl h
      go false e h =
          or_cases (is_in x cs) (is_in x (c ∷ [])) (sym (in_append x cs (c ∷ [])) ∙ h) (λ k. inl k) (λ k. inr (⊎_elim (λ l. sym (eqb-true c x l)) (λ l. absurd (false≢true l)) (or_cases (eqb c x) false k inl inr), eqb-false c 0 (or_no (eqb c 0) (is_in c cs) e).0))

-- a row of configurations met
pub meets_grown : (row cs : List ℕ) → Grown cs (meets cs row)
unfolding meets
meets_grown [] cs = grown_refl cs
meets_grown (c ∷ row) cs = grown_trans (meet_grown cs c) (meets_grown row (meet cs c))

meets_distinct : (row cs : List ℕ) → Distinct cs → Distinct (meets cs row)
unfolding meets
meets_distinct [] cs d = d
meets_distinct (c ∷ row) cs d = meets_distinct row (meet cs c) (meet_distinct cs c d)

pub meets_has : (row cs : List ℕ) (x : ℕ) → is_in x row ≡ true → (x ≡ 0 → ⊥) → is_in x (meets cs row) ≡ true
unfolding meets
meets_has [] cs x h z = absurd (false≢true h)
meets_has (c ∷ row) cs x h z =
    or_cases (eqb c x) (is_in x row) h (λ k. let e : c ≡ x = eqb-true c x k in grown_in x (meets_grown row (meet cs c)) (rw e (meet_has cs x z))) (λ k. meets_has row (meet cs c) x k z)

meets_in_lem : (row cs : List ℕ) (x : ℕ) → is_in x (meets cs row) ≡ true → (is_in x cs ≡ true) ⊎ ((is_in x row ≡ true) × (x ≡ 0 → ⊥))
unfolding meets
meets_in_lem [] cs x h = inl h
meets_in_lem (c ∷ row) cs x h =
    ⊎_elim
    (λ k. ⊎_elim (λ l. inl l) (λ l. inr (or_left (eqb c x) (is_in x row) (eq-eqb c x (sym l.0)), λ e. l.1 (sym l.0 ∙ e))) (meet_in_lem cs c x k))
    (λ k. inr (or_right (eqb c x) (is_in x row) k.0, k.1))
    (meets_in_lem row (meet cs c) x h)

map_has : (f : ℕ → ℕ) (i n u : ℕ) → i ≤ u → u < i + n → is_in (f u) (map f (from i n)) ≡ true
map_has f i zero u h k = absurd (omega arith)
map_has f i (suc n) u h k = go (ℕ_discrete i u) (λ l. map_has f (suc i) n u l (omega arith))
  where
    go : Dec (i ≡ u) → (suc i ≤ u → is_in (f u) (map f (from (suc i) n)) ≡ true) → (eqb (f i) (f u) || is_in (f u) (map f (from (suc i) n))) ≡ true
    go (yes e) rec = or_left (eqb (f i) (f u)) _ (eq-eqb (f i) (f u) (ap f e))
    go (no e) rec = or_right (eqb (f i) (f u)) _ (rec (omega arith))

has_map : (f : ℕ → ℕ) (i n x : ℕ) → is_in x (map f (from i n)) ≡ true → (u : ℕ) × (u < i + n) × (x ≡ f u)
has_map f i zero x h = absurd (false≢true h)
has_map f i (suc n) x h =
    or_cases (eqb (f i) x) (is_in x (map f (from (suc i) n))) h (λ k. (i, omega arith, sym (eqb-true (f i) x k))) (λ k. let r = has_map f (suc i) n x k in (r.0, omega (arith, r.1), r.2))

pub row_has : (next : ℕ → ℕ → ℕ) (vs c u : ℕ) → u < vs → is_in (next c u) (row_of next vs c) ≡ true
unfolding row_of
row_has next vs c u h = map_has (next c) 0 vs u (omega arith) (omega arith)

pub has_row : (next : ℕ → ℕ → ℕ) (vs c x : ℕ) → is_in x (row_of next vs c) ≡ true → (u : ℕ) × (u < vs) × (x ≡ next c u)
unfolding row_of
has_row next vs c x h = let r = has_map (next c) 0 vs x h in (r.0, omega (arith, r.1), r.2)

-- the list
module _ (next : ℕ → ℕ → ℕ) (vs start : ℕ) where
  pub met_grown : (k : ℕ) → Grown (met next vs start k) (met next vs start (suc k))
  unfolding met
  met_grown k = go (ltb k (length (met next vs start k)))
    where
      go : (b : Bool) → Grown (met next vs start k) (cond b (meets (met next vs start k) (row_of next vs (get_or (met next vs start k) k 0))) (met next vs start k))
      go true = meets_grown (row_of next vs (get_or (met next vs start k) k 0)) (met next vs start k)
      go false = grown_refl (met next vs start k)

  -- each once
  pub met_distinct : (k : ℕ) → Distinct (met next vs start k)
  unfolding met
  met_distinct zero = another refl nothing
  met_distinct (suc k) = go (ltb k (length (met next vs start k))) (met_distinct k)
    where
      go : (b : Bool) → Distinct (met next vs start k) → Distinct (cond b (meets (met next vs start k) (row_of next vs (get_or (met next vs start k) k 0))) (met next vs start k))
      go true d = meets_distinct (row_of next vs (get_or (met next vs start k) k 0)) (met next vs start k) d
      go false d = d

  -- only reached ones
  met_reached : (k x : ℕ) → is_in x (met next vs start k) ≡ true → Reached next vs start x
  unfolding met
  met_reached zero x h = or_cases (eqb start x) false h (λ e. subst (λ (y : ℕ). Reached next vs start y) (eqb-true start x e) begin) (λ e. absurd (false≢true e))
  met_reached (suc k) x h = go (ltb k (length (met next vs start k))) refl (λ y l. met_reached k y l) h
    where
      go : (b : Bool) → ltb k (length (met next vs start k)) ≡ b → ((y : ℕ) → is_in y (met next vs start k) ≡ true → Reached next vs start y)
          → is_in x (cond b (meets (met next vs start k) (row_of next vs (get_or (met next vs start k) k 0))) (met next vs start k)) ≡ true → Reached next vs start x
      go true e rec h =
          ⊎_elim (λ l. rec x l)
          (λ l. let r = has_row next vs (get_or (met next vs start k) k 0) x l.0 in
          subst (λ (y : ℕ). Reached next vs start y) (sym r.2)
          (on r.0 (rec (get_or (met next vs start k) k 0) (in_at (met next vs start k) k (ltb-true k _ e))) r.1 (λ z. l.1 (r.2 ∙ z))))
          (meets_in_lem (row_of next vs (get_or (met next vs start k) k 0)) (met next vs start k) x h)
      go false e rec h = rec x h

  pub met_more : (k : ℕ) → k < length (met next vs start k) → met next vs start (suc k) ≡ meets (met next vs start k) (row_of next vs (get_or (met next vs start k) k 0))
  unfolding met
  met_more k h = rw (lt-ltb k (length (met next vs start k)) h)

  -- once all are looked at, the list stays
  pub met_same : (k : ℕ) → length (met next vs start k) ≤ k → met next vs start (suc k) ≡ met next vs start k
  unfolding met
  met_same k h = rw (le-ltb k (length (met next vs start k)) h)

  pub met_stays : (k j : ℕ) → length (met next vs start k) ≤ k → met next vs start (j + k) ≡ met next vs start k
  met_stays k zero h = ap (met next vs start) (zero-add k)
  met_stays k (suc j) h =
      let e = met_stays k j h in
      let l : length (met next vs start (j + k)) ≤ j + k = rw e (omega arith) in
      ap (met next vs start) (suc-add j k) ∙ met_same (j + k) l ∙ e

  -- those after its first k configurations are in it
  pub met_closed : (k i u : ℕ) → i < k → i < length (met next vs start k) → u < vs → (next (get_or (met next vs start k) i 0) u ≡ 0 → ⊥)
      → is_in (next (get_or (met next vs start k) i 0) u) (met next vs start k) ≡ true
  met_closed zero i u h l m z = absurd (omega arith)
  met_closed (suc k) i u h l m z = go (dec_lt i (length (met next vs start k))) (dec_lt i k) (λ a b c. met_closed k i u a b m c)
    where
      go : Dec (i < length (met next vs start k)) → Dec (i < k)
          → (i < k → i < length (met next vs start k) → (next (get_or (met next vs start k) i 0) u ≡ 0 → ⊥) → is_in (next (get_or (met next vs start k) i 0) u) (met next vs start k) ≡ true)
          → is_in (next (get_or (met next vs start (suc k)) i 0) u) (met next vs start (suc k)) ≡ true
      go (yes a) (yes b) rec =
          let e = grown_at i (met_grown k) a in
          rw e (grown_in (next (get_or (met next vs start k) i 0) u) (met_grown k) (rec b a (rw e at z)))
      go (yes a) (no b) rec =
          let ik : i ≡ k = omega arith in
          let e = grown_at i (met_grown k) a in
          let f : met next vs start (suc k) ≡ meets (met next vs start k) (row_of next vs (get_or (met next vs start k) i 0)) = rw ik (met_more k (omega arith)) in
          rw (e, f) (meets_has (row_of next vs (get_or (met next vs start k) i 0)) (met next vs start k) (next (get_or (met next vs start k) i 0) u)
          (row_has next vs (get_or (met next vs start k) i 0) u m) (rw e at z))
      go (no a) d rec = let f = ap length (met_same k (omega arith)) in absurd (omega arith)

  pub met_start : (k : ℕ) → is_in start (met next vs start k) ≡ true
  unfolding met
  met_start zero = or_left (eqb start start) false (eq-eqb start start refl)
  met_start (suc k) = grown_in start (met_grown k) (met_start k)

  pub met_first : (k : ℕ) → (get_or (met next vs start k) 0 0 ≡ start) × (0 < length (met next vs start k))
  unfolding met
  met_first zero = (refl, omega arith)
  met_first (suc k) = let r = met_first k in let l = grown_length (met_grown k) in (grown_at 0 (met_grown k) r.1 ∙ r.0, omega (arith, r.1))

  -- if it has no more than k, it has those after each of its configurations, and so all that are reached
  pub met_next : (k c v : ℕ) → length (met next vs start k) ≤ k → is_in c (met next vs start k) ≡ true → v < vs → (next c v ≡ 0 → ⊥) → is_in (next c v) (met next vs start k) ≡ true
  met_next k c v h m l z =
      let e = at_index c (met next vs start k) m in
      let i = index_lt c (met next vs start k) m in
      let g = met_closed k (index_of c (met next vs start k)) v (omega arith) i l (rw e z) in
      rw e at g

  met_all : (k : ℕ) {c : ℕ} → length (met next vs start k) ≤ k → Reached next vs start c → is_in c (met next vs start k) ≡ true
  met_all k h begin = met_start k
  met_all k h (on {c} v r l z) = met_next k c v h (met_all k h r) l z

-- a list without one of its members
abbrev without : ℕ → List ℕ → List ℕ
without c [] = []
without c (y ∷ ys) = cond (eqb y c) ys (y ∷ without c ys)

without_length : (c : ℕ) (ys : List ℕ) → is_in c ys ≡ true → length ys ≡ suc (length (without c ys))
without_length c [] h = absurd (false≢true h)
without_length c (y ∷ ys) h = go (eqb y c) h (λ k. without_length c ys k)
  where
    go : (b : Bool) → (b || is_in c ys) ≡ true → (is_in c ys ≡ true → length ys ≡ suc (length (without c ys))) → suc (length ys) ≡ suc (length (cond b ys (y ∷ without c ys)))
    go true h rec = refl
    go false h rec = ap suc (rec h)

without_in : (c x : ℕ) (ys : List ℕ) → (x ≡ c → ⊥) → is_in x ys ≡ true → is_in x (without c ys) ≡ true
without_in c x [] n h = h
without_in c x (y ∷ ys) n h = go (eqb y c) refl (or_cases (eqb y x) (is_in x ys) h inl inr) (λ k. without_in c x ys n k)
  where
    go : (b : Bool) → eqb y c ≡ b → (eqb y x ≡ true) ⊎ (is_in x ys ≡ true) → (is_in x ys ≡ true → is_in x (without c ys) ≡ true) → is_in x (cond b ys (y ∷ without c ys)) ≡ true
    go true e (inl k) rec = absurd (n (sym (eqb-true y x k) ∙ eqb-true y c e))
    go true e (inr k) rec = k
    go false e (inl k) rec = or_left (eqb y x) (is_in x (without c ys)) k
    go false e (inr k) rec = or_right (eqb y x) (is_in x (without c ys)) (rec k)

no_more : {xs : List ℕ} (ys : List ℕ) → Distinct xs → ((x : ℕ) → is_in x xs ≡ true → is_in x ys ≡ true) → length xs ≤ length ys
no_more ys nothing h = omega arith
no_more ys (another {x} {xs} n d) h =
    let e = without_length x ys (h x (or_left (eqb x x) (is_in x xs) (eq-eqb x x refl))) in
    let r = no_more (without x ys) d (λ y k. without_in x y ys (λ q. false≢true (sym n ∙ (rw q at k))) (h y (or_right (eqb x y) (is_in y xs) k))) in
    omega arith

-- THE LAW OF ANSWER 14: looking at n configurations decides whether there are more than n
pub more_than : (next : ℕ → ℕ → ℕ) (vs start n : ℕ) → (n < length (met next vs start n)) ↔ MoreThan next vs start n
more_than next vs start n = (fwd, bwd)
  where
    fwd : n < length (met next vs start n) → MoreThan next vs start n
    fwd h = record { list = met next vs start n; distinct = met_distinct next vs start n; reached = λ c k. met_reached next vs start n c k; long = h }

    bwd : MoreThan next vs start n → n < length (met next vs start n)
    bwd m = go (dec_lt n (length (met next vs start n)))
      where
        go : Dec (n < length (met next vs start n)) → n < length (met next vs start n)
        go (yes h) = h
        go (no h) =
            let k = no_more (met next vs start n) m.distinct (λ c i. met_all next vs start n (omega arith) (m.reached c i)) in
            let l = m.long in
            absurd (omega arith)
