-- The longest prefix that an accepted word begins with: what it is, and how it is found value by value.
use mathlib.Core.Path.{◌≡◌, refl, sym, ap, ap₂, ◌∙◌}
use mathlib.Core.Bool.{Bool, true, false, cond, ◌&&◌, false≢true, and-eq-true_iff}
use mathlib.Core.Logic.{◌⊎◌, inl, inr, ◌↔◌}
use mathlib.Core.List.{List, [], ◌∷◌}
use mathlib.Core.List.Memᴰ
use mathlib.Core.List.Memᴰ.{cases_cons as cases}
use mathlib.Core.List.Memᴰ.{head}
use mathlib.Core.List.Memᴰ.{not-nil}
use mathlib.Core.List.Memᴰ.{tail}
use mathlib.Core.List.{Memᴰ as In}
use Prim.Native.Nat.{ℕ, zero, suc, ◌+◌, ◌-◌, ◌*◌, ◌≤◌, ◌<◌, max}
use native.Mathlib.Omega.{arith}
use native.Mathlib.Decide.{dec_le}
use lib.Dec.{eqb}
use lib.ListN.{length, get_or, take}
use lib.Seq.{take-length}
use borrow.Author.Tests.{eqb-true, eq-eqb}
use Rattle.kinds.specs.Bits.{bit}
use Rattle.meaning.specs.Lists.{from, those, any, some}
use Rattle.meaning.specs.Meaning.{Rules, rules_of, target, has_arc, accepted, words}
use Rattle.meaning.specs.Prefixes.{accepted_words, begins, greatest, longest, behind}
use Rattle.meaning.proofs.Lists.{those_in, in_those, those_same, any_in, in_any, in_some, some_in, from_in, in_from, both_ways}
use Rattle.meaning.proofs.Members.{Below, picked_in}

-- the greatest of some numbers is one of them, or 0
pub greatest_in : (xs : List ℕ) → 0 < greatest xs → In (greatest xs) xs
greatest_in [] h = absurd (omega arith)
greatest_in (x ∷ xs) h = go (dec_le (greatest xs) x) (λ k. greatest_in xs k)
  where
    go : Dec (greatest xs ≤ x) → (0 < greatest xs → In (greatest xs) xs) → In (max x (greatest xs)) (x ∷ xs)
    go (yes l) rec = let e : max x (greatest xs) ≡ x = omega arith in head e
    go (no l) rec = let e : max x (greatest xs) ≡ greatest xs = omega arith in tail (Memᴰ.cast e (rec (omega arith)))

-- and at least each of them
pub greatest_le : {y : ℕ} (xs : List ℕ) → In y xs → y ≤ greatest xs
greatest_le [] m = absurd (not-nil m)
greatest_le {y} (x ∷ xs) m = go (cases m) (λ k. greatest_le xs k)
  where
    go : (y ≡ x) ⊎ In y xs → (In y xs → y ≤ greatest xs) → y ≤ max x (greatest xs)
    go (inl e) rec = omega arith
    go (inr k) rec = omega (arith, rec k)

-- THE LONGEST PREFIX: a word of ws begins with it, with none longer, and it is one of w
module _ (w : List ℕ) (ws : List (List ℕ)) where
  abbrev begun : ℕ → Bool
  begun k = any (begins (take k w)) ws

  abbrev lengths : List ℕ
  lengths = those begun (from 0 (suc (length w)))

  length_in : {k : ℕ} → In k lengths → (k ≤ length w) × (begun k ≡ true)
  length_in m = let t = those_in begun (from 0 (suc (length w))) m in (omega (arith, (from_in 0 (suc (length w)) t.0).1), t.1)

  some_begins : 0 < longest w ws → begun (longest w ws) ≡ true
  unfolding longest
  some_begins h = (length_in (greatest_in lengths h)).1

  pub longest_begins : some ws ≡ true → any (begins (take (longest w ws) w)) ws ≡ true
  longest_begins h = go (longest w ws) refl
    where
      go : (k : ℕ) → longest w ws ≡ k → begun k ≡ true
      go zero e = in_any (begins []) (some_in ws h).1 refl
      go (suc k) e = rw e at (some_begins (omega arith))

  pub longest_most : (k : ℕ) → k ≤ length w → any (begins (take k w)) ws ≡ true → k ≤ longest w ws
  unfolding longest
  longest_most k l h = greatest_le lengths (in_those begun (in_from 0 (suc (length w)) k (omega arith) (omega arith)) h)

  pub longest_few : longest w ws ≤ length w
  unfolding longest
  longest_few = go (dec_le 1 (greatest lengths))
    where
      go : Dec (1 ≤ greatest lengths) → greatest lengths ≤ length w
      go (yes h) = (length_in (greatest_in lengths h)).0
      go (no h) = omega arith

-- a word is in the list exactly if it has n values below V and is accepted
pub accepted_in : (r : Rules) (q n : ℕ) (u : List ℕ) → In u (accepted_words r q n) ↔ ((length u ≡ n) × Below r.arcs.values u × (accepted r q u ≡ true))
unfolding accepted_words
accepted_in r q n u = picked_in (accepted r q) r.arcs.values n u

-- VALUE BY VALUE: the words from state q, and those from where its arcs lead
module _ (r : Rules) (q n : ℕ) where
  abbrev onward : ℕ → List (List ℕ)
  onward v = accepted_words r (target r.arcs q v) n

  abbrev leads : ℕ → Bool
  leads v = has_arc r.arcs q v && some (onward v)

  step_in : (v : ℕ) (u : List ℕ) → In (v ∷ u) (accepted_words r q (suc n)) → (v < r.arcs.values) × (has_arc r.arcs q v ≡ true) × In u (onward v)
  step_in v u m =
      let t = (accepted_in r q (suc n) (v ∷ u)).0 m in
      let p = (and-eq-true_iff (has_arc r.arcs q v) _).0 t.2 in
      (t.1.0, p.0, (accepted_in r (target r.arcs q v) n u).1 (omega (arith, t.0), t.1.1, p.1))

  in_step : (v : ℕ) (u : List ℕ) → v < r.arcs.values → has_arc r.arcs q v ≡ true → In u (onward v) → In (v ∷ u) (accepted_words r q (suc n))
  in_step v u l h m =
      let t = (accepted_in r (target r.arcs q v) n u).0 m in
      (accepted_in r q (suc n) (v ∷ u)).1 (ap suc t.0, (l, t.1), rw (h, t.2))

  -- some word is accepted exactly if some arc leads to a state from which some is
  pub some_step : some (accepted_words r q (suc n)) ≡ any leads (from 0 r.arcs.values)
  some_step = both_ways _ _ fwd bwd
    where
      fwd : some (accepted_words r q (suc n)) ≡ true → any leads (from 0 r.arcs.values) ≡ true
      fwd h = let m = some_in (accepted_words r q (suc n)) h in go m.0 m.1
        where
          go : (u : List ℕ) → In u (accepted_words r q (suc n)) → any leads (from 0 r.arcs.values) ≡ true
          go [] m = absurd (omega (arith, ((accepted_in r q (suc n) []).0 m).0))
          go (v ∷ u) m =
              let t = step_in v u m in
              in_any leads (in_from 0 r.arcs.values v (omega arith) (omega (arith, t.0))) (rw (t.1, in_some t.2))

      bwd : any leads (from 0 r.arcs.values) ≡ true → some (accepted_words r q (suc n)) ≡ true
      bwd h =
          let t = any_in leads (from 0 r.arcs.values) h in
          let p = (and-eq-true_iff (has_arc r.arcs q t.0) _).0 t.2 in
          let m = some_in (onward t.0) p.1 in
          in_some (in_step t.0 m.0 (omega (arith, (from_in 0 r.arcs.values t.1).1)) p.0 m.1)

  -- one begins with v ∷ p exactly if the arc on v leads to where one begins with p
  begins_step : (v : ℕ) (p : List ℕ) → v < r.arcs.values → any (begins (v ∷ p)) (accepted_words r q (suc n)) ≡ (has_arc r.arcs q v && any (begins p) (onward v))
  begins_step v p l = both_ways _ _ fwd bwd
    where
      fwd : any (begins (v ∷ p)) (accepted_words r q (suc n)) ≡ true → (has_arc r.arcs q v && any (begins p) (onward v)) ≡ true
      fwd h = let t = any_in (begins (v ∷ p)) (accepted_words r q (suc n)) h in go t.0 t.1 t.2
        where
          go : (u : List ℕ) → In u (accepted_words r q (suc n)) → begins (v ∷ p) u ≡ true → (has_arc r.arcs q v && any (begins p) (onward v)) ≡ true
          go [] m b = absurd (false≢true b)
          go (x ∷ u) m b =
              let c = (and-eq-true_iff (eqb v x) _).0 b in
              let e : x ≡ v = sym (eqb-true v x c.0) in
              let t = step_in v u (rw e at m) in
              rw (t.1, in_any (begins p) t.2 c.1)

      bwd : (has_arc r.arcs q v && any (begins p) (onward v)) ≡ true → any (begins (v ∷ p)) (accepted_words r q (suc n)) ≡ true
      bwd h =
          let c = (and-eq-true_iff (has_arc r.arcs q v) _).0 h in
          let t = any_in (begins p) (onward v) c.1 in
          in_any (begins (v ∷ p)) (in_step v t.0 l c.0 t.1) (rw (eq-eqb v v refl, t.2))

pub some_end : (r : Rules) (q : ℕ) → some (accepted_words r q 0) ≡ bit r.accepting q
unfolding accepted_words
some_end r q = go (bit r.accepting q)
  where
    go : (b : Bool) → some {A = List ℕ} (cond b ([] ∷ []) []) ≡ b
    go true = refl
    go false = refl

pub longest_end : (ws : List (List ℕ)) → longest [] ws ≡ 0
longest_end ws = omega (arith, longest_few [] ws)

-- the longest prefix is longer by the first value where its arc leads to a state from which some word is accepted
module _ (r : Rules) (q v : ℕ) (w : List ℕ) (l : v < r.arcs.values) where
  abbrev all_words : List (List ℕ)
  all_words = accepted_words r q (suc (length w))

  abbrev rest_words : List (List ℕ)
  rest_words = onward r q (length w) v

  longer : leads r q (length w) v ≡ true → suc (longest w rest_words) ≤ longest (v ∷ w) all_words
  longer h =
      let p = (and-eq-true_iff (has_arc r.arcs q v) _).0 h in
      longest_most (v ∷ w) all_words (suc (longest w rest_words)) (omega (arith, longest_few w rest_words))
      (begins_step r q (length w) v (take (longest w rest_words) w) l ∙ rw (p.0, longest_begins w rest_words p.1))

  no_longer : (k : ℕ) → longest (v ∷ w) all_words ≡ suc k → (leads r q (length w) v ≡ true) × (k ≤ longest w rest_words)
  no_longer k e =
      let b = rw e at (some_begins (v ∷ w) all_words (omega arith)) in
      let p = (and-eq-true_iff (has_arc r.arcs q v) _).0 (sym (begins_step r q (length w) v (take k w) l) ∙ b) in
      (rw (p.0, in_some (any_in (begins (take k w)) rest_words p.1).1), longest_most w rest_words k (omega (arith, longest_few (v ∷ w) all_words)) p.1)

  pub longest_step : longest (v ∷ w) (accepted_words r q (suc (length w)))
      ≡ cond (has_arc r.arcs q v && some (accepted_words r (target r.arcs q v) (length w))) (suc (longest w (accepted_words r (target r.arcs q v) (length w)))) 0
  longest_step = go (leads r q (length w) v) refl (longest (v ∷ w) all_words) refl
    where
      go : (b : Bool) → leads r q (length w) v ≡ b → (k : ℕ) → longest (v ∷ w) all_words ≡ k → k ≡ cond b (suc (longest w rest_words)) 0
      go true d zero e = absurd (omega (arith, longer d))
      go true d (suc k) e = omega (arith, longer d, (no_longer k e).1)
      go false d zero e = refl
      go false d (suc k) e = absurd (false≢true (sym d ∙ (no_longer k e).0))

-- WHAT IS REPORTED, of a roster of values below V
begins_self : (w : List ℕ) → begins w w ≡ true
begins_self [] = refl
begins_self (v ∷ w) = rw (eq-eqb v v refl, begins_self w)

begins_whole : (w u : List ℕ) → begins w u ≡ true → length u ≡ length w → u ≡ w
begins_whole [] [] b e = refl
begins_whole [] (x ∷ u) b e = absurd (omega arith)
begins_whole (v ∷ w) [] b e = absurd (false≢true b)
begins_whole (v ∷ w) (x ∷ u) b e =
    let p = (and-eq-true_iff (eqb v x) _).0 b in ap₂ (λ (y : ℕ) (l : List ℕ). y ∷ l) (sym (eqb-true v x p.0)) (begins_whole w u p.1 (omega arith))

begins_less : (j k : ℕ) (w u : List ℕ) → j ≤ k → begins (take k w) u ≡ true → begins (take j w) u ≡ true
begins_less zero k w u h b = refl
begins_less (suc j) zero w u h b = absurd (omega arith)
begins_less (suc j) (suc k) [] u h b = refl
begins_less (suc j) (suc k) (v ∷ w) [] h b = absurd (false≢true b)
begins_less (suc j) (suc k) (v ∷ w) (x ∷ u) h b =
    let p = (and-eq-true_iff (eqb v x) _).0 b in rw (p.0, begins_less j k w u (omega arith) p.1)

-- it leaves a prefix exactly if some word of ws begins with that
pub behind_begins : (w : List ℕ) (ws : List (List ℕ)) (k : ℕ) → some ws ≡ true → k ≤ length w
    → (k + behind w ws ≤ length w) ↔ (any (begins (take k w)) ws ≡ true)
unfolding behind
behind_begins w ws k s l = (fwd, λ b. omega (arith, longest_most w ws k l b, longest_few w ws))
  where
    fwd : k + (length w - longest w ws) ≤ length w → any (begins (take k w)) ws ≡ true
    fwd h =
        let t = any_in (begins (take (longest w ws) w)) ws (longest_begins w ws s) in
        in_any (begins (take k w)) t.1 (begins_less k (longest w ws) w t.0 (omega (arith, longest_few w ws)) t.2)

-- it is 0 exactly if the roster is accepted, where any word of its length is
pub behind_accepted : (r : Rules) (q : ℕ) (w : List ℕ) → Below r.arcs.values w → some (accepted_words r q (length w)) ≡ true
    → (behind w (accepted_words r q (length w)) ≡ 0) ↔ (accepted r q w ≡ true)
behind_accepted r q w b s = (fwd, bwd)
  where
    ws : List (List ℕ)
    ws = accepted_words r q (length w)

    whole : (length w + behind w ws ≤ length w) ↔ (any (begins w) ws ≡ true)
    whole = rw (take-length w) at (behind_begins w ws (length w) s (omega arith))

    fwd : behind w ws ≡ 0 → accepted r q w ≡ true
    fwd e =
        let t = any_in (begins w) ws (whole.0 (omega arith)) in
        let a = (accepted_in r q (length w) t.0).0 t.1 in
        rw (begins_whole w t.0 t.2 a.0) at a.2

    bwd : accepted r q w ≡ true → behind w ws ≡ 0
    bwd a = omega (arith, whole.1 (in_any (begins w) ((accepted_in r q (length w) w).1 (refl, b, a)) (begins_self w)))

-- costs play no part
pub costs_apart : (q v : ℕ) (t c d : List ℕ) (a s n : ℕ) → accepted_words (rules_of q v t c a) s n ≡ accepted_words (rules_of q v t d a) s n
unfolding accepted_words
costs_apart q v t c d a s n = those_same _ _ (words v n) (λ w m. go s w)
  where
    go : (s : ℕ) (w : List ℕ) → accepted (rules_of q v t c a) s w ≡ accepted (rules_of q v t d a) s w
    go s [] = refl
    go s (x ∷ w) = rw (go (get_or t (s * v + x) 0) w)
