-- Where words lead on a numbered sheet: its states are the configurations that words reach, in the order in which words first meet them.
-- Assumes nothing.
use mathlib.Core.Path.{◌≡◌, refl, sym, ap, ap₂, ◌∙◌}
use mathlib.Core.Bool.{Bool, true, false, cond, ◌||◌, false≢true}
use mathlib.Core.Logic.{◌↔◌}
use mathlib.Core.List.{List, [], ◌∷◌, ◌++◌, map, map-append, map-map}
use mathlib.Core.List.{Memᴰ as In}
use Prim.Native.Nat.{ℕ, suc, ◌+◌, ◌≤◌, ◌<◌}
use native.Mathlib.Omega.{arith}
use native.Mathlib.Decide.{ℕ_discrete}
use lib.Dec.{eqb}
use lib.ListN.{length, get_or}
use borrow.Author.Tests.{eqb-true, eq-eqb, ne_eqb, lt-ltb, le-ltb}
use Rattle.meaning.specs.Bounds.{no_target}
use Rattle.meaning.specs.Lists.{from}
use Rattle.meaning.specs.Meaning.{Arcs, target, words}
use Rattle.meaning.proofs.Lists.{both_ways, map_same, each_in, from_in}
use Rattle.meaning.proofs.Members.{Below, words_in}
use Rattle.rules.proofs.Checks.{or_left, or_right}
use Rattle.numbering.specs.Numbering.{reaches, is_in, index_of, Distinct, nothing, another, meet, meets, met, target_of, leads_to, words_up_to}
use Rattle.numbering.proofs.Numbering.{index_lt, at_index, grown_in, meet_grown, meet_has, meets_grown, met_distinct, met_start, met_first, met_next}
use Rattle.numbering.proofs.Sheets.{sheet_of, arc_at}
use Rattle.numbering.proofs.ByWords.{nonempty, met_words}

-- the numbers of a list without doubles are found in order
indices : (f : ℕ → ℕ) (k : ℕ) {xs : List ℕ} → Distinct xs → ((c : ℕ) → is_in c xs ≡ true → f c ≡ k + index_of c xs) → map f xs ≡ from k (length xs)
indices f k nothing h = refl
indices f k (another {x} {xs} n d) h =
    ap₂ (λ (i : ℕ) (l : List ℕ). i ∷ l) (h x (or_left (eqb x x) (is_in x xs) (eq-eqb x x refl)) ∙ first)
    (indices f (suc k) d (λ c m. h c (or_right (eqb x c) (is_in c xs) m) ∙ later c m))
  where
    first : k + index_of x (x ∷ xs) ≡ k
    first = rw (eq-eqb x x refl) (omega arith)

    later : (c : ℕ) → is_in c xs ≡ true → k + index_of c (x ∷ xs) ≡ suc k + index_of c xs
    later c m = rw (ne_eqb x c (λ e. false≢true (sym n ∙ ap (λ (y : ℕ). is_in y xs) e ∙ m))) (omega arith)

module _ (cs : List ℕ) where
  -- the state of a configuration, as `leads_to` has it: 0 if it is none
  abbrev pub state_of : ℕ → ℕ
  state_of c = cond (eqb c 0) 0 (suc (index_of c cs))

  state_none : (c : ℕ) → c ≡ 0 → state_of c ≡ 0
  state_none c z = rw (eq-eqb c 0 z)

  state_some : (c : ℕ) → (c ≡ 0 → ⊥) → state_of c ≡ suc (index_of c cs)
  state_some c n = rw (ne_eqb c 0 n)

  same_index : (c d : ℕ) → is_in c cs ≡ true → is_in d cs ≡ true → index_of c cs ≡ index_of d cs → c ≡ d
  same_index c d i j e = sym (at_index c cs i) ∙ ap (λ (q : ℕ). get_or cs q 0) e ∙ at_index d cs j

  -- meeting configurations and meeting their states go along
  abbrev states : List ℕ → List ℕ
  states xs = map (λ c. suc (index_of c cs)) xs

  in_states : (c : ℕ) (xs : List ℕ) → is_in c cs ≡ true → ((x : ℕ) → is_in x xs ≡ true → is_in x cs ≡ true) → is_in (suc (index_of c cs)) (states xs) ≡ is_in c xs
  in_states c [] i h = refl
  in_states c (x ∷ xs) i h =
      ap₂ (λ (a b : Bool). a || b)
      (both_ways (eqb (suc (index_of x cs)) (suc (index_of c cs))) (eqb x c)
      (λ t. let e = eqb-true (suc (index_of x cs)) (suc (index_of c cs)) t in eq-eqb x c (same_index x c (h x (or_left (eqb x x) (is_in x xs) (eq-eqb x x refl))) i (omega arith)))
      (λ t. eq-eqb (suc (index_of x cs)) (suc (index_of c cs)) (ap (λ (y : ℕ). suc (index_of y cs)) (eqb-true x c t))))
      (in_states c xs i (λ y m. h y (or_right (eqb x y) (is_in y xs) m)))

  state_met : (c : ℕ) (xs : List ℕ) → ((x : ℕ) → is_in x (meet xs c) ≡ true → is_in x cs ≡ true) → meet (states xs) (state_of c) ≡ states (meet xs c)
  unfolding meet
  state_met c xs h = go (ℕ_discrete c 0)
    where
      new : (b : Bool) → cond b (states xs) (states xs ++ (suc (index_of c cs) ∷ [])) ≡ states (cond b xs (xs ++ (c ∷ [])))
      new true = refl
      new false = sym (map-append (λ x. suc (index_of x cs)) xs (c ∷ []))

      go : Dec (c ≡ 0) → meet (states xs) (state_of c) ≡ states (meet xs c)
      go (yes e) = rw (eq-eqb c 0 e)
      go (no n) =
          rw (ne_eqb c 0 n, ne_eqb (suc (index_of c cs)) 0 (λ z. omega arith), in_states c xs (h c (meet_has xs c n)) (λ x m. h x (grown_in x (meet_grown xs c) m))) (new (is_in c xs))

  states_met : (row xs : List ℕ) → ((x : ℕ) → is_in x (meets xs row) ≡ true → is_in x cs ≡ true) → meets (states xs) (map state_of row) ≡ states (meets xs row)
  unfolding meets
  states_met [] xs h = refl
  states_met (c ∷ row) xs h =
      ap (λ (l : List ℕ). meets l (map state_of row)) (state_met c xs (λ x m. h x (grown_in x (meets_grown row (meet xs c)) m))) ∙ states_met row (meet xs c) h

module _ (next : ℕ → ℕ → ℕ) (ends : ℕ → Bool) (vs start k : ℕ) (more costs : List ℕ) (small : k ≤ no_target) (few : length (met next vs start k) ≤ k) where
  abbrev cs : List ℕ
  cs = met next vs start k

  abbrev arcs : Arcs
  arcs = (sheet_of next ends vs cs more costs).arcs

  -- one step: the arc that the sheet has there, or none
  leads_on_lem : (c v : ℕ) (w : List ℕ) → is_in c cs ≡ true → v < vs
      → ((next c v ≡ 0 → ⊥) → is_in (next c v) cs ≡ true → leads_to arcs (index_of (next c v) cs) w ≡ state_of cs (reaches next (next c v) w))
      → leads_to arcs (index_of c cs) (v ∷ w) ≡ state_of cs (reaches next c (v ∷ w))
  unfolding target_of
  leads_on_lem c v w i l rec = go (ℕ_discrete (next c v) 0)
    where
      arc : target arcs (index_of c cs) v ≡ target_of cs (next c v)
      arc = arc_at next ends vs cs more costs (index_of c cs) v (index_lt c cs i) l ∙ ap (λ (x : ℕ). target_of cs (next x v)) (at_index c cs i)

      go : Dec (next c v ≡ 0) → leads_to arcs (index_of c cs) (v ∷ w) ≡ state_of cs (reaches next c (v ∷ w))
      go (yes z) = rw (arc, eq-eqb (next c v) 0 z, le-ltb no_target (length cs) (omega arith))
      go (no n) =
          let m = met_next next vs start k c v few i l n in
          rw (arc, ne_eqb (next c v) 0 n, lt-ltb (index_of (next c v) cs) (length cs) (index_lt (next c v) cs m)) (rec n m)

  leads_from : (c v : ℕ) (w : List ℕ) → is_in c cs ≡ true → Below vs (v ∷ w) → leads_to arcs (index_of c cs) (v ∷ w) ≡ state_of cs (reaches next c (v ∷ w))
  leads_from c v [] i b = leads_on_lem c v [] i b.0 (λ n m. rw (ne_eqb (next c v) 0 n))
  leads_from c v (u ∷ w) i b = leads_on_lem c v (u ∷ w) i b.0 (λ n m. leads_from (next c v) u w m b.1)

  first_index : index_of start cs ≡ 0
  first_index = go cs (met_first next vs start k).0 (met_first next vs start k).1
    where
      go : (xs : List ℕ) → get_or xs 0 0 ≡ start → 0 < length xs → index_of start xs ≡ 0
      go [] e h = absurd (omega arith)
      go (x ∷ xs) e h = rw (eq-eqb x start e)

  -- WHERE A WORD LEADS: to the state of the configuration that it reaches, nowhere if it reaches none. (The empty word leads to the first
  -- state by definition, whether the start is 0 or not.)
  pub leads_to_lem : (v : ℕ) (w : List ℕ) → Below vs (v ∷ w) → leads_to arcs 0 (v ∷ w) ≡ state_of cs (reaches next start (v ∷ w))
  leads_to_lem v w b = ap (λ (q : ℕ). leads_to arcs q (v ∷ w)) (sym first_index) ∙ leads_from start v w (met_start next vs start k) b

  reach_in : (c : ℕ) (w : List ℕ) → is_in c cs ≡ true → Below vs w → (reaches next c w ≡ 0 → ⊥) → is_in (reaches next c w) cs ≡ true
  reach_in c [] i b n = i
  reach_in c (v ∷ w) i b n = go (ℕ_discrete (next c v) 0) (λ x. reach_in (next c v) w x b.1)
    where
      go : Dec (next c v ≡ 0) → (is_in (next c v) cs ≡ true → (reaches next (next c v) w ≡ 0 → ⊥) → is_in (reaches next (next c v) w) cs ≡ true)
          → is_in (reaches next c (v ∷ w)) cs ≡ true
      go (yes z) rec = absurd (n (rw (eq-eqb (next c v) 0 z)))
      go (no z) rec = let e = ne_eqb (next c v) 0 z in rw e (rec (met_next next vs start k c v few i b.0 z) (rw e at n))

  module _ (v : ℕ) (w : List ℕ) (below : Below vs (v ∷ w)) where
    leads_some : (leads_to arcs 0 (v ∷ w) ≡ 0 → ⊥) → reaches next start (v ∷ w) ≡ 0 → ⊥
    leads_some n z = n (leads_to_lem v w below ∙ state_none cs (reaches next start (v ∷ w)) z)

    -- a state that a word leads to is that of a configuration of the list
    listed : (reaches next start (v ∷ w) ≡ 0 → ⊥) → (leads_to arcs 0 (v ∷ w) ≡ suc (index_of (reaches next start (v ∷ w)) cs)) × (is_in (reaches next start (v ∷ w)) cs ≡ true)
    listed n = (leads_to_lem v w below ∙ state_some cs (reaches next start (v ∷ w)) n, reach_in start (v ∷ w) (met_start next vs start k) below n)

    -- from a start that is 0 only the empty word leads to the first state
    pub first_alone : start ≡ 0 → leads_to arcs 0 (v ∷ w) ≡ 1 → ⊥
    first_alone z h =
        let n = leads_some (λ e. omega arith) in
        let l = listed n in
        n (same_index cs (reaches next start (v ∷ w)) start l.1 (met_start next vs start k) (omega (arith, l.0, first_index)) ∙ z)

  -- WORDS SHARE A STATE exactly if they share a configuration
  pub same_state : (x y : ℕ) (u w : List ℕ) → Below vs (x ∷ u) → Below vs (y ∷ w)
      → ((leads_to arcs 0 (x ∷ u) ≡ leads_to arcs 0 (y ∷ w)) × (leads_to arcs 0 (x ∷ u) ≡ 0 → ⊥))
      ↔ ((reaches next start (x ∷ u) ≡ reaches next start (y ∷ w)) × (reaches next start (x ∷ u) ≡ 0 → ⊥))
  same_state x y u w bu bw = (
    λ h.
        let d = leads_some x u bu h.1 in
        let i = listed x u bu d in
        let j = listed y w bw (leads_some y w bw (λ z. h.1 (h.0 ∙ z))) in
        (same_index cs (reaches next start (x ∷ u)) (reaches next start (y ∷ w)) i.1 j.1 (omega (arith, i.0, j.0, h.0)), d),
    λ h. (leads_to_lem x u bu ∙ ap (state_of cs) h.0 ∙ sym (leads_to_lem y w bw), λ z. omega (arith, z, (listed x u bu h.1).0)),
  )

  -- THE ORDER OF THE STATES, on the sheet itself: gone through in order, the words meet the first state, then the second ..
  pub states_in_order : (n : ℕ) → k ≤ n → meets [] (map (leads_to arcs 0) (words_up_to vs n)) ≡ from 1 (length cs)
  unfolding meets meet
  states_in_order n h =
      ap (meets (1 ∷ [])) (map_same (leads_to arcs 0) (λ w. state_of cs (reaches next start w)) (nonempty vs n) (λ w m. led w m)
      ∙ sym (map-map (state_of cs) (reaches next start) (nonempty vs n)))
      ∙ ap (λ (q : ℕ). meets (suc q ∷ []) (map (state_of cs) (map (reaches next start) (nonempty vs n)))) (sym first_index)
      ∙ states_met cs (map (reaches next start) (nonempty vs n)) (start ∷ []) (λ x m. ap (is_in x) own ∙ m)
      ∙ ap (states cs) (sym own)
      ∙ indices (λ c. suc (index_of c cs)) 1 (met_distinct next vs start k) (λ c m. omega arith)
    where
      own : cs ≡ meets (start ∷ []) (map (reaches next start) (nonempty vs n))
      own = met_words next vs start k n few h

      led : (w : List ℕ) → In w (nonempty vs n) → leads_to arcs 0 w ≡ state_of cs (reaches next start w)
      led w m =
          let r = each_in (words vs) (from 1 n) m in
          let l = words_in vs r.0 w r.2 in
          longer w (omega (arith, l.0, (from_in 1 n r.1).0)) l.1
        where
          longer : (w : List ℕ) → 1 ≤ length w → Below vs w → leads_to arcs 0 w ≡ state_of cs (reaches next start w)
          longer [] l b = absurd (omega arith)
          longer (v ∷ w) l b = leads_to_lem v w b
