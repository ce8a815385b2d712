-- Laws for the steps of the automaton on sets, and for the exploration. Assumes nothing.
use mathlib.Core.Path.{◌≡◌, refl, sym, ap, ap₂, ◌∙◌}
use mathlib.Core.Bool.{Bool, true, false, cond, ◌||◌, or-true}
use mathlib.Core.List.{List, [], ◌∷◌, ◌++◌, map, map-append}
use Prim.Native.Nat.{ℕ, zero, suc, ◌+◌, ◌-◌, ◌/◌, ◌^◌, ◌≤◌, ◌<◌}
use native.Mathlib.Omega.{arith}
use native.Mathlib.Nat.{zero-add}
use native.Mathlib.Decide.{dec_lt}
use lib.Bits.{bit_and, bit_or}
use lib.Dec.{eqb, leb}
use lib.ListN.{length, get_or, take, set, length-take, length-append}
use lib.Seq.{get_or-take, take-suc-set, take-append-le, take_all}
use borrow.Author.Tests.{eq-eqb, ne_eqb, le-leb, lt-leb}
use Rattle.kinds.specs.Bits.{bit}
use Rattle.meaning.specs.Bounds.{most_states}
use Rattle.meaning.specs.Lists.{from}
use Rattle.kinds.proofs.Bits.{bit_test}
use Rattle.patterns.specs.Places.{unions}
use Rattle.compositor.specs.Inner.{unions_of, set_by, onward_by, list_size, meet_in, meets_in}
use Rattle.numbering.specs.Numbering.{is_in, meet, meets, met, row_of}
use Rattle.numbering.proofs.Numbering.{Grown, grown_refl, grown_trans, met_grown, met_stays, met_more}
use Rattle.numbering.proofs.Order.{grown_take}

pub pick_yes : (c i f : ℕ) → bit_and (c / 2 ^ i) 1 ≡ 1 → f ≡ cond (bit c i) f 0
pick_yes c i f h = rw (sym (bit_test c i) ∙ eq-eqb (bit_and (c / 2 ^ i) 1) 1 h)

pub pick_no : (c i f : ℕ) → (bit_and (c / 2 ^ i) 1 ≡ 1 → ⊥) → 0 ≡ cond (bit c i) f 0
pick_no c i f h = rw (sym (bit_test c i) ∙ ne_eqb (bit_and (c / 2 ^ i) 1) 1 h)

pub union_none : (fs : List ℕ) (c : ℕ) → 0 ≡ unions_of fs c 0
unfolding unions_of unions
union_none fs c = refl

pub union_more : (fs : List ℕ) (c i s r : ℕ) → r ≡ cond (bit c i) (get_or fs i 0) 0 → s ≡ unions_of fs c i → bit_or r s ≡ unions_of fs c (i + 1)
unfolding unions_of unions
union_more fs c i s r h k =
    let q : i + 1 ≡ suc i = omega arith in
    rw (q, h, k)

-- one more in a row
from_end : (i n : ℕ) → from i (suc n) ≡ from i n ++ ((i + n) ∷ [])
from_end i zero = ap (λ (x : ℕ). x ∷ []) (omega arith)
from_end i (suc n) = ap (λ (l : List ℕ). i ∷ l) (from_end (suc i) n ∙ ap (λ (x : ℕ). from (suc i) n ++ (x ∷ [])) (omega arith))

row_end_of : (next : ℕ → ℕ → ℕ) (v c : ℕ) → row_of next (suc v) c ≡ row_of next v c ++ (next c v ∷ [])
unfolding row_of
row_end_of next v c = ap (map (next c)) (from_end 0 v) ∙ map-append (next c) (from 0 v) ((0 + v) ∷ []) ∙ ap (λ (x : ℕ). map (next c) (from 0 v) ++ (next c x ∷ [])) (zero-add v)

pub row_none : (next : ℕ → ℕ → ℕ) (c : ℕ) → [] ≡ row_of next 0 c
unfolding row_of
row_none next c = refl

pub row_more : (next : ℕ → ℕ → ℕ) (c : ℕ) (t : List ℕ) (v x : ℕ) → v < length t → x ≡ next c v → take v t ≡ row_of next v c → take (v + 1) (set t v x) ≡ row_of next (v + 1) c
row_more next c t v x h e l =
    let q : v + 1 ≡ suc v = omega arith in
    rw q (take-suc-set t v x h ∙ ap₂ (λ (a : List ℕ) (b : ℕ). a ++ (b ∷ [])) l e ∙ sym (row_end_of next v c))

pub next_is : (fst : ℕ) (fs ms : List ℕ) (c v s : ℕ) → s ≡ set_by fst fs c → bit_and (get_or ms v 0) s ≡ onward_by fst fs ms c v
unfolding onward_by
next_is fst fs ms c v s e = ap (bit_and (get_or ms v 0)) e

-- a list with room for cap is the beginning of the list without end
capped_one : (cap : ℕ) (cs : List ℕ) (c : ℕ) → meet_in cap (take cap cs) c ≡ take cap (meet cs c)
unfolding meet_in meet
capped_one cap cs c = go (dec_lt (length cs) cap) (eqb c 0) (is_in c cs) refl
  where
    go : Dec (length cs < cap) → (z i : Bool) → is_in c cs ≡ i
        → cond (z || (leb cap (length (take cap cs)) || is_in c (take cap cs))) (take cap cs) (take cap cs ++ (c ∷ [])) ≡ take cap (cond (z || is_in c cs) cs (cs ++ (c ∷ [])))
    go d true i e = refl
    go (yes h) false true e = rw (take_all cap cs (omega arith), e, or-true (leb cap (length cs))) (sym (take_all cap cs (omega arith)))
    go (yes h) false false e =
        let l = length-append cs (c ∷ []) in
        rw (take_all cap cs (omega arith), e, lt-leb cap (length cs) h) (sym (take_all cap (cs ++ (c ∷ [])) (omega arith)))
    go (no h) false true e = let l = length-take cap cs in rw (le-leb cap (length (take cap cs)) (omega arith), e)
    go (no h) false false e = let l = length-take cap cs in rw (le-leb cap (length (take cap cs)) (omega arith), e) (sym (take-append-le cap cs (c ∷ []) (omega arith)))

capped : (cap : ℕ) (cs row : List ℕ) → meets_in cap (take cap cs) row ≡ take cap (meets cs row)
unfolding meets_in meets
capped cap cs [] = refl
capped cap cs (c ∷ row) = ap (λ (xs : List ℕ). meets_in cap xs row) (capped_one cap cs c) ∙ capped cap (meet cs c) row

-- the exploration: at of the configurations are looked at, and the list holds the beginning of what is met
module _ (next : ℕ → ℕ → ℕ) (vs : ℕ) where
  pub explore_start : 0 ∷ [] ≡ take list_size (met next vs 0 0)
  unfolding met
  explore_start = refl

  pub explore_on : (at : ℕ) (cs row : List ℕ) → at < most_states → at < length cs → cs ≡ take list_size (met next vs 0 at) → row ≡ row_of next vs (get_or cs at 0)
      → meets_in list_size cs row ≡ take list_size (met next vs 0 (at + 1))
  explore_on at cs row k h e r =
      let d = length-take list_size (met next vs 0 at) in
      let l = ap length e in
      let w : row ≡ row_of next vs (get_or (met next vs 0 at) at 0) = r ∙ ap (row_of next vs) (ap (λ (xs : List ℕ). get_or xs at 0) e ∙ get_or-take list_size (met next vs 0 at) at 0 (omega arith)) in
      let q : at + 1 ≡ suc at = omega arith in
      rw q (ap₂ (meets_in list_size) e w ∙ capped list_size (met next vs 0 at) (row_of next vs (get_or (met next vs 0 at) at 0))
      ∙ ap (take list_size) (sym (met_more next vs 0 at (omega arith))))

  -- all that are met have been looked at
  pub explore_end : (at : ℕ) (cs : List ℕ) → at < most_states → length cs ≤ at → cs ≡ take list_size (met next vs 0 at) → cs ≡ take list_size (met next vs 0 most_states)
  explore_end at cs k h e =
      let d = length-take list_size (met next vs 0 at) in
      let l = ap length e in
      let j : (most_states - at) + at ≡ most_states = omega arith in
      e ∙ ap (take list_size) (sym (met_stays next vs 0 at (most_states - at) (omega arith))) ∙ ap (λ (i : ℕ). take list_size (met next vs 0 i)) j

  grown_by : (k j : ℕ) → Grown (met next vs 0 k) (met next vs 0 (j + k))
  grown_by k zero = rw (zero-add k) (grown_refl (met next vs 0 k))
  grown_by k (suc j) = let q : suc j + k ≡ suc (j + k) = omega arith in rw q (grown_trans (grown_by k j) (met_grown next vs 0 (j + k)))

  -- there are more than a sheet has states: whatever is still looked at, the list's beginning stays
  pub explore_full : (at : ℕ) (cs : List ℕ) → at < most_states → most_states < length cs → cs ≡ take list_size (met next vs 0 at) → cs ≡ take list_size (met next vs 0 most_states)
  explore_full at cs k h e =
      let d = length-take list_size (met next vs 0 at) in
      let l = ap length e in
      let j : (most_states - at) + at ≡ most_states = omega arith in
      e ∙ sym (grown_take list_size (grown_by at (most_states - at)) (omega arith)) ∙ ap (λ (i : ℕ). take list_size (met next vs 0 i)) j
