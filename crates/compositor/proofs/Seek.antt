-- Laws for the list that grows. Assumes nothing.
use Rattle.std.proofs.Common.{◌≡◌, refl, sym, ap, ◌∙◌, Bool, true, false, cond, not, ◌||◌, List, [], ◌∷◌, ℕ, suc, ◌+◌, ◌≤◌, ◌<◌, arith, eqb, leb, nat_lt, length, take, drop, set, get_or, Option, Some, None, is_some, position}
use Rattle.std.specs.List.{position_or_len}
use Rattle.std.specs.Prelude.{unwrap_or}
use mathlib.Core.Bool.{or-true, false≢true}
use native.Mathlib.Decide.{dec_lt}
use lib.Seq.{drop-cons, take-suc-set, length-take-le}
use lib.ListN.{drop_of_length-le}
use borrow.Author.Tests.{eq-eqb, ne_eqb, le-leb, lt-leb, lt-ltb, le-ltb}
use Rattle.numbering.specs.Numbering.{is_in, index_of, target_of}
use Rattle.compositor.specs.Inner.{meet_in, meets_in, list_size}
use Rattle.numbering.proofs.Numbering.{index_lt}

index_in : (c : ℕ) (xs : List ℕ) → index_of c xs < length xs → is_in c xs ≡ true
index_in c [] h = absurd (omega arith)
index_in c (x ∷ xs) h = go (eqb x c) h (λ k. index_in c xs k)
  where
    go : (b : Bool) → cond b 0 (suc (index_of c xs)) < suc (length xs) → (index_of c xs < length xs → is_in c xs ≡ true) → (b || is_in c xs) ≡ true
    go true h rec = refl
    go false h rec = rec (omega arith)

index_out : (c : ℕ) (xs : List ℕ) → length xs ≤ index_of c xs → is_in c xs ≡ false
index_out c xs h = go (is_in c xs) refl
  where
    go : (b : Bool) → is_in c xs ≡ b → is_in c xs ≡ false
    go true e = let k = index_lt c xs e in absurd (omega arith)
    go false e = e

index_le : (c : ℕ) (xs : List ℕ) → index_of c xs ≤ length xs
index_le c [] = omega arith
index_le c (x ∷ xs) = go (eqb x c) (index_le c xs)
  where
    go : (b : Bool) → index_of c xs ≤ length xs → cond b 0 (suc (index_of c xs)) ≤ suc (length xs)
    go true h = omega arith
    go false h = omega arith

-- where the library finds c
place_is : (c : ℕ) (xs : List ℕ) → position_or_len (λ x. eqb x c) xs ≡ index_of c xs
place_is c [] = refl
place_is c (x ∷ xs) = go (eqb x c) (place_is c xs)
  where
    go : (b : Bool) → position_or_len (λ x. eqb x c) xs ≡ index_of c xs → cond (not b) (1 + position_or_len (λ x. eqb x c) xs) 0 ≡ cond b 0 (suc (index_of c xs))
    go true h = refl
    go false h = omega arith

place_by : (c : ℕ) (xs : List ℕ) → position (λ x. eqb x c) xs ≡ cond (is_in c xs) (Some (index_of c xs)) None
place_by c xs = rw (place_is c xs) (go (dec_lt (index_of c xs) (length xs)))
  where
    go : Dec (index_of c xs < length xs) → cond (nat_lt (index_of c xs) (length xs)) (Some (index_of c xs)) None ≡ cond (is_in c xs) (Some (index_of c xs)) None
    go (yes h) = rw (lt-ltb (index_of c xs) (length xs) h, index_in c xs h)
    go (no h) = rw (le-ltb (index_of c xs) (length xs) (omega arith), index_out c xs (omega arith))

pub found_at : (c : ℕ) (xs : List ℕ) (r : Option ℕ) → r ≡ position (λ x. eqb x c) xs → unwrap_or r (length xs) ≡ index_of c xs
found_at c xs r e = rw (e, place_by c xs) (go (is_in c xs) refl)
  where
    go : (b : Bool) → is_in c xs ≡ b → unwrap_or (cond b (Some (index_of c xs)) None) (length xs) ≡ index_of c xs
    go true h = refl
    go false h = side (dec_lt (index_of c xs) (length xs))
      where
        side : Dec (index_of c xs < length xs) → length xs ≡ index_of c xs
        side (yes k) = absurd (false≢true (sym h ∙ index_in c xs k))
        side (no k) = let l = index_le c xs in omega arith

pub found : (c : ℕ) (xs : List ℕ) {r : Option ℕ} {b : Bool} → r ≡ position (λ x. eqb x c) xs → is_some r ≡ b → is_in c xs ≡ b
found c xs e h = sym (ap is_some (e ∙ place_by c xs) ∙ go (is_in c xs)) ∙ h
  where
    go : (b : Bool) → is_some (cond b (Some (index_of c xs)) None) ≡ b
    go true = refl
    go false = refl

pub target_by : (c n : ℕ) (list cs : List ℕ) (r : Option ℕ) → take n list ≡ cs → length list ≡ list_size → n ≤ list_size → (c ≡ 0 → ⊥) → r ≡ position (λ x. eqb x c) cs
    → unwrap_or r n ≡ target_of cs c
unfolding target_of
target_by c n list cs r v k i z e =
    let l = length-take-le n list (omega arith) in
    let m : n ≡ length cs = omega (arith, ap length v) in
    rw (ne_eqb c 0 z, m) (found_at c cs r e)

-- c is met
module _ (c : ℕ) (list : List ℕ) (n : ℕ) (cs : List ℕ) (e : take n list ≡ cs) (k : length list ≡ list_size) where
  pub met_new : (c ≡ 0 → ⊥) → n < list_size → is_in c cs ≡ false → take (n + 1) (set list n c) ≡ meet_in list_size cs c
  unfolding meet_in
  met_new z h o =
      let l = length-take-le n list (omega arith) in
      let m : length cs < list_size = omega (arith, ap length e) in
      let q : n + 1 ≡ suc n = omega arith in
      rw (ne_eqb c 0 z, lt-leb list_size (length cs) m, o, q, ← e) (take-suc-set list n c (omega arith))

  pub met_full : n ≤ list_size → list_size ≤ n → cs ≡ meet_in list_size cs c
  unfolding meet_in
  met_full i h =
      let l = length-take-le n list (omega arith) in
      let m : list_size ≤ length cs = omega (arith, ap length e) in
      rw (le-leb list_size (length cs) m, or-true (eqb c 0))

pub met_none : (c : ℕ) (cs : List ℕ) → c ≡ 0 → cs ≡ meet_in list_size cs c
unfolding meet_in
met_none c cs e = rw (eq-eqb c 0 e)

pub met_there : (c : ℕ) (cs : List ℕ) → is_in c cs ≡ true → cs ≡ meet_in list_size cs c
unfolding meet_in
met_there c cs h = rw (h, or-true (leb list_size (length cs)), or-true (eqb c 0))

-- a row: what is met already, and the rest of the row
pub going_on : (cs row : List ℕ) (i : ℕ) → i < length row → meets_in list_size (meet_in list_size cs (get_or row i 0)) (drop (i + 1) row) ≡ meets_in list_size cs (drop i row)
unfolding meets_in
going_on cs row i h = let q : i + 1 ≡ suc i = omega arith in rw q (ap (meets_in list_size cs) (sym (drop-cons row i 0 h)))

pub going_end : (cs row : List ℕ) (i : ℕ) → length row ≤ i → meets_in list_size cs (drop i row) ≡ cs
unfolding meets_in
going_end cs row i h = ap (meets_in list_size cs) (drop_of_length-le row {i = i} h)
