-- Laws of texts put into a buffer. Assumes nothing.
use mathlib.Core.Path.{◌≡◌, refl, ap, sym, ◌∙◌}
use mathlib.Core.List.{List, [], ◌∷◌, ◌++◌}
use Prim.Native.Nat.{ℕ, suc, ◌+◌, ◌/◌, ◌%◌, ◌≤◌, ◌<◌, min}
use native.Mathlib.Numerals.{add-one}
use native.Mathlib.Decide.{dec_le}
use native.Mathlib.Omega.{arith}
use lib.ListN.{length, get_or, take, set, length-append}
use lib.Seq.{set_out, sets, length-sets, take-suc}
use Rattle.text.specs.Numbers.{decimal}
use Rattle.text.specs.Writing.{most_place, Wrote}
use Rattle.text.proofs.Decimals.{decimal_small, decimal_step}

sets_append : (b : List ℕ) (at : ℕ) (xs ys : List ℕ) → sets b at (xs ++ ys) ≡ sets (sets b at xs) (at + length xs) ys
sets_append b at [] ys = let e : at + 0 ≡ at = omega arith in rw e
sets_append b at (x ∷ xs) ys = let e : at + suc (length xs) ≡ suc at + length xs = omega arith in rw e (sets_append (set b at x) (suc at) xs ys)

-- stores past the end are none
sets_past : (b : List ℕ) (i : ℕ) (xs : List ℕ) → length b ≤ i → sets b i xs ≡ b
sets_past b i [] h = refl
sets_past b i (x ∷ xs) h = rw (set_out b i x h) (sets_past b (suc i) xs (omega arith))

-- no text, and a text behind another
pub wrote_none : (b : List ℕ) (at : ℕ) → at ≤ most_place → Wrote b at [] b at
wrote_none b at h = record { bytes = refl; ends = omega arith }

module _ (b : List ℕ) (fits : length b ≤ most_place) where
  pub wrote_append : (at : ℕ) (xs ys c d : List ℕ) (p r : ℕ) → Wrote b at xs c p → Wrote c p ys d r → Wrote b at (xs ++ ys) d r
  wrote_append at xs ys c d p r u w =
      let e : length (xs ++ ys) ≡ length xs + length ys = length-append xs ys in
      let l : length c ≡ length b = ap length u.bytes ∙ length-sets b at xs in
      let f : p ≡ min (at + length xs) most_place = u.ends in
      let g : r ≡ min (p + length ys) most_place = w.ends in
      record { bytes = w.bytes ∙ (same (dec_le (at + length xs) most_place) ∙ (ap (λ (x : List ℕ). sets x (at + length xs) ys) u.bytes ∙ sym (sets_append b at xs ys))); ends = omega arith }
    where
      same : Dec (at + length xs ≤ most_place) → sets c p ys ≡ sets c (at + length xs) ys
      same (yes h) = ap (λ (k : ℕ). sets c k ys) (u.ends ∙ omega arith)
      same (no h) =
          let l : length c ≡ length b = ap length u.bytes ∙ length-sets b at xs in
          let f : p ≡ min (at + length xs) most_place = u.ends in
          sets_past c p ys (omega arith) ∙ sym (sets_past c (at + length xs) ys (omega arith))

  -- a word, byte by byte
  pub wrote_more : (at : ℕ) (w c d : List ℕ) (k p r : ℕ) → k < length w → Wrote b at (take k w) c p → Wrote c p (get_or w k 0 ∷ []) d r → Wrote b at (take (k + 1) w) d r
  wrote_more at w c d k p r h u o = rw (add-one k, take-suc w k 0 h) (wrote_append at (take k w) (get_or w k 0 ∷ []) c d p r u o)

  -- a number, digit by digit
  pub wrote_step : (at n : ℕ) (c d : List ℕ) (p r : ℕ) → 10 ≤ n → Wrote b at (decimal (n / 10)) c p → Wrote c p ((48 + n % 10) ∷ []) d r → Wrote b at (decimal n) d r
  wrote_step at n c d p r h u o = rw (decimal_step n h) (wrote_append at (decimal (n / 10)) ((48 + n % 10) ∷ []) c d p r u o)

pub wrote_small : (b : List ℕ) (at n : ℕ) (c : List ℕ) (p : ℕ) → n < 10 → Wrote b at ((48 + n % 10) ∷ []) c p → Wrote b at (decimal n) c p
wrote_small b at n c p h u = let e : n % 10 ≡ n = omega arith in rw (decimal_small n h) (rw e at u)

-- the buffer keeps its length
pub wrote_length : (b : List ℕ) (at : ℕ) (xs c : List ℕ) (p : ℕ) → Wrote b at xs c p → length c ≡ length b
wrote_length b at xs c p u = ap length u.bytes ∙ length-sets b at xs

-- a text by another name
pub wrote_is : (b : List ℕ) (at : ℕ) (x y c : List ℕ) (p : ℕ) → x ≡ y → Wrote b at x c p → Wrote b at y c p
wrote_is b at x y c p e w = rw e at w
