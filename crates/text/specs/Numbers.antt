-- Decimal numbers as bytes: the digits of a number, and what stands at the front of a text as a number.
use Rattle.std.specs.Prelude.{◌≡◌, Bool, true, false, cond, not, ◌&&◌, ◌||◌, Result, Ok, Err, List, [], ◌∷◌, ◌++◌, ℕ, zero, suc, ◌+◌, ◌-◌, ◌*◌, ◌/◌, ◌%◌, ◌≤◌, ltb, leb, eqb, length, drop}
use Rattle.text.specs.Bytes.{tab, feed, nought, is_digit}
use Rattle.text.specs.declared.numbers.Number.{Number}
use Rattle.text.specs.declared.numbers.NumberFault.{NumberFault}
use Rattle.text.specs.declared.numbers.NumberFault.TheVariants.{Malformed, Outside}

-- the digits of n, at most f of them after the first
unfoldable pub decimal_in : ℕ → ℕ → List ℕ
decimal_in zero n = (nought + n) ∷ []
decimal_in (suc f) n = cond (ltb n 10) ((nought + n) ∷ []) (decimal_in f (n / 10) ++ (nought + n % 10) ∷ [])

-- the digits of n, with no sign and no leading zero
unfoldable pub decimal : ℕ → List ℕ
unfolding decimal_in
decimal n = decimal_in n n

-- the digits at the front of a text, and what follows them
unfoldable pub digits : List ℕ → List ℕ
digits [] = []
digits (b ∷ s) = cond (is_digit b) (b ∷ digits s) []

unfoldable pub past : List ℕ → List ℕ
past [] = []
past (b ∷ s) = cond (is_digit b) (past s) (b ∷ s)

-- the number that digits stand for, after the number a
unfoldable pub value : ℕ → List ℕ → ℕ
value a [] = a
value a (d ∷ ds) = value (a * 10 + (d - nought)) ds

-- at least one digit, and no zero before another digit
unfoldable pub plain : List ℕ → Bool
plain [] = false
plain (d ∷ []) = true
plain (d ∷ e ∷ ds) = not (eqb d nought)

-- the end of a field: a tab, a line feed, or the end of the text
unfoldable pub field_end : List ℕ → Bool
field_end [] = true
field_end (b ∷ s) = eqb b tab || eqb b feed

-- a field read as a number: the number with what follows the field, no number of our form, or one that is out of range
pub data Field : Type 0 where
  number : ℕ → List ℕ → Field
  malformed : Field
  outside : Field

-- a number from lo to hi
unfoldable pub read_number : ℕ → ℕ → List ℕ → Field
unfolding digits past value plain field_end
read_number lo hi s =
    let n = value 0 (digits s) in
    cond (plain (digits s) && field_end (past s)) (cond (leb lo n && leb n hi) (number n (past s)) outside) malformed

-- a field that is not the last of its line: its tab is taken too
unfoldable pub tabbed : Field → Field
tabbed (number n []) = malformed
tabbed (number n (b ∷ r)) = cond (eqb b tab) (number n r) malformed
tabbed malformed = malformed
tabbed outside = outside

abbrev pub read_field : ℕ → ℕ → List ℕ → Field
read_field lo hi s = tabbed (read_number lo hi s)

-- the code's answer as a field: a number that ends at a place of the line
abbrev pub number_view : List ℕ → Result Number NumberFault → Field
number_view s (Ok n) = number n.value (drop n.end s)
number_view s (Err Malformed) = malformed
number_view s (Err Outside) = outside

abbrev pub number_in : List ℕ → Result Number NumberFault → Type 0
number_in s (Ok n) = n.end ≤ length s
number_in s (Err f) = Unit

pub record NumberAt (x : Field) (s : List ℕ) (r : Result Number NumberFault) : Type 0 where
  pub reads : number_view s r ≡ x
  pub inside : number_in s r
