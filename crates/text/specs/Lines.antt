-- Lines of fields: a text cut into lines, the word at the front of a line, and the judgement of what follows.
use Rattle.std.specs.Prelude.{◌≡◌, Bool, true, false, cond, ◌&&◌, Result, Ok, Err, List, [], ◌∷◌, ℕ, ◌-◌, ◌≤◌, ◌<◌, eqb, length, take, drop}
use Rattle.text.specs.Bytes.{tab, feed, is_small}
use Rattle.text.specs.Numbers.{Field, number, malformed, outside}
use Rattle.text.specs.declared.numbers.Number.{Number}
use Rattle.text.specs.declared.numbers.NumberFault.{NumberFault}
use Rattle.text.specs.declared.numbers.NumberFault.TheVariants.{Malformed, Outside}
use Rattle.text.specs.declared.lines.Fault.{Fault}
use Rattle.text.specs.declared.lines.Fault.TheVariants.{Form, Range, Order, Cut}

-- a text cut after each line feed
abbrev pub onto : ℕ → Bool → List (List ℕ) → List (List ℕ)
onto b true ls = (b ∷ []) ∷ ls
onto b false [] = (b ∷ []) ∷ []
onto b false (l ∷ ls) = (b ∷ l) ∷ ls

unfoldable pub lines : List ℕ → List (List ℕ)
lines [] = []
lines (b ∷ s) = onto b (eqb b feed) (lines s)

-- what comes of reading a line: what it says, or its fault
abbrev pub Judged : Type 0 → Type 0
Judged A = Result A Fault

abbrev pub on_judged : {A B : Type 0} → Judged A → (A → B) → (Fault → B) → B
on_judged (Ok a) f g = f a
on_judged (Err x) f g = g x

-- a word taken off the front of a text, with what follows it
pub data Stripped : Type 0 where
  rest : List ℕ → Stripped
  other : Stripped

unfoldable pub strip : List ℕ → List ℕ → Stripped
strip [] s = rest s
strip (w ∷ ws) [] = other
strip (w ∷ ws) (b ∷ s) = cond (eqb b w) (strip ws s) other

-- a word of small letters taken off the front of a line, and then a tab: what `strip` does with the word and its tab (law word_strip)
unfoldable pub strip_word : List ℕ → List ℕ → Stripped
strip_word [] [] = other
strip_word [] (b ∷ s) = cond (eqb b tab) (rest s) other
strip_word (w ∷ ws) [] = other
strip_word (w ∷ ws) (b ∷ s) = cond (is_small b && eqb b w) (strip_word ws s) other

abbrev pub on_strip : {A : Type 0} → Stripped → (List ℕ → A) → A → A
on_strip (rest s) f a = f s
on_strip other f a = a

abbrev pub on_field : {A : Type 0} → Field → (ℕ → List ℕ → Judged A) → Judged A
on_field (number n r) f = f n r
on_field malformed f = Err Form
on_field outside f = Err Range

-- after the last field: no further field, then the order, then the line feed, which ends the line
unfoldable pub ending : Bool → List ℕ → Judged Unit
ending ordered [] = cond ordered (Err Cut) (Err Order)
ending ordered (b ∷ []) = cond (eqb b feed) (cond ordered (Ok tt) (Err Order)) (Err Form)
ending ordered (b ∷ e ∷ r) = Err Form

abbrev pub sealed : {A : Type 0} → A → Judged Unit → Judged A
sealed a (Ok u) = Ok a
sealed a (Err f) = Err f

abbrev pub close : {A : Type 0} → Bool → A → List ℕ → Judged A
close ordered a r = sealed a (ending ordered r)

-- the fault that a field has as a number
abbrev pub number_fault : NumberFault → Fault
number_fault Malformed = Form
number_fault Outside = Range

-- the fault of a field, by what was read there
abbrev pub field_fault : Result Number NumberFault → Fault
field_fault (Ok n) = Form
field_fault (Err f) = number_fault f

-- a word of n bytes found at the front of a line, or not
abbrev pub strip_view : List ℕ → ℕ → Bool → Stripped
strip_view s n true = rest (drop n s)
strip_view s n false = other

-- the line at a place of a text, and its end
pub record LineAt (s : List ℕ) (at end : ℕ) : Type 0 where
  pub low : at < end
  pub high : end ≤ length s
  pub cuts : lines (drop at s) ≡ take (end - at) (drop at s) ∷ lines (drop end s)

-- where a line ends; past the end of the text no line is left
pub record LineEnd (s : List ℕ) (at end : ℕ) : Type 0 where
  pub inside : at < length s → LineAt s at end
  pub past_end : length s ≤ at → end ≡ at
