-- The fields of a line, and the tests that tell its fault: those of its fields from left to right, then its order, then its line feed.
use Rattle.std.specs.Prelude.{◌≡◌, Bool, true, false, cond, ◌&&◌, Ok, Err, List, [], ◌∷◌, ℕ, eqb, leb, length, get_or}
use Rattle.meaning.specs.Lists.{all, any}
use Rattle.text.specs.Bytes.{tab, feed, is_digit}
use Rattle.text.specs.Numbers.{plain, value}
use Rattle.text.specs.Lines.{Judged}
use Rattle.text.specs.declared.lines.Fault.{Fault}
use Rattle.text.specs.declared.lines.Fault.TheVariants.{Form, Range, Order, Cut}

-- a line has a line feed at its end or none
abbrev pub IsLine : List ℕ → Type 0
IsLine [] = Unit
IsLine (b ∷ s) = (b ≡ feed → s ≡ []) × IsLine s

-- the fields of a line, parted by tabs; its line feed belongs to none
abbrev pub longer : ℕ → List (List ℕ) → List (List ℕ)
longer b [] = (b ∷ []) ∷ []
longer b (f ∷ fs) = (b ∷ f) ∷ fs

unfoldable pub fields : List ℕ → List (List ℕ)
fields [] = [] ∷ []
fields (b ∷ s) = cond (eqb b feed) ([] ∷ []) (cond (eqb b tab) ([] ∷ fields s) (longer b (fields s)))

-- field k, from 0; one that is missing is as an empty one
abbrev pub field : ℕ → List ℕ → List ℕ
field k l = get_or (fields l) k []

-- a field is a word
unfoldable pub is_word : List ℕ → List ℕ → Bool
is_word [] [] = true
is_word [] (b ∷ f) = false
is_word (w ∷ ws) [] = false
is_word (w ∷ ws) (b ∷ f) = eqb b w && is_word ws f

-- a test of a line: the fault of a line that fails it, and whether it is passed
pub data Test : Type 0 where
  test : Fault → Bool → Test

-- THE FIRST FAULT DECIDES; a line without one says a
unfoldable pub judged : {A : Type 0} → List Test → A → Judged A
judged [] a = Ok a
judged (test f ok ∷ ts) a = cond ok (judged ts a) (Err f)

-- a field is a number of our form, whatever its digit count
abbrev pub is_number : List ℕ → Bool
is_number f = plain f && all is_digit f

-- a field is a number from lo to hi, and the tests behind it are passed
abbrev pub number_test : ℕ → ℕ → List ℕ → List Test → List Test
number_test lo hi f ts = test Form (is_number f) ∷ test Range (leb lo (value 0 f) && leb (value 0 f) hi) ∷ ts

-- after all fields: there are n and no further one, the line stands in order, and it has its line feed
abbrev pub last_tests : ℕ → Bool → List ℕ → List Test
last_tests n ordered l = test Form (eqb (length (fields l)) n) ∷ test Order ordered ∷ test Cut (any (eqb feed) l) ∷ []
