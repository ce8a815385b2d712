-- PATTERN, the third program: an input of one line, V, a tab and a pattern, and the sheet that is made of it.
use Rattle.std.specs.Prelude.{◌≡◌, cond, List, [], ◌∷◌, ◌++◌, ℕ, ◌-◌, eqb, length, get_or, take, replicate}
use Rattle.meaning.specs.Bounds.{most_values, table_size}
use Rattle.text.specs.Bytes.{tab, feed}
use Rattle.text.specs.Numbers.{decimal, Field, number, malformed, outside, read_field}
use Rattle.sheet.specs.Sheets.{sheet_text}
use Rattle.patterns.specs.Outcome.{Outcome, made_of, pattern_of}

-- a longer input is refused: two digits, a tab, 256 bytes and a line feed
abbrev pub longest_input : ℕ
longest_input = 260

-- the line, without the line feed that may end it
unfoldable pub line_of : List ℕ → List ℕ
line_of s = cond (eqb (get_or s (length s - 1) 0) feed) (take (length s - 1) s) s

-- what is printed for answers 1, 15 and 14: `values`, `pattern`, `states`, a line each
abbrev pub values_line : List ℕ
values_line = 118 ∷ 97 ∷ 108 ∷ 117 ∷ 101 ∷ 115 ∷ feed ∷ []

abbrev pub pattern_line : List ℕ
pattern_line = 112 ∷ 97 ∷ 116 ∷ 116 ∷ 101 ∷ 114 ∷ 110 ∷ feed ∷ []

abbrev pub states_line : List ℕ
states_line = 115 ∷ 116 ∷ 97 ∷ 116 ∷ 101 ∷ 115 ∷ feed ∷ []

-- what is printed of what the reader of patterns answers
unfoldable pub draft_of : Outcome → List ℕ
draft_of o = cond (eqb o.answer 15) pattern_line (cond (eqb o.answer 14) states_line (sheet_text (made_of o) o.start))

-- V, and the pattern behind its tab; the program's own tables are all zeros at first
unfoldable pub drafted : Field → List ℕ
drafted (number v l) = draft_of (pattern_of l v (replicate table_size 0) (replicate table_size 0))
drafted malformed = values_line
drafted outside = values_line

-- THE PROMISE OF THE PROGRAM, for an input of any length and any bytes
unfoldable pub pattern_job_text : List ℕ → List ℕ
pattern_job_text s = drafted (read_field 1 most_values (line_of s))

-- AN INPUT FOR V AND A LINE: V, a tab, the line and a line feed, which may be missing unless the line itself ends with one
pub data InputFor (v : ℕ) (l : List ℕ) : List ℕ → Type 0 where
  with_feed : InputFor v l (decimal v ++ (tab ∷ (l ++ (feed ∷ []))))
  without : (get_or l (length l - 1) 0 ≡ feed → ⊥) → InputFor v l (decimal v ++ (tab ∷ l))
