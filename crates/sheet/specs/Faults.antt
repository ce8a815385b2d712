-- THE FAULT OF A WRONG SHEET: that of its first wrong line, told by the line's fields from left to right.
use Rattle.std.specs.Prelude.{◌≡◌, true, cond, Ok, Err, List, [], ◌∷◌, ◌++◌, ℕ, suc, ◌-◌, leb, length}
use Rattle.meaning.specs.Bounds.{most_states, most_values, most_cost}
use Rattle.rules.specs.declared.Size.{Size}
use Rattle.text.specs.Numbers.{value}
use Rattle.text.specs.Lines.{lines}
use Rattle.text.specs.Fields.{field, Test, test, judged, is_word, number_test, last_tests}
use Rattle.text.specs.declared.lines.Fault.{Fault}
use Rattle.text.specs.declared.lines.Fault.TheVariants.{Form}
use Rattle.sheet.specs.Lines.{size_of, Line, final, arc, size_name, final_name, arc_name, place}

-- the number in field k of a line
abbrev pub field_value : ℕ → List ℕ → ℕ
field_value k l = value 0 (field k l)

-- line 1: `size`, Q, V and the start, which is below Q; no order is asked of it
unfoldable pub size_tests : List ℕ → List Test
size_tests l =
    test Form (is_word size_name (field 0 l))
    ∷ number_test 1 most_states (field 1 l)
    (number_test 1 most_values (field 2 l)
    (number_test 0 (field_value 1 l - 1) (field 3 l)
    (last_tests 4 true l)))

abbrev pub size_in : List ℕ → Size
size_in l = size_of (field_value 1 l) (field_value 2 l) (field_value 3 l)

-- a line after it: `final` and a state, or `arc`, state, value, target and cost; any other first field is a fault of form. A line in order stands
-- behind the places that lines before it have taken
abbrev pub final_in : List ℕ → Line
final_in l = final (field_value 1 l)

abbrev pub arc_in : List ℕ → Line
arc_in l = arc (field_value 1 l) (field_value 2 l) (field_value 3 l) (field_value 4 l)

unfoldable pub final_tests : Size → ℕ → List ℕ → List Test
final_tests z next l = number_test 0 (z.states - 1) (field 1 l) (last_tests 2 (leb next (place z (final_in l))) l)

unfoldable pub arc_tests : Size → ℕ → List ℕ → List Test
arc_tests z next l =
    number_test 0 (z.states - 1) (field 1 l)
    (number_test 0 (z.values - 1) (field 2 l)
    (number_test 0 (z.states - 1) (field 3 l)
    (number_test 0 most_cost (field 4 l)
    (last_tests 5 (leb next (place z (arc_in l))) l))))

unfoldable pub line_tests : Size → ℕ → List ℕ → List Test
line_tests z next l =
    cond (is_word final_name (field 0 l)) (final_tests z next l) (test Form (is_word arc_name (field 0 l)) ∷ arc_tests z next l)

abbrev pub line_in : List ℕ → Line
line_in l = cond (is_word final_name (field 0 l)) (final_in l) (arc_in l)

-- right lines, a size line first: the size, and the first place that they leave free
pub data RightLines : List (List ℕ) → Size → ℕ → Type 0 where
  sized : (l : List ℕ) (z : Size) → judged (size_tests l) (size_in l) ≡ Ok z → RightLines (l ∷ []) z 0
  lined : {ls : List (List ℕ)} {z : Size} {next : ℕ} → RightLines ls z next → (l : List ℕ) (a : Line) → judged (line_tests z next l) (line_in l) ≡ Ok a
      → RightLines (ls ++ l ∷ []) z (suc (place z a))

-- THE FIRST WRONG LINE of a text, from 1, and its first fault: an empty text is wrong at line 1; the lines before a wrong one are right
pub data FirstWrong (s : List ℕ) : ℕ → Fault → Type 0 where
  empty : s ≡ [] → FirstWrong s 1 Form
  top : {f : Fault} (l : List ℕ) (after : List (List ℕ)) → lines s ≡ l ∷ after → judged (size_tests l) (size_in l) ≡ Err f → FirstWrong s 1 f
  later : {f : Fault} {z : Size} {next : ℕ} (before : List (List ℕ)) (l : List ℕ) (after : List (List ℕ)) → lines s ≡ before ++ l ∷ after
      → RightLines before z next → judged (line_tests z next l) (line_in l) ≡ Err f → FirstWrong s (suc (length before)) f
