-- The lines of a sheet: what a line says, its text, and the judgement of one line.
use Rattle.std.specs.Prelude.{true, Err, List, [], ◌∷◌, ◌++◌, ℕ, ◌+◌, ◌-◌, ◌*◌, leb}
use Rattle.text.specs.Lines.{Judged, strip, on_strip, on_field, close}
use Rattle.meaning.specs.Bounds.{most_states, most_values, most_cost}
use Rattle.rules.specs.declared.Size.{Size}
use Rattle.text.specs.Bytes.{tab, feed}
use Rattle.text.specs.Numbers.{decimal, read_number, read_field}
use Rattle.text.specs.declared.lines.Fault.TheVariants.{Form}

-- what the size line says: Q, V and the start
abbrev pub size_of : ℕ → ℕ → ℕ → Size
size_of q v s = record { states = q; values = v; start = record { 0 = s } }

-- what a line after it says: an accepting state; or the state, value, target and cost of an arc
pub data Line : Type 0 where
  final : ℕ → Line
  arc : ℕ → ℕ → ℕ → ℕ → Line

-- `size`, `final` and `arc`; and each with its tab
abbrev pub size_name : List ℕ
size_name = 115 ∷ 105 ∷ 122 ∷ 101 ∷ []

abbrev pub final_name : List ℕ
final_name = 102 ∷ 105 ∷ 110 ∷ 97 ∷ 108 ∷ []

abbrev pub arc_name : List ℕ
arc_name = 97 ∷ 114 ∷ 99 ∷ []

abbrev pub size_word : List ℕ
size_word = size_name ++ tab ∷ []

abbrev pub final_word : List ℕ
final_word = final_name ++ tab ∷ []

abbrev pub arc_word : List ℕ
arc_word = arc_name ++ tab ∷ []

-- the text of a line, with its line feed
unfoldable pub size_text : Size → List ℕ
size_text z = size_word ++ (decimal z.states ++ tab ∷ (decimal z.values ++ tab ∷ (decimal z.start.0 ++ feed ∷ [])))

unfoldable pub line_text : Line → List ℕ
line_text (final q) = final_word ++ (decimal q ++ feed ∷ [])
line_text (arc q v t c) = arc_word ++ (decimal q ++ tab ∷ (decimal v ++ tab ∷ (decimal t ++ tab ∷ (decimal c ++ feed ∷ []))))

-- the place of a line in the sheet's order: the final lines by state, then the arc lines by state and value
unfoldable pub place : Size → Line → ℕ
place z (final q) = q
place z (arc q v t c) = z.states + (q * z.values + v)

-- line 1
unfoldable pub read_size : List ℕ → Judged Size
read_size s =
    on_strip (strip size_word s)
    (λ s. on_field (read_field 1 most_states s)
    (λ q s. on_field (read_field 1 most_values s)
    (λ v s. on_field (read_number 0 (q - 1) s)
    (λ t s. close true (size_of q v t) s))))
    (Err Form)

-- past its word, a final line or an arc line, where `next` is the first place that is still free
unfoldable pub read_final : Size → ℕ → List ℕ → Judged Line
read_final z next s =
    on_field (read_number 0 (z.states - 1) s) (λ q s. close (leb next (place z (final q))) (final q) s)

unfoldable pub read_arc : Size → ℕ → List ℕ → Judged Line
read_arc z next s =
    on_field (read_field 0 (z.states - 1) s)
    (λ q s. on_field (read_field 0 (z.values - 1) s)
    (λ v s. on_field (read_field 0 (z.states - 1) s)
    (λ t s. on_field (read_number 0 most_cost s)
    (λ c s. close (leb next (place z (arc q v t c))) (arc q v t c) s))))

-- a line after the first
unfoldable pub read_line : Size → ℕ → List ℕ → Judged Line
unfolding read_final read_arc
read_line z next s =
    on_strip (strip final_word s) (read_final z next) (on_strip (strip arc_word s) (read_arc z next) (Err Form))
