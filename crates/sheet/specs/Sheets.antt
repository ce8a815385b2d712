-- Whole sheets: the text of a rule set, and the reading of a text, line by line.
use Rattle.std.specs.Prelude.{Bool, false, cond, List, [], ◌∷◌, ◌++◌, ℕ, suc, ◌+◌, ◌*◌, eqb, drop, set, replicate}
use Rattle.text.specs.Lines.{lines, on_judged}
use Rattle.kinds.specs.Bits.{bit, mask_of}
use Rattle.meaning.specs.Meaning.{Arcs, Rules, target, cost, has_arc}
use Rattle.meaning.specs.Lists.{from, each, any}
use Rattle.meaning.specs.Bounds.{most_states, no_target}
use Rattle.rules.specs.declared.Size.{Size}
use Rattle.sheet.specs.Lines.{size_of, Line, final, arc, size_text, line_text, place, read_size, read_line}
use Rattle.text.specs.declared.lines.Fault.{Fault}
use Rattle.text.specs.declared.lines.Fault.TheVariants.{Form}

-- the lines of a rule set: the accepting states, then the arcs by state and value
abbrev pub final_line : ℕ → ℕ → List Line
final_line accepting q = cond (bit accepting q) (final q ∷ []) []

abbrev pub arc_line : Arcs → ℕ → ℕ → List Line
arc_line a q v = cond (has_arc a q v) (arc q v (target a q v) (cost a q v) ∷ []) []

unfoldable pub lines_of : Rules → List Line
lines_of r =
    each (final_line r.accepting) (from 0 r.arcs.states)
    ++ each (λ q. each (arc_line r.arcs q) (from 0 r.arcs.values)) (from 0 r.arcs.states)

unfoldable pub text_of : Size → List Line → List ℕ
text_of z ls = size_text z ++ each line_text ls

-- THE TEXT OF A RULE SET and its start
unfoldable pub sheet_text : Rules → ℕ → List ℕ
sheet_text r s = text_of (size_of r.arcs.states r.arcs.values s) (lines_of r)

-- a sheet: what its size line and its other lines say; or the first wrong line, from 1, and why
pub data Sheet : Type 0 where
  sheet : Size → List Line → Sheet
  wrong_at : ℕ → Fault → Sheet

abbrev pub with_line : Line → Sheet → Sheet
with_line l (sheet z ls) = sheet z (l ∷ ls)
with_line l (wrong_at n f) = wrong_at n f

-- the lines from number n on, where `next` is the first place that is still free
unfoldable pub read_rest : Size → ℕ → ℕ → List (List ℕ) → Sheet
unfolding read_line
read_rest z next n [] = sheet z []
read_rest z next n (l ∷ ls) =
    on_judged (read_line z next l) (λ a. with_line a (read_rest z (suc (place z a)) (suc n) ls)) (wrong_at n)

unfoldable pub read_lines : List (List ℕ) → Sheet
unfolding read_size read_rest
read_lines [] = wrong_at 1 Form
read_lines (l ∷ ls) = on_judged (read_size l) (λ z. read_rest z 0 2 ls) (wrong_at 1)

-- THE READING OF A TEXT
unfoldable pub read_sheet : List ℕ → Sheet
unfolding read_lines lines
read_sheet s = read_lines (lines s)

-- the accepting mask that lines name
abbrev pub names : ℕ → Line → Bool
names q (final p) = eqb q p
names q (arc p v t c) = false

unfoldable pub accepting_of : List Line → ℕ
accepting_of ls = mask_of (λ q. any (names q) ls) most_states

-- what lines put into a table
abbrev pub the_target : ℕ → ℕ → ℕ
the_target t c = t

abbrev pub the_cost : ℕ → ℕ → ℕ
the_cost t c = c

unfoldable pub puts : ℕ → (ℕ → ℕ → ℕ) → List Line → List ℕ → List ℕ
puts values part [] xs = xs
puts values part (final q ∷ ls) xs = puts values part ls xs
puts values part (arc q v t c ∷ ls) xs = puts values part ls (set xs (q * values + v) (part t c))

-- a table whose first n places are blank
unfoldable pub blank : ℕ → ℕ → List ℕ → List ℕ
blank n x xs = replicate n x ++ drop n xs

-- the tables after a sheet is read: the first Q × V places are written, the rest unchanged
unfoldable pub targets_of : Size → List Line → List ℕ → List ℕ
unfolding puts blank
targets_of z ls xs = puts z.values the_target ls (blank (z.states * z.values) no_target xs)

unfoldable pub costs_of : Size → List Line → List ℕ → List ℕ
unfolding puts blank
costs_of z ls xs = puts z.values the_cost ls (blank (z.states * z.values) 0 xs)
