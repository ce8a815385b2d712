-- MEND, the second program: a job of rota's with two lines more, `drawn` and the values of a drawn roster, and `most` and a number of changes.
use Rattle.std.specs.Prelude.{Bool, true, false, cond, List, [], ◌∷◌, ◌++◌, ℕ, zero, suc, ◌+◌, ◌-◌, eqb, length, Ok, Err}
use Rattle.meaning.specs.Meaning.{Rules, Place, rosters}
use Rattle.meaning.specs.Lists.{each, some}
use Rattle.meaning.specs.Bounds.{most_changes}
use Rattle.mending.specs.Mending.{changes, mended}
use Rattle.text.specs.Bytes.{tab, feed}
use Rattle.text.specs.Numbers.{decimal, read_number, read_field}
use Rattle.text.specs.Lines.{Judged, strip, on_strip, on_field, close, on_judged}
use Rattle.text.specs.declared.lines.Fault.TheVariants.{Form}
use Rattle.job.specs.Input.{most_lines, read_count, Job, days, wrong_line, read_decisions}
use Rattle.job.specs.Output.{none_text, job_line}
use Rattle.job.specs.Job.{Program, program_text, asked}

-- the words of the two lines, each with its tab
abbrev pub drawn_word : List ℕ
drawn_word = 100 ∷ 114 ∷ 97 ∷ 119 ∷ 110 ∷ tab ∷ []

abbrev pub most_word : List ℕ
most_word = 109 ∷ 111 ∷ 115 ∷ 116 ∷ tab ∷ []

-- the values of a roster of n places, parted by tabs
unfoldable pub read_values : ℕ → ℕ → List ℕ → Judged (List ℕ)
read_values v zero s = Err Form
read_values v (suc zero) s = on_field (read_number 0 (v - 1) s) (λ x s. close true (x ∷ []) s)
read_values v (suc (suc n)) s = on_field (read_field 0 (v - 1) s) (λ x s. on_judged (read_values v (suc n) s) (λ w. Ok (x ∷ w)) Err)

unfoldable pub read_drawn : ℕ → ℕ → List ℕ → Judged (List ℕ)
read_drawn n v l = on_strip (strip drawn_word l) (read_values v n) (Err Form)

unfoldable pub read_most : List ℕ → Judged ℕ
read_most l = read_count most_word 0 most_changes l

-- the lines before the first that begins with the word `drawn`, and those from it on
unfoldable pub is_drawn : List ℕ → Bool
is_drawn l = on_strip (strip drawn_word l) (λ s. true) false

unfoldable pub before_drawn : List (List ℕ) → List (List ℕ)
before_drawn [] = []
before_drawn (l ∷ ls) = cond (is_drawn l) [] (l ∷ before_drawn ls)

unfoldable pub from_drawn : List (List ℕ) → List (List ℕ)
from_drawn [] = []
from_drawn (l ∷ ls) = cond (is_drawn l) (l ∷ ls) (from_drawn ls)

-- the wish that a job ends with: a drawn roster and the most changes; or the number of its first wrong line. Its two lines come in this
-- order and nothing behind them
pub data Wish : Type 0 where
  wish : List ℕ → ℕ → Wish
  wrong_wish : ℕ → Wish

unfoldable pub read_last : List ℕ → ℕ → List (List ℕ) → Wish
read_last w k [] = wrong_wish k
read_last w k (l ∷ ls) = on_judged (read_most l) (λ j. cond (some ls) (wrong_wish (suc k)) (wish w j)) (λ x. wrong_wish k)

unfoldable pub read_wish : ℕ → ℕ → ℕ → List (List ℕ) → Wish
read_wish n v k [] = wrong_wish k
read_wish n v k (l ∷ ls) = on_judged (read_drawn n v l) (λ w. read_last w (suc k) ls) (λ x. wrong_wish k)

-- what is printed, a line each
unfoldable pub changes_line : ℕ → List ℕ
changes_line n = 99 ∷ 104 ∷ 97 ∷ 110 ∷ 103 ∷ 101 ∷ 115 ∷ tab ∷ (decimal n ++ feed ∷ [])

unfoldable pub change_line : ℕ → ℕ → ℕ → List ℕ
change_line i d v = 99 ∷ 104 ∷ 97 ∷ 110 ∷ 103 ∷ 101 ∷ tab ∷ (decimal i ++ tab ∷ (decimal d ++ tab ∷ (decimal v ++ feed ∷ [])))

-- from place i on
unfoldable pub change_lines : ℕ → List ℕ → List ℕ → List ℕ
change_lines i [] w = []
change_lines i (d ∷ ds) [] = []
change_lines i (d ∷ ds) (v ∷ w) = cond (eqb v d) [] (change_line i d v) ++ change_lines (suc i) ds w

unfoldable pub roster_line : List ℕ → List ℕ
roster_line w = 114 ∷ 111 ∷ 115 ∷ 116 ∷ 101 ∷ 114 ∷ (each (λ v. tab ∷ decimal v) w ++ feed ∷ [])

unfoldable pub mended_text : List ℕ → List (List ℕ) → List ℕ
mended_text ds [] = none_text
mended_text ds (w ∷ ws) = changes_line (changes ds w) ++ (change_lines 0 ds w ++ roster_line w)

-- the lines before the drawn one are decisions, and the first wrong line is told
unfoldable pub wish_text : Rules → ℕ → List Place → Wish → List ℕ
wish_text r s ps (wrong_wish k) = job_line k
wish_text r s ps (wish ds k) = mended_text ds (mended ds k (rosters r s 0 ps))

unfoldable pub mend_text : Rules → ℕ → List (List ℕ) → Job → List ℕ
mend_text r s ls (wrong_line k) = job_line k
mend_text r s ls (days n ds) = wish_text r s (asked r n ds) (read_wish n r.arcs.values (2 + length (before_drawn ls)) (from_drawn ls))

unfoldable pub mend : Program
mend r s n ls = mend_text r s ls (read_decisions n r.arcs.values 2 most_lines (before_drawn ls))

unfoldable pub mend_job_text : List ℕ → List ℕ
mend_job_text s = program_text mend s
