-- The program's output, line by line.
use Rattle.std.specs.Prelude.{cond, List, [], ◌∷◌, ◌++◌, ℕ, suc, eqb}
use Rattle.meaning.specs.Meaning.{Verdict}
use Rattle.text.specs.Bytes.{tab, feed}
use Rattle.text.specs.Numbers.{decimal}

-- what is printed, a line each
abbrev pub long_text : List ℕ
long_text = 108 ∷ 111 ∷ 110 ∷ 103 ∷ feed ∷ []

abbrev pub none_text : List ℕ
none_text = 110 ∷ 111 ∷ 110 ∷ 101 ∷ feed ∷ []

unfoldable pub sheet_line : ℕ → List ℕ
sheet_line n = 115 ∷ 104 ∷ 101 ∷ 101 ∷ 116 ∷ tab ∷ (decimal n ++ feed ∷ [])

unfoldable pub range_line : ℕ → List ℕ
range_line n = 114 ∷ 97 ∷ 110 ∷ 103 ∷ 101 ∷ tab ∷ (decimal n ++ feed ∷ [])

-- of a wrong sheet: its first wrong line, behind `range` under answer 13 and behind `sheet` otherwise
unfoldable pub wrong_text : ℕ → ℕ → List ℕ
unfolding sheet_line range_line
wrong_text a n = cond (eqb a 13) (range_line n) (sheet_line n)

unfoldable pub job_line : ℕ → List ℕ
job_line n = 106 ∷ 111 ∷ 98 ∷ tab ∷ (decimal n ++ feed ∷ [])

unfoldable pub kept_line : ℕ → ℕ → List ℕ
kept_line i m = 107 ∷ 101 ∷ 112 ∷ 116 ∷ tab ∷ (decimal i ++ tab ∷ (decimal m ++ feed ∷ []))

unfoldable pub least_line : ℕ → List ℕ
least_line c = 108 ∷ 101 ∷ 97 ∷ 115 ∷ 116 ∷ tab ∷ (decimal c ++ feed ∷ [])

unfoldable pub kept_lines : ℕ → List ℕ → List ℕ
unfolding kept_line
kept_lines i [] = []
kept_lines i (m ∷ ms) = kept_line i m ++ kept_lines (suc i) ms

unfoldable pub verdict_text : Verdict → List ℕ
unfolding kept_lines least_line
verdict_text t = cond (eqb t.answered 0) (kept_lines 0 t.masks ++ least_line t.cheapest) none_text
