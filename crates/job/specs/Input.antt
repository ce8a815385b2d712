-- The program's input: its two parts, and the lines of its job.
use Rattle.std.specs.Prelude.{Bool, true, false, cond, ◌&&◌, List, [], ◌∷◌, ℕ, zero, suc, ◌-◌, ◌^◌, eqb, Err}
use Rattle.meaning.specs.Meaning.{Decision, Keep, Limit}
use Rattle.text.specs.Bytes.{tab, feed}
use Rattle.text.specs.Numbers.{read_number, read_field}
use Rattle.text.specs.Lines.{Judged, strip, on_strip, on_field, close, on_judged}
use Rattle.text.specs.declared.lines.Fault.TheVariants.{Form}

-- the sizes of the program
abbrev pub longest_input : ℕ
longest_input = 32768

abbrev pub longest_output : ℕ
longest_output = 2048

abbrev pub most_days : ℕ
most_days = 128

abbrev pub most_lines : ℕ
most_lines = 512

abbrev pub most_limit : ℕ
most_limit = 4294967295

-- the words of the input, each with its tab
abbrev pub days_word : List ℕ
days_word = 100 ∷ 97 ∷ 121 ∷ 115 ∷ tab ∷ []

abbrev pub keep_word : List ℕ
keep_word = 107 ∷ 101 ∷ 101 ∷ 112 ∷ tab ∷ []

abbrev pub limit_word : List ℕ
limit_word = 108 ∷ 105 ∷ 109 ∷ 105 ∷ 116 ∷ tab ∷ []

-- the input is cut at its first empty line, a line feed at the start of a line: what stands before it, or all of the input if there is none
unfoldable pub before : Bool → List ℕ → List ℕ
before start [] = []
before start (b ∷ s) = cond (start && eqb b feed) [] (b ∷ before (eqb b feed) s)

-- is there one; and what stands after it
unfoldable pub parted : Bool → List ℕ → Bool
parted start [] = false
parted start (b ∷ s) = cond (start && eqb b feed) true (parted (eqb b feed) s)

unfoldable pub after : Bool → List ℕ → List ℕ
after start [] = []
after start (b ∷ s) = cond (start && eqb b feed) s (after (eqb b feed) s)

-- a line of a word and a number in range
unfoldable pub read_count : List ℕ → ℕ → ℕ → List ℕ → Judged ℕ
read_count w lo hi l = on_strip (strip w l) (λ s. on_field (read_number lo hi s) (λ n s. close true n s)) (Err Form)

-- the first job line: `days` and n
unfoldable pub read_days : List ℕ → Judged ℕ
read_days l = read_count days_word 1 most_days l

-- a later one: `keep` place mask, or `limit` place cost
unfoldable pub read_keep : ℕ → ℕ → List ℕ → Judged Decision
read_keep n v s = on_field (read_field 0 (n - 1) s) (λ i s. on_field (read_number 0 (2 ^ v - 1) s) (λ m s. close true (Keep i m) s))

unfoldable pub read_limit : ℕ → List ℕ → Judged Decision
read_limit n s = on_field (read_field 0 (n - 1) s) (λ i s. on_field (read_number 0 most_limit s) (λ c s. close true (Limit i c) s))

unfoldable pub read_decision : ℕ → ℕ → List ℕ → Judged Decision
read_decision n v l = on_strip (strip keep_word l) (read_keep n v) (on_strip (strip limit_word l) (read_limit n) (Err Form))

-- the job: n and its decisions, or the number of its first wrong line
pub data Job : Type 0 where
  days : ℕ → List Decision → Job
  wrong_line : ℕ → Job

abbrev pub with_decision : Decision → Job → Job
with_decision d (days n ds) = days n (d ∷ ds)
with_decision d (wrong_line k) = wrong_line k

-- the decisions, from line k on; a line more than there is room for is wrong
unfoldable pub read_decisions : ℕ → ℕ → ℕ → ℕ → List (List ℕ) → Job
unfolding read_decision
read_decisions n v k room [] = days n []
read_decisions n v k zero (l ∷ ls) = wrong_line k
read_decisions n v k (suc room) (l ∷ ls) =
    on_judged (read_decision n v l) (λ d. with_decision d (read_decisions n v (suc k) room ls)) (λ x. wrong_line k)
