-- THE PROGRAMS: what each prints for an input, as a function of its bytes.
use Rattle.std.specs.Prelude.{true, cond, List, [], ◌∷◌, ℕ, ◌-◌, ◌^◌, eqb, ltb, length, replicate}
use Rattle.meaning.specs.Meaning.{Rules, rules_of, Place, places, Decision, decides, verdict_of}
use Rattle.meaning.specs.Bounds.{table_size, top}
use Rattle.text.specs.Lines.{lines, on_judged}
use Rattle.sheet.specs.Reading.{Outcome, read_of}
use Rattle.job.specs.Input.{longest_input, most_lines, before, parted, after, read_days, Job, days, wrong_line, read_decisions}
use Rattle.job.specs.Output.{long_text, wrong_text, job_line, verdict_text}

-- what a program prints once the sheet and the days line are right: by the rule set, its start, n and the lines behind the days line
abbrev pub Program : Type 0
Program = Rules → ℕ → ℕ → List (List ℕ) → List ℕ

-- the first job line is the days line
unfoldable pub days_done : (ℕ → List (List ℕ) → List ℕ) → List (List ℕ) → List ℕ
days_done done [] = job_line 1
days_done done (l ∷ ls) = on_judged (read_days l) (λ n. done n ls) (λ x. job_line 1)

-- of a right sheet, the lines after the first empty line are the job; with no such line, its first line is missing
unfoldable pub job_done : Program → List ℕ → Outcome → List ℕ
job_done p s r =
    cond (parted true s)
    (days_done (p (rules_of r.states r.values r.targets r.costs r.accepting) r.start) (lines (after true s)))
    (job_line 1)

-- of a wrong sheet, its first wrong line is printed, and whether a number is out of range
unfoldable pub sheet_done : Program → List ℕ → Outcome → List ℕ
sheet_done p s r = cond (eqb r.answer 0) (job_done p s r) (wrong_text r.answer r.line)

-- THE PROMISE: the sheet is what stands before the first empty line, read into tables that the program has itself
unfoldable pub program_text : Program → List ℕ → List ℕ
program_text p s =
    cond (ltb longest_input (length s)) long_text (sheet_done p s (read_of (before true s) (replicate table_size 0) (replicate table_size 0)))

-- the places of a job: all masks start full, all limits at the top, and each decision narrows them
abbrev pub asked : Rules → ℕ → List Decision → List Place
asked r n ds = decides (places (replicate n (2 ^ r.arcs.values - 1)) (replicate n top)) ds

-- ROTA: a job is filtered once all its lines are taken
unfoldable pub done_text : Rules → ℕ → Job → List ℕ
done_text r s (wrong_line k) = job_line k
done_text r s (days n ds) = verdict_text (verdict_of r s 0 (asked r n ds))

unfoldable pub rota : Program
rota r s n ls = done_text r s (read_decisions n r.arcs.values 2 most_lines ls)

unfoldable pub job_text : List ℕ → List ℕ
job_text s = program_text rota s
