-- What reading a sheet answers, and what it leaves in the lent tables.
use Rattle.std.specs.Prelude.{cond, not, ◌||◌, Result, Ok, Err, List, [], ◌∷◌, ℕ, eqb}
use Rattle.rules.specs.Checks.{tables_long}
use Rattle.rules.specs.Answers.{Check, check, decided}
use Rattle.rules.specs.declared.Outline.{Outline}
use Rattle.text.specs.declared.lines.Fault.{Fault}
use Rattle.text.specs.declared.lines.Fault.TheVariants.{Form, Range, Order, Cut}
use Rattle.sheet.specs.declared.Unread.{Unread}
use Rattle.sheet.specs.declared.Unread.TheVariants.{WrongLength, WrongLine}
use Rattle.sheet.specs.Sheets.{Sheet, sheet, wrong_at, read_sheet, accepting_of, targets_of, costs_of}

-- the answer number; the first wrong line; Q, V, start and the accepting mask; both tables
pub record Outcome : Type 0 where
  pub answer : ℕ
  pub line : ℕ
  pub states : ℕ
  pub values : ℕ
  pub start : ℕ
  pub accepting : ℕ
  pub targets : List ℕ
  pub costs : List ℕ

abbrev pub read_left : ℕ → ℕ → ℕ → ℕ → ℕ → ℕ → List ℕ → List ℕ → Outcome
read_left a n q v s m t c =
    record { answer = a; line = n; states = q; values = v; start = s; accepting = m; targets = t; costs = c }

-- the answer that a sheet gets: 13 where its first wrong line has a number out of range as its first fault, 5 for any other fault
abbrev pub fault_answer : Fault → ℕ
fault_answer Form = 5
fault_answer Range = 13
fault_answer Order = 5
fault_answer Cut = 5

-- why a sheet is not read: its answer, and the line that this carries
abbrev pub unread_answer : Unread → ℕ
unread_answer WrongLength = 2
unread_answer (WrongLine n f) = fault_answer f

abbrev pub unread_line : Unread → ℕ
unread_line WrongLength = 0
unread_line (WrongLine n f) = n

-- what the code gives and leaves, as an outcome
abbrev pub read_given : Result Outline Unread → List ℕ → List ℕ → Outcome
read_given (Ok o) t c = read_left 0 0 o.size.states o.size.values o.size.start.0 o.accepting t c
read_given (Err u) t c = read_left (unread_answer u) (unread_line u) 0 0 0 0 t c

abbrev pub sheet_answer : Sheet → ℕ
sheet_answer (sheet z ls) = 0
sheet_answer (wrong_at n f) = fault_answer f

abbrev pub wrong_line : Sheet → ℕ
wrong_line (sheet z ls) = 0
wrong_line (wrong_at n f) = n

abbrev pub read_checks : Sheet → List ℕ → List ℕ → List Check
read_checks x t c = check 2 (tables_long t c) ∷ check 5 (not (eqb (sheet_answer x) 5)) ∷ check 13 (not (eqb (sheet_answer x) 13)) ∷ []

-- a refusal carries 0 for each number, save the line under 5 and 13
abbrev pub read_refused : Sheet → List ℕ → List ℕ → ℕ → Outcome
read_refused x t c n = read_left n (cond (eqb n 5 || eqb n 13) (wrong_line x) 0) 0 0 0 0 t c

abbrev pub read_done : Sheet → List ℕ → List ℕ → Outcome
read_done (sheet z ls) t c =
    read_left 0 0 z.states z.values z.start.0 (accepting_of ls) (targets_of z ls t) (costs_of z ls c)
read_done (wrong_at n f) t c = read_left 0 0 0 0 0 0 t c

-- what a sheet gives: its size and its accepting mask, or its first wrong line and why
abbrev pub sheet_given : Sheet → Result Outline Unread
sheet_given (sheet z ls) = Ok (record { size = z; accepting = accepting_of ls })
sheet_given (wrong_at n f) = Err (WrongLine n f)

abbrev pub given_of : List ℕ → List ℕ → List ℕ → Result Outline Unread
given_of s t c = cond (tables_long t c) (sheet_given (read_sheet s)) (Err WrongLength)

-- THE PROMISE OF THE READER, for a text of any length and any bytes
unfoldable pub read_of : List ℕ → List ℕ → List ℕ → Outcome
read_of s t c =
    let x = read_sheet s in
    decided (read_checks x t c) (read_refused x t c) (read_done x t c)
