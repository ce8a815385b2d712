-- What writing a sheet answers, and what it leaves in the lent buffer.
use Rattle.std.specs.Prelude.{List, [], ◌∷◌, ◌++◌, ℕ, leb, length, drop}
use Rattle.meaning.specs.Meaning.{Rules}
use Rattle.rules.specs.Checks.{size_right, tables_long, tables_right}
use Rattle.rules.specs.Answers.{Check, check, decided}
use Rattle.sheet.specs.Sheets.{sheet_text}

-- as long as the text of any right rule set is at the most (`longest_sheet_lem` in proofs/Longest.antt)
abbrev pub longest_sheet : ℕ
longest_sheet = 18212

-- the answer number, the length of the text, and the buffer
pub record Outcome : Type 0 where
  pub answer : ℕ
  pub length : ℕ
  pub buffer : List ℕ

abbrev pub write_left : ℕ → ℕ → List ℕ → Outcome
write_left a n b = record { answer = a; length = n; buffer = b }

abbrev pub write_checks : Rules → ℕ → List ℕ → List Check
write_checks r s b =
    let a = r.arcs in
    check 1 (size_right a.states a.values s)
    ∷ check 2 (tables_long a.targets a.costs)
    ∷ check 3 (tables_right a.states a.values a.targets a.costs r.accepting)
    ∷ check 6 (leb (length (sheet_text r s)) (length b))
    ∷ []

-- THE PROMISE OF THE WRITER, for any lent rule set, start and buffer: the bytes past the text are unchanged
unfoldable pub write_of : Rules → ℕ → List ℕ → Outcome
write_of r s b =
    let text = sheet_text r s in
    decided (write_checks r s b) (λ n. write_left n 0 b) (write_left 0 (length text) (text ++ drop (length text) b))
