-- What reading a pattern leaves: of what it gives, and of the tables.
use Rattle.std.specs.Prelude.{List, ℕ, Result, Ok, Err}
use Rattle.rules.specs.declared.Answer.{Answer}
use Rattle.rules.specs.declared.Outline.{Outline}
use Rattle.rules.specs.Answers.{number_of}
use Rattle.patterns.specs.Outcome.{Outcome, pattern_left}

-- 0 and the outline, or the answer of a refusal and 0 for each number; both tables
abbrev pub left_by : Result Outline Answer → List ℕ → List ℕ → Outcome
left_by (Ok o) t c = pattern_left 0 o.size.states o.size.values o.size.start.0 o.accepting t c
left_by (Err a) t c = pattern_left (number_of a) 0 0 0 0 t c
