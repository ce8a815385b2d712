-- What is written of a call is what it carries. Assumes nothing.
use mathlib.Core.Path.{◌≡◌, refl}
use mathlib.Core.Bool.{Bool, false}
use mathlib.Core.List.{List}
use Prim.Native.Nat.{ℕ}
use Rattle.std.specs.Prelude.{Result, Ok, Err}
use Rattle.std.specs.Result.{result_unwrap_or}
use Rattle.rules.specs.Answers.{answer_of, carried}
use Rattle.rules.specs.declared.Answer.{Answer}
use Rattle.rules.specs.declared.Outline.{Outline}
use Rattle.checker.specs.Says.{says}
use Rattle.patterns.specs.Outcome.{Outcome, pattern_left}
use Rattle.compositor.specs.Leaving.{left_by}

pub written : (r : Result ℕ Answer) → result_unwrap_or r 0 ≡ carried r
written (Ok n) = refl
written (Err a) = refl

pub said_no : (r : Result Bool Answer) → result_unwrap_or r false ≡ says r
said_no (Ok b) = refl
said_no (Err a) = refl

-- the outline that a refusal does not carry
abbrev nothing : Outline
nothing = record { size = record { states = 0; values = 0; start = record { 0 = 0 } }; accepting = 0 }

abbrev outlined : ℕ → Outline → List ℕ → List ℕ → Outcome
outlined a o t c = pattern_left a o.size.states o.size.values o.size.start.0 o.accepting t c

pub composed : (r : Result Outline Answer) (t c : List ℕ) → outlined (answer_of r) (result_unwrap_or r nothing) t c ≡ left_by r t c
composed (Ok o) t c = refl
composed (Err a) t c = refl
