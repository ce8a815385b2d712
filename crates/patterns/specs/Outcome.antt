-- What reading a pattern answers, and what it leaves in the lent tables.
use Rattle.std.specs.Prelude.{Bool, true, false, ◌&&◌, List, [], ◌∷◌, ℕ, ◌*◌, leb, length, replicate}
use Rattle.meaning.specs.Bounds.{most_states, most_values}
use Rattle.meaning.specs.Meaning.{Rules, rules_of}
use Rattle.rules.specs.Checks.{tables_long}
use Rattle.rules.specs.Answers.{Check, check, decided}
use Rattle.patterns.specs.Pattern.{Pattern}
use Rattle.patterns.specs.Places.{onward, ends}
use Rattle.numbering.specs.Numbering.{met, targets_of, accepting_of, over}
use Rattle.patterns.specs.Line.{Line, lawful, unlawful, read_line}

-- the answer number; Q, V, start and the accepting mask; both tables
pub record Outcome : Type 0 where
  pub answer : ℕ
  pub states : ℕ
  pub values : ℕ
  pub start : ℕ
  pub accepting : ℕ
  pub targets : List ℕ
  pub costs : List ℕ

abbrev pub pattern_left : ℕ → ℕ → ℕ → ℕ → ℕ → List ℕ → List ℕ → Outcome
pattern_left a q v s m t c = record { answer = a; states = q; values = v; start = s; accepting = m; targets = t; costs = c }

-- the states of a pattern, once 64 have been looked at: these are all, unless there are more than 64
unfoldable pub states_of : ℕ → Pattern → List ℕ
states_of vs p = met (onward p) vs 0 most_states

-- answer 1: V outside its range
unfoldable pub count_right : ℕ → Bool
count_right vs = leb 1 vs && leb vs most_values

abbrev pub is_lawful : Line → Bool
is_lawful (lawful p) = true
is_lawful unlawful = false

abbrev pub few_states : ℕ → Line → Bool
few_states vs (lawful p) = leb (length (states_of vs p)) most_states
few_states vs unlawful = false

abbrev pub pattern_checks : ℕ → Line → List ℕ → List ℕ → List Check
pattern_checks vs x t c =
    check 1 (count_right vs) ∷ check 2 (tables_long t c) ∷ check 15 (is_lawful x) ∷ check 14 (few_states vs x) ∷ []

-- a refusal carries 0 for each number, and leaves the tables
abbrev pub pattern_refused : List ℕ → List ℕ → ℕ → Outcome
pattern_refused t c n = pattern_left n 0 0 0 0 t c

-- the first Q × V places are written, every cost 0
abbrev pub pattern_done : ℕ → Line → List ℕ → List ℕ → Outcome
pattern_done vs (lawful p) t c =
    let cs = states_of vs p in
    pattern_left 0 (length cs) vs 0 (accepting_of (ends p) cs) (over (targets_of (onward p) vs cs) t) (over (replicate (length cs * vs) 0) c)
pattern_done vs unlawful t c = pattern_refused t c 0

-- THE PROMISE OF THE READER OF PATTERNS, for a line of any length and any bytes
unfoldable pub pattern_of : List ℕ → ℕ → List ℕ → List ℕ → Outcome
pattern_of s vs t c =
    let x = read_line vs s in
    decided (pattern_checks vs x t c) (pattern_refused t c) (pattern_done vs x t c)

-- the rule set that a call leaves
abbrev pub made_of : Outcome → Rules
made_of o = rules_of o.states o.values o.targets o.costs o.accepting
