-- The prefix report: how much of a drawn roster lies behind its longest prefix that an accepted word of its length begins with.
use Rattle.std.specs.Prelude.{Bool, List, [], ◌∷◌, ℕ, eqb, ltb, length}
use Rattle.meaning.specs.Lists.{all, some}
use Rattle.meaning.specs.Prefixes.{accepted_words, behind}
use Rattle.rules.specs.Checks.{Handed, rule_checks}
use Rattle.rules.specs.Answers.{Check, check, decided}

-- what a report answers
pub record Outcome : Type 0 where
  pub answer : ℕ
  pub report : ℕ

abbrev pub outcome : ℕ → ℕ → Outcome
outcome a n = record { answer = a; report = n }

-- 7: a roster value not below V
unfoldable pub values_right : ℕ → List ℕ → Bool
values_right v w = all (λ x. ltb x v) w

-- the checks 1, 2, 3 and 7 of a call that is handed a drawn roster; then its others
abbrev pub drawn_checks : Handed → List ℕ → List Check → List Check
drawn_checks h w others =
    rule_checks h (eqb (length w) h.places) (check 7 (values_right h.rules.arcs.values w) ∷ others)

-- the accepted words of n values from the start
abbrev pub full_words : Handed → List (List ℕ)
full_words h = accepted_words h.rules h.start h.places

-- 11: there is none
abbrev pub report_checks : Handed → List ℕ → List Check
report_checks h w = drawn_checks h w (check 11 (some (full_words h)) ∷ [])

unfoldable pub report_of : Handed → List ℕ → Outcome
report_of h w = decided (report_checks h w) (λ n. outcome n 0) (outcome 0 (behind w (full_words h)))
