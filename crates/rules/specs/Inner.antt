-- Inner: no public contract cites this file. Sets of states are numbers, state q being bit q.
use Rattle.std.specs.Prelude.{cond, not, List, [], ◌∷◌, ℕ, suc, ◌+◌, ◌*◌, eqb, length, get_or}
use Rattle.std.specs.Int.Bits.{bit_and}
use Rattle.kinds.specs.Bits.{bit, mask_of}
use Rattle.meaning.specs.Lists.{from, any, some}
use Rattle.meaning.specs.Meaning.{Arcs, Rules, target}
use Rattle.meaning.specs.Prefixes.{accepted_words, behind}
use Rattle.rules.specs.Answers.{check, decided}
use Rattle.rules.specs.Report.{Outcome, outcome}

-- the states that the arcs of state q on its first n values lead to
unfoldable pub next_by : Arcs → ℕ → ℕ → ℕ
next_by a q n = mask_of (λ t. any (λ v. eqb t (target a q v)) (from 0 n)) a.states

-- those of the first n states that have an arc into the set
unfoldable pub into_set : List ℕ → ℕ → ℕ → ℕ
into_set next set n = mask_of (λ q. not (eqb (bit_and (get_or next q 0) set) 0)) n

-- the states from which some word of n values is accepted
unfoldable pub finishing : Rules → ℕ → ℕ
finishing r n = mask_of (λ q. some (accepted_words r q n)) r.arcs.states

-- the steps that a roster makes from state q, each to a state that can finish
unfoldable pub steps : ℕ → List ℕ → List ℕ → ℕ → List ℕ → ℕ
steps vs t layers q [] = 0
steps vs t layers q (v ∷ w) = cond (bit (get_or layers (length w) 0) (get_or t (q * vs + v) 0)) (suc (steps vs t layers (get_or t (q * vs + v) 0) w)) 0

-- what is left of a report, once the checks before 11 are passed
abbrev pub report_rest : List ℕ → List (List ℕ) → Outcome
report_rest w ws = decided (check 11 (some ws) ∷ []) (λ n. outcome n 0) (outcome 0 (behind w ws))
