-- The filter: what it answers, and what it leaves in the lent slices.
use Rattle.std.specs.Prelude.{Bool, ◌&&◌, List, [], ◌∷◌, ℕ, eqb, length}
use Rattle.meaning.specs.Meaning.{Verdict, places, verdict_of}
use Rattle.meaning.specs.Bounds.{work_size}
use Rattle.rules.specs.Checks.{Handed, masks_right, rule_checks}
use Rattle.rules.specs.Answers.{Check, check, decided, zeros, work_after}

-- what a filter answers and leaves: its answer number, the least cost, the kept masks and the work table
pub record Left : Type 0 where
  pub answer : ℕ
  pub least : ℕ
  pub kept : List ℕ
  pub work : List ℕ

abbrev pub left : ℕ → ℕ → List ℕ → List ℕ → Left
left a l ks w = record { answer = a; least = l; kept = ks; work = w }

-- masks, limits and the slice that is written have n entries, the work table a row for each layer
unfoldable pub lengths_right : ℕ → ℕ → ℕ → ℕ → ℕ → Bool
lengths_right n ms ls out work = eqb ms n && (eqb ls n && (eqb out n && eqb work (work_size n)))

-- the checks 1 to 4 of a call that is lent masks, limits, a slice to write and a work table
abbrev pub pass_checks : Handed → List ℕ → List ℕ → ℕ → ℕ → List Check → List Check
pass_checks h ms ls out work rest =
    rule_checks h (lengths_right h.places (length ms) (length ls) out work) (check 4 (masks_right h.rules.arcs.values ms) ∷ rest)

abbrev pub filter_checks : Handed → List ℕ → List ℕ → List ℕ → List ℕ → List Check
filter_checks h ms ls ks work = pass_checks h ms ls (length ks) (length work) []

-- what the list of rosters tells, with the work table cleared
unfoldable pub filter_done : Verdict → List ℕ → Left
filter_done t work = left t.answered t.cheapest t.masks (zeros work)

unfoldable pub filter_of : Handed → List ℕ → List ℕ → List ℕ → List ℕ → Left
filter_of h ms ls ks work =
    decided (filter_checks h ms ls ks work) (λ n. left n 0 ks (work_after n work)) (filter_done (verdict_of h.rules h.start 0 (places ms ls)) work)
