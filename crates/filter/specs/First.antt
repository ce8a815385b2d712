-- The first roster with a value at a place: what it answers, and what it leaves in the lent slices.
use Rattle.std.specs.Prelude.{◌&&◌, List, [], ◌∷◌, ℕ, ltb, length}
use Rattle.meaning.specs.Meaning.{places, rosters, first}
use Rattle.rules.specs.Checks.{Handed}
use Rattle.rules.specs.Answers.{Check, check, decided, zeros, work_after}
use Rattle.filter.specs.Filter.{pass_checks}

-- what a first roster answers and leaves: its answer number, the roster and the work table
pub record Given : Type 0 where
  pub answer : ℕ
  pub roster : List ℕ
  pub work : List ℕ

abbrev pub given : ℕ → List ℕ → List ℕ → Given
given a r w = record { answer = a; roster = r; work = w }

-- 7: a place or a value out of range
abbrev pub first_checks : Handed → List ℕ → List ℕ → ℕ → ℕ → List ℕ → List ℕ → List Check
first_checks h ms ls i v roster work =
    pass_checks h ms ls (length roster) (length work) (check 7 (ltb i h.places && ltb v h.rules.arcs.values) ∷ [])

-- the first one, or 11 with the roster slice unchanged; the work table is cleared
unfoldable pub first_done : List (List ℕ) → List ℕ → List ℕ → Given
first_done [] roster work = given 11 roster (zeros work)
first_done (w ∷ ws) roster work = given 0 w (zeros work)

unfoldable pub first_of : Handed → List ℕ → List ℕ → ℕ → ℕ → List ℕ → List ℕ → Given
first_of h ms ls i v roster work =
    decided (first_checks h ms ls i v roster work) (λ n. given n roster (work_after n work))
    (first_done (first i v (rosters h.rules h.start 0 (places ms ls))) roster work)
