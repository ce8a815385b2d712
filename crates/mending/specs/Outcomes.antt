-- The planner and the checker: what they answer, and what they leave in the lent slices.
use Rattle.std.specs.Prelude.{Bool, false, ◌&&◌, List, [], ◌∷◌, ℕ, leb, eqb, length}
use Rattle.meaning.specs.Meaning.{places, rosters}
use Rattle.meaning.specs.Bounds.{most_changes, plan_size}
use Rattle.rules.specs.Answers.{Check, check, decided, zeros, work_after}
use Rattle.rules.specs.Checks.{Handed, masks_right, rule_checks}
use Rattle.rules.specs.Report.{values_right}
use Rattle.mending.specs.Mending.{changes, mended, right}

-- what a planner answers and leaves: its answer number, the changes made, the proposal and the work table
pub record Planned : Type 0 where
  pub answer : ℕ
  pub changed : ℕ
  pub roster : List ℕ
  pub work : List ℕ

abbrev pub planned : ℕ → ℕ → List ℕ → List ℕ → Planned
planned a n r w = record { answer = a; changed = n; roster = r; work = w }

-- masks, limits and both rosters have n entries
unfoldable pub rosters_long : ℕ → ℕ → ℕ → ℕ → ℕ → Bool
rosters_long n ms ls ds out = eqb ms n && (eqb ls n && (eqb ds n && eqb out n))

-- 7: more changes than can be asked for, or a drawn value not below V
abbrev pub mend_checks : Handed → List ℕ → List ℕ → List ℕ → ℕ → ℕ → ℕ → List Check
mend_checks h ms ls ds k roster work =
    rule_checks h (rosters_long h.places (length ms) (length ls) (length ds) roster && eqb work (plan_size h.places))
    (check 4 (masks_right h.rules.arcs.values ms) ∷ check 7 (leb k most_changes && values_right h.rules.arcs.values ds) ∷ [])

-- the mended roster with its changes, or 11 with the roster slice unchanged; the work table is cleared
unfoldable pub mend_done : List ℕ → List (List ℕ) → List ℕ → List ℕ → Planned
mend_done ds [] roster work = planned 11 0 roster (zeros work)
mend_done ds (w ∷ ws) roster work = planned 0 (changes ds w) w (zeros work)

-- the planner, from state q with the cost c spent
unfoldable pub mend_from : Handed → ℕ → ℕ → List ℕ → List ℕ → List ℕ → ℕ → List ℕ → List ℕ → Planned
mend_from h q c ms ls ds k roster work =
    decided (mend_checks h ms ls ds k (length roster) (length work)) (λ n. planned n 0 roster (work_after n work))
    (mend_done ds (mended ds k (rosters h.rules q c (places ms ls))) roster work)

-- THE PLANNER
unfoldable pub mend_of : Handed → List ℕ → List ℕ → List ℕ → ℕ → List ℕ → List ℕ → Planned
mend_of h ms ls ds k roster work = mend_from h h.start 0 ms ls ds k roster work

-- what a checker answers: its answer number, and whether it says yes
pub record Said : Type 0 where
  pub answer : ℕ
  pub says : Bool

abbrev pub said : ℕ → Bool → Said
said a b = record { answer = a; says = b }

-- 7: a value not below V in either roster
abbrev pub check_checks : Handed → List ℕ → List ℕ → List ℕ → List ℕ → List Check
check_checks h ms ls ds w =
    rule_checks h (rosters_long h.places (length ms) (length ls) (length ds) (length w))
    (check 4 (masks_right h.rules.arcs.values ms) ∷ check 7 (values_right h.rules.arcs.values ds && values_right h.rules.arcs.values w) ∷ [])

-- the checker, from state q with the cost c spent
unfoldable pub check_from : Handed → ℕ → ℕ → List ℕ → List ℕ → List ℕ → List ℕ → ℕ → Said
check_from h q c ms ls ds w claimed =
    decided (check_checks h ms ls ds w) (λ n. said n false) (said 0 (right h.rules q c (places ms ls) ds w claimed))

-- THE CHECKER
unfoldable pub check_of : Handed → List ℕ → List ℕ → List ℕ → List ℕ → ℕ → Said
check_of h ms ls ds w claimed = check_from h h.start 0 ms ls ds w claimed
