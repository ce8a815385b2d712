-- The sheet W of the paper, mended: about the definitions.
use Rattle.std.specs.Prelude.{◌≡◌, refl, Bool, true, false, List, [], ◌∷◌, map, ℕ}
use Rattle.kinds.specs.Bits.{bit}
use Rattle.meaning.specs.Bounds.{top}
use Rattle.meaning.specs.Meaning.{places, rosters}
use Rattle.meaning.specs.Worked.{W}
use Rattle.mending.specs.Mending.{changes, fewest, mended, right}

-- its values
abbrev d : ℕ
d = 0

abbrev e : ℕ
e = 1

abbrev x : ℕ
x = 2

abbrev free : ℕ
free = top

-- a drawn roster, the most changes, masks and limits, and the proposal; or a drawn roster, any roster, a claimed number of changes, and
-- whether it is right where neither masks nor limits forbid any
pub data Case : Type 0 where
  Mend : List ℕ → ℕ → List ℕ → List ℕ → List (List ℕ) → Case
  Ask : List ℕ → List ℕ → ℕ → Bool → Case

-- the case as the definitions have it
abbrev pub said : Case → Case
said (Mend ds k ms ls w) = Mend ds k ms ls (mended ds k (rosters W 0 0 (places ms ls)))
said (Ask ds w n b) = Ask ds w n (right W 0 0 (places (7 ∷ 7 ∷ 7 ∷ []) (free ∷ free ∷ free ∷ [])) ds w n)

unfoldable pub table : List Case
table =
    Mend (x ∷ x ∷ d ∷ []) 7 (7 ∷ 7 ∷ 7 ∷ []) (free ∷ free ∷ free ∷ []) ((x ∷ d ∷ d ∷ []) ∷ [])
    ∷ Mend (x ∷ x ∷ d ∷ []) 0 (7 ∷ 7 ∷ 7 ∷ []) (free ∷ free ∷ free ∷ []) []
    ∷ Mend (e ∷ x ∷ x ∷ []) 0 (7 ∷ 7 ∷ 7 ∷ []) (free ∷ free ∷ free ∷ []) ((e ∷ x ∷ x ∷ []) ∷ [])
    ∷ Mend (e ∷ x ∷ x ∷ []) 7 (6 ∷ 6 ∷ 6 ∷ []) (0 ∷ free ∷ free ∷ []) ((x ∷ e ∷ x ∷ []) ∷ [])
    ∷ Mend (d ∷ d ∷ d ∷ []) 7 (7 ∷ 7 ∷ 7 ∷ []) (free ∷ free ∷ free ∷ []) ((d ∷ d ∷ x ∷ []) ∷ [])
    ∷ Mend (e ∷ e ∷ e ∷ []) 7 (7 ∷ 7 ∷ 7 ∷ []) (free ∷ free ∷ free ∷ []) ((e ∷ e ∷ x ∷ []) ∷ [])
    ∷ Mend (e ∷ e ∷ e ∷ []) 7 (7 ∷ 7 ∷ 7 ∷ []) (0 ∷ free ∷ free ∷ []) ((x ∷ e ∷ e ∷ []) ∷ [])
    ∷ Mend (e ∷ e ∷ e ∷ []) 7 (7 ∷ 7 ∷ 7 ∷ []) (0 ∷ 0 ∷ 1 ∷ []) []
    ∷ Ask (x ∷ x ∷ d ∷ []) (x ∷ d ∷ d ∷ []) 1 true
    ∷ Ask (x ∷ x ∷ d ∷ []) (x ∷ d ∷ d ∷ []) 2 false
    ∷ Ask (x ∷ x ∷ d ∷ []) (x ∷ x ∷ d ∷ []) 0 false
    ∷ []

pub worked : map said table ≡ table
unfolding W table top places bit rosters changes fewest mended right
worked = refl
