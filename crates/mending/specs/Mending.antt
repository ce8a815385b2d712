-- What it means to mend a drawn roster, and to check a proposal: both read off the list of allowed rosters, of any state q and cost c spent.
use Rattle.std.specs.Prelude.{Bool, cond, ◌&&◌, List, [], ◌∷◌, map, ℕ, ◌+◌, eqb, leb, take}
use Rattle.meaning.specs.Meaning.{Rules, Place, allowed, least}
use Rattle.meaning.specs.Lists.{those}

-- a place changes if its value is not the drawn one
abbrev pub differs : ℕ → ℕ → ℕ
differs v d = cond (eqb v d) 0 1

-- the places where a roster differs from the drawn one
unfoldable pub changes : List ℕ → List ℕ → ℕ
changes [] w = 0
changes (d ∷ ds) [] = 0
changes (d ∷ ds) (v ∷ w) = differs v d + changes ds w

-- the fewest changes that a roster of the list has
unfoldable pub fewest : List ℕ → List (List ℕ) → ℕ
fewest ds ws = least (map (changes ds) ws)

-- MENDED: of the rosters with the fewest changes, k at most, the first, if there is one
unfoldable pub mended : List ℕ → ℕ → List (List ℕ) → List (List ℕ)
mended ds k ws = take 1 (those (λ w. eqb (changes ds w) (fewest ds ws) && leb (changes ds w) k) ws)

-- A PROPOSAL IS RIGHT: the roster is allowed, and has the claimed number of changes
unfoldable pub right : Rules → ℕ → ℕ → List Place → List ℕ → List ℕ → ℕ → Bool
right r q c ps ds w claimed = allowed r q c ps w && eqb (changes ds w) claimed
