-- What the two passes give together, with all that is lent to them.
use Rattle.std.specs.Prelude.{Bool, true, false, List, [], ◌∷◌, ◌≡◌, ℕ, ◌≤◌, ◌<◌, length, Option, None, IfSome}
use Rattle.meaning.specs.Meaning.{Rules, Place, rules_of, places, rosters, first, verdict_of}
use Rattle.meaning.specs.Bounds.{top}
use Rattle.rules.specs.Answers.{zeros}
use Rattle.rooms.specs.Tables.{Sizes}
use Rattle.reach.specs.Looks.{verdict_by}

-- what a whole filter gives: the masks, the least cost, if a roster is allowed, and the work table cleared
pub record Filters (r : Rules) (start spent : ℕ) (ps : List Place) (was is out : List ℕ) (least : Option ℕ) : Type 0 where
  pub most : IfSome least (λ x. x ≤ top)
  pub right : verdict_by out least ≡ verdict_of r start spent ps
  pub cleared : is ≡ zeros was

-- what the first roster with value v at place i gives: the roster, or nothing written, and the work table cleared
pub record Finds (ws : List (List ℕ)) (i v : ℕ) (was is work cleared : List ℕ) (found : Bool) : Type 0 where
  pub some : found ≡ true → first i v ws ≡ is ∷ []
  pub none : found ≡ false → (first i v ws ≡ []) × (is ≡ was)
  pub clear : cleared ≡ zeros work

-- whether the start is a state, the cost already spent is one, and the slice to write has a number for each place
pub record Order (qs start spent count out : ℕ) (found : Bool) : Type 0 where
  pub right : found ≡ true → (start < qs) × (spent ≤ top) × (out ≡ count)
  pub wrong : found ≡ false → start < qs → spent ≤ top → out ≡ count → ⊥

-- the whole filter, for whatever is lent: nothing is written where something is not in order
pub record FilterRuns (qs vs : ℕ) (t c : List ℕ) (accepting start spent : ℕ) (ms ls kept work out is : List ℕ) (least : Option ℕ) : Type 0 where
  pub right : Sizes qs vs t c ms ls work → start < qs → spent ≤ top → length kept ≡ length ms
      → Filters (rules_of qs vs t c accepting) start spent (places ms ls) work is out least
  pub wrong : (Sizes qs vs t c ms ls work → start < qs → spent ≤ top → length kept ≡ length ms → ⊥) → (least ≡ None) × (out ≡ kept) × (is ≡ work)

-- the first roster, likewise
pub record FirstRuns (qs vs : ℕ) (t c : List ℕ) (accepting start spent : ℕ) (ms ls : List ℕ) (i v : ℕ) (roster work out is : List ℕ) (found : Bool) : Type 0 where
  pub right : Sizes qs vs t c ms ls work → start < qs → spent ≤ top → length roster ≡ length ms → i < length ms
      → Finds (rosters (rules_of qs vs t c accepting) start spent (places ms ls)) i v roster out work is found
  pub wrong : (Sizes qs vs t c ms ls work → start < qs → spent ≤ top → length roster ≡ length ms → i < length ms → ⊥) → (found ≡ false) × (out ≡ roster) × (is ≡ work)
