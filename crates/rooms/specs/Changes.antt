-- The backward table by changes, as functions: the planner's. As in Tables, with a row for each number of changes. Inner: no entry point's
-- contract cites this file.
use Rattle.std.specs.Prelude.{Option, None, Some, Result, Ok, Err, cond, ◌&&◌, List, [], ◌∷◌, ◌≡◌, ℕ, suc, ◌+◌, ◌*◌, ◌-◌, ◌≤◌, ◌<◌, max, min, ltb, length, get_or, take, drop}
use Rattle.kinds.specs.Bits.{bit}
use Rattle.meaning.specs.Meaning.{arcs_of, Place, places}
use Rattle.meaning.specs.Bounds.{most_states, most_changes, work_size, plan_size, top}
use Rattle.rooms.specs.declared.near.Misfit.{Misfit}
use Rattle.rooms.specs.Tables.{Filled, Net, Same, Frame, frame, choices, leaves, best, need, rooms_by, capped, before, room, Low, Bare, Sizes}

-- the best that is left where d is drawn: by any value, with the rooms of one change less, or by the drawn one, with those of as many
unfoldable pub near_best : Net → (ℕ → ℕ) → (ℕ → ℕ) → ℕ → ℕ → ℕ → ℕ → ℕ
near_best a fewer same vs m d q = max (best a fewer q (choices vs m)) (cond (ltb d vs && bit m d) (leaves a same q d) 0)

-- the room of a state, as it is for rosters with fewer than g changes from the drawn one
unfoldable pub near_room : Frame → List ℕ → List Place → ℕ → ℕ → ℕ
near_room f ds [] g q = cond (ltb 0 g) (room f [] q) 0
near_room f [] (p ∷ ps) g q = 0
near_room f (d ∷ ds) (p ∷ ps) g q =
    cond (ltb q f.states)
    (near_best f.net (λ t. capped p.limit (near_room f ds ps (g - 1) t)) (λ t. capped p.limit (near_room f ds ps g t)) f.values p.mask d q)
    0

-- layer i of the table, behind the limit of the step into it
unfoldable pub near_layer : Frame → List ℕ → List ℕ → List ℕ → ℕ → ℕ → ℕ → ℕ
near_layer f ds ms ls i g q = capped (before ls i) (near_room f (drop i ds) (drop i (places ms ls)) g q)

-- the row of layer i for at most j changes
abbrev pub row_for : ℕ → ℕ → ℕ
row_for i j = i * (most_changes + 1) + j

-- the rows of the work table for 0 to k changes: the needs of the layers
pub record NearLayers (f : Frame) (ds ms ls : List ℕ) (k : ℕ) (work : List ℕ) : Type 0 where
  pub right : (l j q : ℕ) → l ≤ length ms → j ≤ k → q < f.states
      → get_or work (row_for l j * most_states + q) 0 ≡ need (near_layer f ds ms ls l (suc j) q)

-- those that are there while they are filled: all for fewer than j changes, and those for j from layer i on
pub record NearLevels (f : Frame) (ds ms ls : List ℕ) (j i : ℕ) (work : List ℕ) : Type 0 where
  pub right : (l o q : ℕ) → l ≤ length ms → o ≤ j → (o ≡ j → i ≤ l) → q < f.states
      → get_or work (row_for l o * most_states + q) 0 ≡ need (near_layer f ds ms ls l (suc o) q)

-- a table that is as it was, save up to n in the rows for 0 to k changes
pub record Beside (n k : ℕ) (was is : List ℕ) : Type 0 where
  pub same : (l j q : ℕ) → j ≤ most_changes → q < most_states → (j ≤ k → q < n → ⊥)
      → get_or is (row_for l j * most_states + q) 0 ≡ get_or was (row_for l j * most_states + q) 0

-- needs of the next layer for one change less, that a row for at most j changes can be made with; where no change is to be made, nothing has room
pub record Spare (n j : ℕ) (fewer : List ℕ) : Type 0 where
  pub low : Low 256 fewer
  pub bare : Bare n fewer
  pub none : j ≡ 0 → Bare 0 fewer

-- a row of a table, none of its numbers above the top but by one
pub record LowRow (n r : ℕ) (work : List ℕ) : Type 0 where
  pub low : (q : ℕ) → q < n → get_or work (r * most_states + q) 0 ≤ suc top

-- they are loaded from the work table, unless no change is to be made
pub record Fewer (n i j : ℕ) (work fewer fewer' : List ℕ) : Type 0 where
  pub none : j ≡ 0 → fewer' ≡ fewer
  pub some : 0 < j → Filled (λ q. get_or work (row_for (i + 1) (j - 1) * most_states + q) 0) n fewer fewer'

-- the needs of a layer by those of the next, for one change less and for as many, none below the least
unfoldable pub near_needs : Net → List ℕ → List ℕ → ℕ → ℕ → ℕ → ℕ → ℕ → ℕ
near_needs a fewer same vs m d least q = max (need (near_best a (rooms_by fewer) (rooms_by same) vs m d q)) least

-- what the planner's table is made of, in its sizes
pub record PlanSizes (qs vs : ℕ) (ts cs ms ls ds : List ℕ) (k : ℕ) (work : List ℕ) : Type 0 where
  pub plain : Sizes qs vs ts cs ms ls (take (work_size (length ms)) work)
  pub all_drawn : length ds ≡ length ms
  pub few_changes : k ≤ most_changes
  pub all_rows : length work ≡ plan_size (length ms)

-- the fewest changes that the start has room with, more than k if it has none with k: the needs of all layers for 0 changes up to those, all else as it was
pub record Fewest (f : Frame) (ds ms ls : List ℕ) (start spent k : ℕ) (work work' : List ℕ) (made : ℕ) : Type 0 where
  pub rooms : NearLayers f ds ms ls (min made k) work'
  pub beside : Beside f.states (min made k) work work'
  pub low : made ≤ suc k
  pub none : (o : ℕ) → o < made → near_layer f ds ms ls 0 (suc o) start ≤ spent
  pub some : made ≤ k → spent < near_layer f ds ms ls 0 (suc made) start

-- the same for a number that was found, at most k, or none
pub record Finds (f : Frame) (ds ms ls : List ℕ) (start spent k : ℕ) (work work' : List ℕ) (found : Option ℕ) : Type 0 where
  pub some : (j : ℕ) → found ≡ Some j → (j ≤ k) × Fewest f ds ms ls start spent k work work' j
  pub none : found ≡ None → Fewest f ds ms ls start spent k work work' (suc k)

-- the same by a net that has the arcs of the rule set
pub record Nears (qs vs : ℕ) (ts cs : List ℕ) (accepting start spent : ℕ) (ms ls ds : List ℕ) (k : ℕ) (work work' : List ℕ) (made : ℕ) : Type 0 where
  pub net : Net
  pub arcs : Same (arcs_of qs vs ts cs) vs net
  pub fewest : Fewest (frame net qs vs accepting) ds ms ls start spent k work work' made

-- the same for whatever is lent: where a size is wrong, and there alone, that is told, and nothing is written
pub record NearRuns (qs vs : ℕ) (ts cs : List ℕ) (accepting start spent : ℕ) (ms ls ds : List ℕ) (k : ℕ) (work work' : List ℕ) (found : Result (Option ℕ) Misfit) : Type 0 where
  pub some : PlanSizes qs vs ts cs ms ls ds k work → start < qs → (j : ℕ) → found ≡ Ok (Some j) → (j ≤ k) × Nears qs vs ts cs accepting start spent ms ls ds k work work' j
  pub none : PlanSizes qs vs ts cs ms ls ds k work → start < qs → found ≡ Ok None → Nears qs vs ts cs accepting start spent ms ls ds k work work' (suc k)
  pub fits : PlanSizes qs vs ts cs ms ls ds k work → start < qs → found ≡ Err (record {}) → ⊥
  pub wrong : (PlanSizes qs vs ts cs ms ls ds k work → start < qs → ⊥) → (found ≡ Err (record {})) × (work' ≡ work)
