-- The walk along the planner's table, and what the inner contracts cite. Inner: no public contract cites this file.
use Rattle.std.specs.Prelude.{Bool, true, false, ◌&&◌, List, [], ◌∷◌, ◌≡◌, ℕ, zero, suc, ◌+◌, ◌*◌, ◌-◌, ◌≤◌, ◌<◌, ltb, length, get_or, take, Option, None, Some}
use Rattle.kinds.specs.Bits.{bit}
use Rattle.kinds.specs.declared.Value.{Value}
use Rattle.meaning.specs.Meaning.{Arcs, target, cost, has_arc, places, rosters}
use Rattle.meaning.specs.Lists.{those}
use Rattle.meaning.specs.Bounds.{most_places, most_states, most_values, most_changes, table_size, top}
use Rattle.rules.specs.Answers.{zeros}
use Rattle.rooms.specs.Tables.{Net, Same, frame}
use Rattle.rooms.specs.Changes.{row_for, NearLayers}
use Rattle.mending.specs.Mending.{differs, changes, mended}

-- of a list of rosters, those with fewer than g changes
unfoldable pub fewer : List ℕ → ℕ → List (List ℕ) → List (List ℕ)
fewer ds g ws = those (λ w. ltb (changes ds w) g) ws

-- what the table tells of layer i: the room of a state with fewer than g changes
abbrev pub room_at : List ℕ → ℕ → ℕ → ℕ → ℕ
room_at work i zero q = 0
room_at work i (suc j) q = suc top - get_or work (row_for i j * most_states + q) 0

-- whether a value can be taken where d is drawn, with a cost spent and fewer than g changes to make, so that a roster goes on from layer i
unfoldable pub takeable : Arcs → List ℕ → ℕ → ℕ → ℕ → ℕ → ℕ → ℕ → ℕ → Bool
takeable a work i m d q spent g v = bit m v && (has_arc a q v && ltb (spent + cost a q v) (room_at work i (g - differs v d) (target a q v)))

-- the walk stands before layer i, at a state with a cost spent and so many changes left
pub record Stands (a : Arcs) (work : List ℕ) (i q spent left : ℕ) : Type 0 where
  pub few_states_lem : a.states ≤ most_states
  pub few_values : a.values ≤ most_values
  pub all_targets : length a.targets ≡ table_size
  pub all_costs : length a.costs ≡ table_size
  pub layer : i ≤ most_places
  pub few_left : left ≤ most_changes
  pub rows : row_for (i + 1) 0 * most_states ≤ length work
  pub state : q < a.states
  pub low : spent ≤ top

-- no value below v can be taken
pub record Tried (a : Arcs) (work : List ℕ) (i m d q s g v : ℕ) : Type 0 where
  pub none : (u : ℕ) → u < v → takeable a work i m d q s g u ≡ false

-- the smallest value that can be taken, if there is one
abbrev pub FirstTakeable : Arcs → List ℕ → ℕ → ℕ → ℕ → ℕ → ℕ → ℕ → Option Value → Type 0
FirstTakeable a work i m d q s g None = Tried a work i m d q s g a.values
FirstTakeable a work i m d q s g (Some v) = (v.0 < a.values) × Tried a work i m d q s g v.0 × (takeable a work i m d q s g v.0 ≡ true)

-- arcs, limits and accepting states of which the table is the image
pub record Meant (a : Arcs) (net : Net) (ds ms work ls : List ℕ) (accepting k : ℕ) : Type 0 where
  pub limits : length ls ≡ length ms
  pub drawn : length ds ≡ length ms
  pub arcs : Same a a.values net
  pub rooms : NearLayers (frame net a.states a.values accepting) ds ms ls k work

-- the walk writes the first roster with so many changes or fewer
pub record Walks (a : Arcs) (start spent : ℕ) (ms ds work : List ℕ) (most : ℕ) (is : List ℕ) : Type 0 where
  pub first : (net : Net) (ls : List ℕ) (accepting k : ℕ) → most ≤ k → Meant a net ds ms work ls accepting k
      → ◌≡◌ {A = List (List ℕ)} (take 1 (fewer ds (suc most) (rosters (record { arcs = a; accepting = accepting }) start spent (places ms ls)))) (is ∷ [])

-- what the whole planner finds in the list of rosters: the mended roster with its changes, or none with at most k
abbrev pub Found : List (List ℕ) → List ℕ → ℕ → List ℕ → List ℕ → Option ℕ → Type 0
Found ws ds k was is None = (mended ds k ws ≡ []) × (is ≡ was)
Found ws ds k was is (Some n) = (n ≤ k) × (mended ds k ws ≡ is ∷ []) × (n ≡ changes ds is)

-- and leaves the work table cleared
pub record Mends (ws : List (List ℕ)) (ds : List ℕ) (k : ℕ) (was is work cleared : List ℕ) (found : Option ℕ) : Type 0 where
  pub roster : Found ws ds k was is found
  pub clear : cleared ≡ zeros work
