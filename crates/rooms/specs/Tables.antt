-- The backward table, as functions. Inner: no entry point's contract cites this file; proofs/ shows what the table means.
use Rattle.std.specs.Prelude.{Bool, true, false, cond, ◌&&◌, ◌||◌, List, [], ◌∷◌, ◌++◌, map, ◌≡◌, ℕ, zero, suc, ◌+◌, ◌*◌, ◌-◌, ◌≤◌, ◌<◌, min, max, ltb, length, get_or, replicate, take, drop}
use Rattle.kinds.specs.declared.Value.{Value}
use Rattle.kinds.specs.Bits.{width, bit}
pub use Rattle.meaning.specs.Lists.{Filled}
use Rattle.meaning.specs.Meaning.{Arcs, arcs_of, target, cost, Place, places}
use Rattle.meaning.specs.Lists.{those}
use Rattle.ranks.specs.Rows.{out, Ranked}
use Rattle.meaning.specs.Bounds.{most_places, most_states, most_values, table_size, work_size, top}

-- n - 1, .., 1, 0
unfoldable pub down : ℕ → List ℕ
down zero = []
down (suc n) = n ∷ down n

-- the values below vs of a mask
unfoldable pub choices : ℕ → ℕ → List ℕ
choices vs m = those (bit m) (down vs)

-- arcs as the passes read them: where a state's arc on a value leads, and its cost
pub record Net : Type 0 where
  pub to : ℕ → ℕ → ℕ
  pub fee : ℕ → ℕ → ℕ

-- the tables turned, so that the arcs on one value stand in one row
unfoldable pub turned : List ℕ → List ℕ → Net
turned ts cs = record { to = λ q v. get_or ts (v * most_states + q) 0; fee = λ q v. get_or cs (v * most_states + q) 0 }

-- a net that has the arcs of a rule set on the values below vs
pub record Same (a : Arcs) (vs : ℕ) (n : Net) : Type 0 where
  pub to : (q v : ℕ) → q < a.states → v < vs → n.to q v ≡ target a q v
  pub fee : (q v : ℕ) → q < a.states → v < vs → n.fee q v ≡ cost a q v

-- a rule set with its arcs in a net
pub record Frame : Type 0 where
  pub net : Net
  pub states : ℕ
  pub values : ℕ
  pub accepting : ℕ

abbrev pub frame : Net → ℕ → ℕ → ℕ → Frame
frame n q v a = record { net = n; states = q; values = v; accepting = a }

-- a row with one number in its first n places; a row that has fewer stays
unfoldable pub blanked : ℕ → ℕ → List ℕ → List ℕ
blanked n x row = cond (ltb (length row) n) row (replicate n x ++ drop n row)

-- a row with the first n numbers of another; where one of the two has fewer, the row stays
unfoldable pub copied : ℕ → List ℕ → List ℕ → List ℕ
copied n from row = cond (ltb (length from) n || ltb (length row) n) row (take n from ++ drop n row)

-- BACKWARD. The room of a state: one more than the greatest cost already spent at which some roster goes on from there, 0 where none
-- does. The best that some values leave, where `next` has the rooms one place on:
abbrev pub leaves : Net → (ℕ → ℕ) → ℕ → ℕ → ℕ
leaves a next q v = next (a.to q v) - a.fee q v

unfoldable pub best : Net → (ℕ → ℕ) → ℕ → List ℕ → ℕ
best a next q [] = 0
best a next q (v ∷ vs) = max (leaves a next q v) (best a next q vs)

-- The rows hold needs. How far a room lies below the greatest: with no limit in the way, what the rest of a roster costs at the least
abbrev pub need : ℕ → ℕ
need room = suc top - room

-- what a row of needs has for a target byte, which it is long enough to have; the greatest need where it ends
abbrev pub need_at : List ℕ → ℕ → ℕ
need_at needs t = get_or needs t (suc top)

-- the rooms that a row of needs stands for
abbrev pub rooms_by : List ℕ → ℕ → ℕ
rooms_by needs t = suc top - need_at needs t

-- what a state needs by its arc on a value, where `needs` has the needs one place on
abbrev pub asks : Net → List ℕ → ℕ → ℕ → ℕ
asks a needs q v = need_at needs (a.to q v) + a.fee q v

-- values by their numbers, and each of them one that there can be
abbrev pub numbers_of : List Value → List ℕ
numbers_of values = map (λ v. v.0) values

pub record Values (values : List Value) : Type 0 where
  pub few : (k : ℕ) → k < length values → (get_or values k (record { 0 = 0 })).0 < most_values

-- the least of a number and what some values need
abbrev pub least_by : Net → List ℕ → ℕ → List ℕ → ℕ → ℕ
least_by a needs q [] x = x
least_by a needs q (v ∷ vs) x = min (asks a needs q v) (least_by a needs q vs x)

-- numbers of states, none above the top but by one
pub record Low (n : ℕ) (row : List ℕ) : Type 0 where
  pub low : (k : ℕ) → k < n → get_or row k 0 ≤ suc top

-- a row of the least that some values need; where it is the first, nothing is in it yet, and it is not read
pub record Best (a : Net) (next : ℕ → ℕ) (n : ℕ) (first : Bool) (vs row : List ℕ) : Type 0 where
  pub is : (q : ℕ) → q < n → cond first (suc top) (get_or row q 0) ≡ need (best a next q vs)

-- the same with some values more, whatever values were there before
pub record Lessens (a : Net) (next : ℕ → ℕ) (n : ℕ) (first : Bool) (vs row row' : List ℕ) : Type 0 where
  pub goes : (us : List ℕ) → Best a next n first us row → Best a next n false (vs ++ us) row'
  pub left : (q : ℕ) → n ≤ q → get_or row' q 0 ≡ get_or row q 0

-- values that were picked from a mask, the last one first: the width stands for none, and nothing behind it counts
unfoldable pub up_to_none : List ℕ → List ℕ
up_to_none [] = []
up_to_none (v ∷ vs) = cond (ltb v width) (up_to_none vs ++ (v ∷ [])) []

-- a room as the step into it has it, with that step's limit
abbrev pub capped : ℕ → ℕ → ℕ
capped l room = min (suc (min l top)) room

unfoldable pub room : Frame → List Place → ℕ → ℕ
room f [] q = cond (ltb q f.states && bit f.accepting q) (suc top) 0
room f (p ∷ ps) q = cond (ltb q f.states) (best f.net (λ t. capped p.limit (room f ps t)) q (choices f.values p.mask)) 0

-- the limit of the step into layer i; no step leads into layer 0
abbrev pub before : List ℕ → ℕ → ℕ
before ls zero = top
before ls (suc i) = get_or ls i 0

-- layer i of the backward table
unfoldable pub layer : Frame → List ℕ → List ℕ → ℕ → ℕ → ℕ
layer f ms ls i q = capped (before ls i) (room f (drop i (places ms ls)) q)

-- the rows of the work table, from layer i on: the needs of the layers
pub record Layers (f : Frame) (ms ls : List ℕ) (i : ℕ) (work : List ℕ) : Type 0 where
  pub right : (j q : ℕ) → i ≤ j → j ≤ length ms → q < f.states → get_or work (j * most_states + q) 0 ≡ need (layer f ms ls j q)

-- the rows behind layer i up to a last one, none above the top but by one
pub record LowBehind (n i last : ℕ) (work : List ℕ) : Type 0 where
  pub low : (j q : ℕ) → i < j → j ≤ last → q < n → get_or work (j * most_states + q) 0 ≤ suc top

-- row i of a table laid up to n, all else as it was
pub record Laid (g : ℕ → ℕ) (n i : ℕ) (was is : List ℕ) : Type 0 where
  pub row : (q : ℕ) → q < n → get_or is (i * most_states + q) 0 ≡ g q
  pub others : (j q : ℕ) → q < most_states → (j ≡ i → q < n → ⊥) → get_or is (j * most_states + q) 0 ≡ get_or was (j * most_states + q) 0

-- a table that is as it was, save up to n in its first rows
pub record Outside (n rows : ℕ) (was is : List ℕ) : Type 0 where
  pub same : (j q : ℕ) → q < most_states → (j < rows → q < n → ⊥) → get_or is (j * most_states + q) 0 ≡ get_or was (j * most_states + q) 0

-- a row of needs by itself, with a need for every target byte: one more than the top at what is no state
pub record Needed (g : ℕ → ℕ) (n : ℕ) (needs : List ℕ) : Type 0 where
  pub done : (k : ℕ) → k < n → need_at needs k ≡ need (g k)
  pub none : (k : ℕ) → n ≤ k → need_at needs k ≡ suc top

-- the same of what is no state alone
pub record Bare (n : ℕ) (needs : List ℕ) : Type 0 where
  pub none : (k : ℕ) → n ≤ k → need_at needs k ≡ suc top

-- rows of arcs that serve for a net: those out of each state of a rule set that it has the arcs of
pub record Serves (n : Net) (qs vs : ℕ) (arcs : List ℕ) : Type 0 where
  pub of : Arcs
  pub states : of.states ≡ qs
  pub values : of.values ≡ vs
  pub same : Same of vs n
  pub ranked : Ranked (out of) qs [] arcs

-- a row that was found to be f below n
pub record Matches (f : ℕ → ℕ) (n : ℕ) (row : List ℕ) (found : Bool) : Type 0 where
  pub is : found ≡ true → (k : ℕ) → k < n → get_or row k 0 ≡ f k

-- the least need that a layer was cut at, out of the way once the layer has risen: there is no limit, or it has not risen above the least that comes now
pub data Clear (least other rise : ℕ) : Type 0 where
  free : other ≡ 0 → Clear least other rise
  high : other + rise ≤ least → Clear least other rise

-- a layer that is another one with a rise: the same mask, the row behind it with the rise, and no limit in the way
pub record LikeLayer (n rise : ℕ) (ms ls : List ℕ) (i like : ℕ) (needs work : List ℕ) : Type 0 where
  pub few : rise ≤ suc top
  pub mask : get_or ms i 0 ≡ get_or ms like 0
  pub clear : Clear (top - before ls i) (top - before ls like) rise
  pub row : (q : ℕ) → q < n → get_or needs q 0 ≡ min (suc top) (get_or work ((like + 1) * most_states + q) 0 + rise)

-- layer i laid before the layers behind it, whatever states accept
pub record Lays (a : Net) (qs vs : ℕ) (ms ls : List ℕ) (i : ℕ) (needs work needs' work' : List ℕ) : Type 0 where
  pub right : (accepting : ℕ) → Layers (frame a qs vs accepting) ms ls (i + 1) work × Needed (layer (frame a qs vs accepting) ms ls (i + 1)) qs needs
      → Layers (frame a qs vs accepting) ms ls i work' × Needed (layer (frame a qs vs accepting) ms ls i) qs needs'
  pub beside : Outside qs (suc (length ms)) work work'

-- what the passes are lent, in its sizes
pub record Sizes (qs vs : ℕ) (ts cs ms ls work : List ℕ) : Type 0 where
  pub few_states_lem : qs ≤ most_states
  pub few_values : vs ≤ most_values
  pub all_targets : length ts ≡ table_size
  pub all_costs : length cs ≡ table_size
  pub some_places : 1 ≤ length ms
  pub few_places : length ms ≤ most_places
  pub all_limits : length ls ≡ length ms
  pub all_work : length work ≡ work_size (length ms)

-- whether they are so
pub record Fits (qs vs : ℕ) (ts cs ms ls work : List ℕ) (found : Bool) : Type 0 where
  pub right : found ≡ true → Sizes qs vs ts cs ms ls work
  pub wrong : found ≡ false → Sizes qs vs ts cs ms ls work → ⊥

-- what the whole backward pass leaves: the arcs of the rule set turned, their rows by rising cost, if there is a table for them, and the needs
-- of all layers, all else as it was
pub record Prepared (qs vs : ℕ) (ts cs : List ℕ) (accepting : ℕ) (ms ls to fee arcs work to' fee' arcs' work' : List ℕ) : Type 0 where
  pub turns : Same (arcs_of qs vs ts cs) vs (turned to' fee')
  pub ranks : length arcs ≡ table_size → Ranked (out (arcs_of qs vs ts cs)) qs [] arcs'
  pub rooms : Layers (frame (turned to' fee') qs vs accepting) ms ls 0 work'
  pub beside_targets : Outside qs vs to to'
  pub beside_costs : Outside qs vs fee fee'
  pub beside_rooms : Outside qs (suc (length ms)) work work'

-- the same for whatever is lent: nothing is written where a size is wrong
pub record Prepares (qs vs : ℕ) (ts cs : List ℕ) (accepting : ℕ) (ms ls to fee arcs work to' fee' arcs' work' : List ℕ) (found : Bool) : Type 0 where
  pub right : found ≡ true → Sizes qs vs ts cs ms ls work × (length to ≡ table_size) × (length fee ≡ table_size) × Prepared qs vs ts cs accepting ms ls to fee arcs work to' fee' arcs' work'
  pub wrong : found ≡ false → (Sizes qs vs ts cs ms ls work → length to ≡ table_size → length fee ≡ table_size → ⊥) × (to' ≡ to) × (fee' ≡ fee) × (arcs' ≡ arcs) × (work' ≡ work)
