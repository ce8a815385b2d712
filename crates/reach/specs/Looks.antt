-- The forward pass and the walk, as functions. Inner: no entry point's contract cites this file; proofs/ shows what they mean.
use Rattle.std.specs.Prelude.{Bool, true, false, cond, ◌&&◌, List, [], ◌∷◌, map, ◌≡◌, ℕ, zero, suc, ◌+◌, ◌*◌, ◌^◌, ◌≤◌, ◌<◌, min, ltb, eqb, length, get_or, take, Option, Some, None, IfSome}
use Rattle.kinds.specs.Bits.{width, bit, mask_of}
use Rattle.meaning.specs.Meaning.{Arcs, arcs_of, rules_of, cost, places, rosters, Verdict, verdict, verdict_of}
use Rattle.meaning.specs.Lists.{each, any}
use Rattle.meaning.specs.Bounds.{most_states, table_size, top}
use Rattle.ranks.specs.Rows.{no_arc, cost_in, out, Ranked}
use Rattle.rooms.specs.Tables.{down, choices, Net, Same, frame, Filled, rooms_by, room, Layers}

-- FORWARD. A look at a value from a state; `front` has the least cost at each state, one more than the top where there is none.
pub record Look : Type 0 where
  pub state : ℕ
  pub value : ℕ

abbrev pub look : ℕ → ℕ → Look
look q v = record { state = q; value = v }

abbrev pub along : ℕ → ℕ → List Look
along qs v = map (λ q. look q v) (down qs)

abbrev pub looks : ℕ → List ℕ → List Look
looks qs vs = each (along qs) vs

abbrev pub spends : Net → (ℕ → ℕ) → Look → ℕ
spends a front x = front x.state + a.fee x.state x.value

abbrev pub leads : Net → Look → ℕ
leads a x = a.to x.state x.value

-- the value can be taken, and a roster goes on from there
abbrev pub lands : Net → (ℕ → ℕ) → (ℕ → ℕ) → Look → Bool
lands a next front x = ltb (spends a front x) (next (leads a x))

-- the least cost at which a look leads to state t, `most` if none does for less
unfoldable pub reach : Net → (ℕ → ℕ) → ℕ → ℕ → List Look → ℕ
reach a front most t [] = most
reach a front most t (x ∷ xs) =
    cond (eqb (leads a x) t) (min (spends a front x) (reach a front most t xs)) (reach a front most t xs)

-- some look takes value v and lands
unfoldable pub marks : Net → (ℕ → ℕ) → (ℕ → ℕ) → ℕ → List Look → Bool
marks a next front v xs = any (λ x. lands a next front x && eqb v x.value) xs

-- the same along one row of the turned tables, for the states below q
unfoldable pub arrive : List ℕ → List ℕ → List ℕ → ℕ → ℕ → ℕ → ℕ
arrive ts cs front most t zero = most
arrive ts cs front most t (suc q) =
    cond (eqb (get_or ts q 0) t) (min (get_or front q 0 + get_or cs q 0) (arrive ts cs front most t q)) (arrive ts cs front most t q)

-- the arc of state q on value v, with a cost spent, leaves a way to the end
abbrev pub leads_on : Net → List ℕ → ℕ → ℕ → ℕ → Bool
leads_on a needs q spent v = ltb (spent + a.fee q v) (rooms_by needs (a.to q v))

-- that of some state below qs does
unfoldable pub joins : Net → List ℕ → List ℕ → ℕ → ℕ → Bool
joins a front needs v qs = any (λ q. leads_on a needs q (get_or front q 0) v) (down qs)

-- a cost, struck where it leaves no room
abbrev pub struck : ℕ → ℕ → ℕ
struck cost room = cond (ltb cost room) cost (suc top)

-- the least cost of the states below q
unfoldable pub lowest : List ℕ → ℕ → ℕ
lowest row zero = suc top
lowest row (suc q) = min (get_or row q 0) (lowest row q)

-- the live states of a front as bits: those below n that it has a cost at
unfoldable pub live_of : ℕ → List ℕ → ℕ
live_of n front = mask_of (λ q. ltb (get_or front q 0) (suc top)) n

-- the live states, if they are worked out yet
abbrev pub LiveHeld : ℕ → List ℕ → Option ℕ → Type 0
LiveHeld n front held = IfSome held (λ live. live ≡ live_of n front)

-- rows of the work table that hold needs
pub record LowRows (n rows : ℕ) (work : List ℕ) : Type 0 where
  pub low : (j k : ℕ) → j ≤ rows → k < n → get_or work (j * most_states + k) 0 ≤ suc top

-- the front before the first place: the start alone, if its room has the cost already spent
pub record Opened (n start spent room : ℕ) (front : List ℕ) : Type 0 where
  pub right : (q : ℕ) → q < n → get_or front q 0 ≡ cond (eqb q start) (struck spent room) (suc top)

-- a row of least costs after the looks along one row of the turned tables
pub record Pushed (ts cs front : List ℕ) (n : ℕ) (was is : List ℕ) : Type 0 where
  pub right : (t : ℕ) → get_or is t 0 ≡ arrive ts cs front (get_or was t 0) t n

-- the looks at the values of a mask: the least costs
pub record Swept (a : Net) (qs : ℕ) (vs : List ℕ) (front was is : List ℕ) : Type 0 where
  pub costs : (t : ℕ) → get_or is t 0 ≡ reach a (λ q. get_or front q 0) (get_or was t 0) t (looks qs vs)

-- and the values that are kept
pub record Keeps (a : Net) (qs : ℕ) (vs : List ℕ) (front needs : List ℕ) (kept : ℕ) : Type 0 where
  pub values : (v : ℕ) → v < width → bit kept v ≡ marks a (rooms_by needs) (λ q. get_or front q 0) v (looks qs vs)
  pub small : kept < 2 ^ width

-- the least costs of all looks from a front
pub record Spread (a : Net) (qs : ℕ) (vs : List ℕ) (front is : List ℕ) : Type 0 where
  pub right : (t : ℕ) → t < qs → get_or is t 0 ≡ reach a (λ q. get_or front q 0) (suc top) t (looks qs vs)

-- a row that holds no cost
pub record Blank (n : ℕ) (row : List ℕ) : Type 0 where
  pub none : (t : ℕ) → t < n → get_or row t 0 ≡ suc top

-- rows of arcs that serve for a net: those into each state of a rule set that it has the arcs of, save some that cost no less than `rests` says
pub record Arrives (n : Net) (qs vs : ℕ) (rests arcs : List ℕ) : Type 0 where
  pub of : Arcs
  pub states : of.states ≡ qs
  pub values : of.values ≡ vs
  pub same : Same of vs n
  pub ranked : Ranked (λ t c s. out of s c t) qs rests arcs
  pub few : (t : ℕ) → t < qs → get_or rests t 0 ≤ cost_in no_arc

-- a table for such rows that holds no arc yet, if it has its size
pub record Vacant (arcs : List ℕ) : Type 0 where
  pub none : length arcs ≡ table_size → (k : ℕ) → k < table_size → get_or arcs k 0 ≡ no_arc

-- the least costs by such rows, if they are there and settle them; else the row holds no cost
pub record Pulled (qs vs m : ℕ) (front rests into is : List ℕ) (found : Bool) : Type 0 where
  pub long : found ≡ true → length into ≡ table_size
  pub right : found ≡ true → (n : Net) → Arrives n qs vs rests into → Spread n qs (choices vs m) front is
  pub none : found ≡ false → Blank qs is

-- THE PAST. The fronts in eight slots; a slot that holds mask 0 is empty:
pub record Lows (n : ℕ) (fronts held : List ℕ) : Type 0 where
  pub low : (s k : ℕ) → s < 8 → 0 < get_or held s 0 → k < n → get_or fronts (s * most_states + k) 0 ≤ suc top

-- a slot that has a mask, and a front but for a rise
pub record Known (n mask slot rise : ℕ) (front fronts held : List ℕ) : Type 0 where
  pub low : rise ≤ suc top
  pub some : 0 < get_or held slot 0
  pub same : get_or held slot 0 ≡ mask
  pub row : (k : ℕ) → k < n → get_or front k 0 ≡ min (suc top) (get_or fronts (slot * most_states + k) 0 + rise)

-- the slots that are not empty have a front, a mask and the least costs of its looks
pub record Past (a : Net) (qs vs : ℕ) (fronts onwards held : List ℕ) : Type 0 where
  pub lows : Lows qs fronts held
  pub right : (s t : ℕ) → s < 8 → 0 < get_or held s 0 → t < qs
      → get_or onwards (s * most_states + t) 0 ≡ reach a (λ q. get_or fronts (s * most_states + q) 0) (suc top) t (looks qs (choices vs (get_or held s 0)))

-- one place of the forward pass
pub record Stepped (a : Net) (qs : ℕ) (vs row front needs onward front' needs' onward' : List ℕ) (kept : ℕ) : Type 0 where
  pub loaded : Filled (λ k. get_or row k 0) qs needs needs'
  pub costs : (t : ℕ) → t < qs → get_or front' t 0 ≡ struck (reach a (λ q. get_or front q 0) (get_or onward t 0) t (looks qs vs)) (rooms_by needs' t)
  pub values : (v : ℕ) → v < width → bit kept v ≡ marks a (rooms_by needs') (λ q. get_or front q 0) v (looks qs vs)
  pub small : kept < 2 ^ width
  pub blank : (t : ℕ) → t < qs → get_or onward' t 0 ≡ suc top

-- tables and limits of which a net and a work table are the image
pub record Meant (a : Net) (qs vs : ℕ) (ms work t c ls : List ℕ) (accepting : ℕ) : Type 0 where
  pub limits : length ls ≡ length ms
  pub arcs : Same (arcs_of qs vs t c) vs a
  pub rooms : Layers (frame a qs vs accepting) ms ls 0 work

-- the verdict that kept masks and a least cost make, or that masks make where no roster is allowed
abbrev pub verdict_by : List ℕ → Option ℕ → Verdict
verdict_by out (Some least) = verdict 0 out least
verdict_by out None = verdict 11 out 0

-- the masks and the least cost, if a roster is allowed, that the forward pass gives, as the list of rosters tells them
pub record Tells (a : Net) (qs vs start spent : ℕ) (ms work out : List ℕ) (least : Option ℕ) : Type 0 where
  pub most : IfSome least (λ x. x ≤ top)
  pub right : (t c ls : List ℕ) (accepting : ℕ) → Meant a qs vs ms work t c ls accepting
      → verdict_by out least ≡ verdict_of (rules_of qs vs t c accepting) start spent (places ms ls)

-- FIRST ROSTER. Whether a value can be taken at a state, with a cost spent.
abbrev pub takeable : Net → List ℕ → ℕ → ℕ → ℕ → ℕ → Bool
takeable a needs m q spent v = bit m v && leads_on a needs q spent v

-- what a walk along the smallest values finds: the first roster; or there is none, and nothing was written
pub record Walks (a : Net) (qs vs start spent : ℕ) (ms work was is : List ℕ) (found : Bool) : Type 0 where
  pub some : found ≡ true → (t c ls : List ℕ) (accepting : ℕ) → Meant a qs vs ms work t c ls accepting
      → take 1 (rosters (rules_of qs vs t c accepting) start spent (places ms ls)) ≡ is ∷ []
  pub none : found ≡ false → (t c ls : List ℕ) (accepting : ℕ) → Meant a qs vs ms work t c ls accepting
      → rosters (rules_of qs vs t c accepting) start spent (places ms ls) ≡ []
  pub unwritten : found ≡ false → (t c ls : List ℕ) (accepting : ℕ) → Meant a qs vs ms work t c ls accepting → is ≡ was
