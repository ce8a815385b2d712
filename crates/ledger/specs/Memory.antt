-- A session's memory: what is shown (the result, the least cost, the kept masks), then what is held: the sizes, both counts, spare
-- zeros, the rows of the entries, the oldest first, zeros for the room that is left, the opening masks, the opening limits.
use Rattle.std.specs.Prelude.{◌≡◌, Bool, true, false, cond, ◌&&◌, List, [], ◌∷◌, ◌++◌, ℕ, zero, suc, ◌+◌, ◌-◌, ◌*◌, ◌^◌, ◌≤◌, eqb, ltb, leb, length, get_or, take, drop, replicate}
use Rattle.meaning.specs.Bounds.{most_places, most_values}
use Rattle.meaning.specs.Meaning.{Keep, Limit, Verdict}
use Rattle.meaning.specs.Lists.{all}
use Rattle.rules.specs.Checks.{Handed, masks_right}
use Rattle.ledger.specs.Sessions.{Opening, opening, Entry, decision, mark, marks, decisions, standing, verdict_by}
use Rattle.ledger.specs.Layout.{most_decisions, most_marks, keep_kind, limit_kind, mark_kind, row_size, rows_size, shown_size, spare_size, head_size, opening_place, held_size}

-- THE IMAGE. An entry is a row of three numbers; a mark has no place and no amount
unfoldable pub kind_of : Entry → ℕ
kind_of (decision (Keep p m)) = keep_kind
kind_of (decision (Limit p c)) = limit_kind
kind_of mark = mark_kind

unfoldable pub place_of : Entry → ℕ
place_of (decision (Keep p m)) = p
place_of (decision (Limit p c)) = p
place_of mark = 0

unfoldable pub amount_of : Entry → ℕ
amount_of (decision (Keep p m)) = m
amount_of (decision (Limit p c)) = c
amount_of mark = 0

unfoldable pub rows : List Entry → List ℕ
rows [] = []
rows (e ∷ es) = rows es ++ (kind_of e ∷ place_of e ∷ amount_of e ∷ [])

unfoldable pub held_of : ℕ → ℕ → ℕ → ℕ → Opening → List Entry → List ℕ
held_of n q v start o es =
    n ∷ q ∷ v ∷ start ∷ decisions es ∷ marks es
    ∷ (replicate spare_size 0 ++ (rows es ++ (replicate (rows_size - length es * row_size) 0 ++ (o.masks ++ o.limits))))

unfoldable pub shown_of : Verdict → List ℕ
shown_of t = t.answered ∷ t.cheapest ∷ t.masks

unfoldable pub image_of : Handed → Opening → List Entry → List ℕ
image_of h o es =
    shown_of (verdict_by h o (standing es)) ++ held_of h.places h.rules.arcs.states h.rules.arcs.values h.start o es

-- READING IT. The counts, the rows and the opening, out of what is held
unfoldable pub count_of : List ℕ → ℕ
count_of l = get_or l 4 0 + get_or l 5 0

unfoldable pub rows_of : List ℕ → List ℕ
rows_of l = take rows_size (drop head_size l)

unfoldable pub entry_of : ℕ → ℕ → ℕ → Entry
entry_of k p x = cond (eqb k keep_kind) (decision (Keep p x)) (cond (eqb k limit_kind) (decision (Limit p x)) mark)

unfoldable pub entry_at : List ℕ → ℕ → Entry
entry_at s i = entry_of (get_or s (i * row_size) 0) (get_or s (i * row_size + 1) 0) (get_or s (i * row_size + 2) 0)

-- the first k entries, the newest first
unfoldable pub entries_at : ℕ → List ℕ → List Entry
entries_at zero s = []
entries_at (suc k) s = entry_at s k ∷ entries_at k s

unfoldable pub entries_of : List ℕ → List Entry
entries_of l = entries_at (count_of l) (rows_of l)

unfoldable pub opening_at : ℕ → List ℕ → Opening
opening_at n s = opening (take n s) (drop n s)

unfoldable pub opening_of : ℕ → List ℕ → Opening
opening_of n l = opening_at n (drop opening_place l)

-- what is held, out of memory
abbrev pub held_in : ℕ → List ℕ → List ℕ
held_in n m = drop (shown_size n) m

-- WELL-FORMED. Unused room is all zeros
unfoldable pub all_below : ℕ → List ℕ → Bool
all_below t s = all (λ x. ltb x t) s

abbrev pub all_zero : List ℕ → Bool
all_zero s = all_below 1 s

-- the sizes held are those handed in, both counts are in range
unfoldable pub head_right : ℕ → ℕ → ℕ → ℕ → List ℕ → Bool
head_right n q v start l =
    eqb (get_or l 0 0) n && (eqb (get_or l 1 0) q && (eqb (get_or l 2 0) v && (eqb (get_or l 3 0) start
    && (leb (get_or l 4 0) most_decisions && (leb (get_or l 5 0) most_marks && all_zero (take spare_size (drop 6 l)))))))

-- an entry in range
unfoldable pub row_right : ℕ → ℕ → ℕ → ℕ → ℕ → Bool
row_right n v k p x =
    cond (eqb k keep_kind) (ltb p n && ltb x (2 ^ v)) (cond (eqb k limit_kind) (ltb p n) (eqb k mark_kind && (eqb p 0 && eqb x 0)))

unfoldable pub rows_right : ℕ → ℕ → ℕ → List ℕ → Bool
rows_right n v zero s = true
rows_right n v (suc k) s =
    rows_right n v k s && row_right n v (get_or s (k * row_size) 0) (get_or s (k * row_size + 1) 0) (get_or s (k * row_size + 2) 0)

-- d decisions and m marks in range, and zeros behind them
unfoldable pub room_right : ℕ → ℕ → ℕ → ℕ → List ℕ → Bool
room_right n v d m s =
    rows_right n v (d + m) s && (eqb (marks (entries_at (d + m) s)) m && all_zero (drop ((d + m) * row_size) s))

unfoldable pub held_right : ℕ → ℕ → ℕ → ℕ → List ℕ → Bool
held_right n q v start l =
    head_right n q v start l
    && (room_right n v (get_or l 4 0) (get_or l 5 0) (rows_of l) && masks_right v (take n (drop opening_place l)))

-- what is told of what is held: of the opening with all standing decisions applied
unfoldable pub verdict_held : Handed → List ℕ → Verdict
verdict_held h l = verdict_by h (opening_of h.places l) (standing (entries_of l))

unfoldable pub same : List ℕ → List ℕ → Bool
same [] [] = true
same [] (y ∷ ys) = false
same (x ∷ xs) [] = false
same (x ∷ xs) (y ∷ ys) = eqb x y && same xs ys

unfoldable pub well_formed : Handed → List ℕ → Bool
well_formed h m =
    held_right h.places h.rules.arcs.states h.rules.arcs.values h.start (held_in h.places m)
    && same (take (shown_size h.places) m) (shown_of (verdict_held h (held_in h.places m)))

-- what is held is in range
pub record Held (n q v start : ℕ) (l : List ℕ) : Type 0 where
  pub some_places : 1 ≤ n
  pub few_places : n ≤ most_places
  pub few_values : v ≤ most_values
  pub long : length l ≡ held_size n
  pub right : held_right n q v start l ≡ true
