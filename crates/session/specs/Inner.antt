-- What only the contracts of inner functions cite.
use Rattle.std.specs.Prelude.{◌≡◌, true, cond, Option, None, Some, List, [], ◌∷◌, ◌++◌, ℕ, zero, suc, ◌+◌, ◌-◌, ◌*◌, ◌≤◌, eqb, ltb, length, get_or, take, drop, set, replicate}
use Rattle.rules.specs.Checks.{Handed}
use Rattle.rules.specs.Answers.{check, decided, work_after, zeros}
use Rattle.ledger.specs.Sessions.{Entry, is_mark, decisions}
use Rattle.ledger.specs.Readiness.{Left, left, Lent}
use Rattle.ledger.specs.Calls.{became}
use Rattle.ledger.specs.Layout.{most_decisions, most_marks, row_size, head_size, opening_place, memory_size}
use Rattle.ledger.specs.Memory.{count_of, entry_of, entry_at, entries_of, opening_of, held_in, well_formed}

-- both counts leave room, and what is held is long enough
pub record Counted (l : List ℕ) : Type 0 where
  pub few : get_or l 4 0 ≤ most_decisions
  pub open_few : get_or l 5 0 ≤ most_marks
  pub long : opening_place ≤ length l

-- the stores of one more entry
unfoldable pub pushed : ℕ → ℕ → ℕ → List ℕ → List ℕ
pushed k p x l =
    let i = head_size + count_of l * row_size in
    set (set (set (set (set l i k) (i + 1) p) (i + 2) x) 4 (get_or l 4 0 + (1 - is_mark (entry_of k p x)))) 5 (get_or l 5 0 + is_mark (entry_of k p x))

-- the newest mark among the first k entries
unfoldable pub mark_at : ℕ → List ℕ → Option ℕ
mark_at zero s = None
mark_at (suc k) s = cond (eqb (is_mark (entry_at s k)) 1) (Some k) (mark_at k s)

-- only the first i entries stay, and the newest mark goes
unfoldable pub undone_at : ℕ → List ℕ → List ℕ
undone_at i l =
    set (set (take (head_size + i * row_size) l ++ (replicate ((count_of l - i) * row_size) 0 ++ drop (head_size + count_of l * row_size) l)) 4 (i - (get_or l 5 0 - 1))) 5 (get_or l 5 0 - 1)

-- memory and a work table that are ready for a call, the work table cleared
pub record Formed (h : Handed) (m w : List ℕ) : Type 0 where
  pub lent : Lent h w
  pub long : length m ≡ memory_size h.places
  pub formed : well_formed h m ≡ true
  pub cleared : w ≡ zeros w

-- one more entry, unless the decisions are full
unfoldable pub decided_on : Handed → Entry → List ℕ → List ℕ → Left
decided_on h e m w =
    let l = held_in h.places m in
    decided (check 8 (ltb (decisions (entries_of l)) most_decisions) ∷ []) (λ n. left n m (work_after n w)) (became h (opening_of h.places l) (e ∷ entries_of l) w)
