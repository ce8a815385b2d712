-- What only the contracts of inner functions cite.
use Rattle.std.specs.Prelude.{◌≡◌, Bool, true, List, ℕ, ◌+◌, ◌*◌, ◌≤◌, ◌<◌, length, get_or, take, drop}
use Rattle.rules.specs.Checks.{Handed}
use Rattle.rules.specs.Answers.{zeros, work_after, decided}
use Rattle.ledger.specs.Readiness.{Ready, readiness, renew_checks, Lent}
use Rattle.ledger.specs.Layout.{keep_kind, limit_kind, row_size, rows_size, head_size, opening_place, held_size, shown_size, most_entries}
use Rattle.ledger.specs.Memory.{all_below, held_in, same, shown_of, verdict_held, Held}

-- what the replay asks of a row: its place is there, and a mask is one
pub record RowSafe (k p x masks limits : ℕ) : Type 0 where
  pub keep_there : k ≡ keep_kind → p < masks
  pub keep_narrow : k ≡ keep_kind → x < 65536
  pub limit_there : k ≡ limit_kind → p < limits

pub record RowsSafe (k : ℕ) (s : List ℕ) (masks limits : ℕ) : Type 0 where
  pub at : (i : ℕ) → i < k → RowSafe (get_or s (i * row_size) 0) (get_or s (i * row_size + 1) 0) (get_or s (i * row_size + 2) 0) masks limits

-- what the replay asks of what is held
pub record Replayable (n : ℕ) (l : List ℕ) : Type 0 where
  pub long : length l ≡ held_size n
  pub narrow : all_below 65536 (take n (drop opening_place l)) ≡ true
  pub few_entries : get_or l 4 0 + get_or l 5 0 ≤ most_entries
  pub rows : RowsSafe (get_or l 4 0 + get_or l 5 0) (take rows_size (drop head_size l)) n n

-- what a filter of what is held asks: a rule set and a work table that pass the checks, and all that is held in range
pub record Filterable (h : Handed) (memory work : List ℕ) : Type 0 where
  pub lent : Lent h work
  pub held : Held h.places h.rules.arcs.states h.rules.arcs.values h.start (held_in h.places memory)

-- whether what is shown is what is told of what is held, and the work table after that
pub record Compared (h : Handed) (memory work : List ℕ) (r : Bool) (after : List ℕ) : Type 0 where
  pub verdict : r ≡ same (take (shown_size h.places) memory) (shown_of (verdict_held h (held_in h.places memory)))
  pub work_after_lem : after ≡ zeros work

-- the checks 1, 2 and 3, and 12 of what is held, by themselves
unfoldable pub lent_of : Handed → List ℕ → List ℕ → Ready
lent_of h m w = decided (renew_checks h m w) (λ n. readiness n (work_after n w)) (readiness 0 w)
