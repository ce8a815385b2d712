-- Decisions in range, and their rows. Assumes nothing.
use mathlib.Core.Path.{◌≡◌, refl}
use mathlib.Core.Bool.{true, false}
use Prim.Native.Nat.{ℕ, ◌^◌, ◌≤◌, ◌<◌}
use lib.Dec.{ltb}
use borrow.Author.Tests.{lt-ltb, le-ltb, ltb-true}
use Rattle.rules.proofs.Checks.{both}
use Rattle.meaning.specs.Meaning.{Keep, Limit}
use Rattle.ledger.specs.Sessions.{decision, is_mark, decision_right}
use Rattle.ledger.specs.Memory.{entry_of, row_right}

pub keep_entry : (p x : ℕ) → (entry_of 1 p x ≡ decision (Keep p x)) × (is_mark (entry_of 1 p x) ≡ 0)
unfolding entry_of is_mark
keep_entry p x = (refl, refl)

pub limit_entry : (p x : ℕ) → (entry_of 2 p x ≡ decision (Limit p x)) × (is_mark (entry_of 2 p x) ≡ 0)
unfolding entry_of is_mark
limit_entry p x = (refl, refl)

module _ (n v p x : ℕ) where
  -- a keep in range, as its row is
  pub keep_there : decision_right n v (Keep p x) ≡ true → p < n
  unfolding decision_right
  keep_there e = ltb-true p n (both (ltb p n) (ltb x (2 ^ v)) e).0

  pub keep_row : decision_right n v (Keep p x) ≡ true → row_right n v 1 p x ≡ true
  unfolding decision_right row_right
  keep_row e = e

  pub limit_far : n ≤ p → decision_right n v (Limit p x) ≡ false
  unfolding decision_right
  limit_far h = le-ltb p n h

  pub limit_right : p < n → decision_right n v (Limit p x) ≡ true
  unfolding decision_right
  limit_right h = lt-ltb p n h

  pub limit_row : p < n → row_right n v 2 p x ≡ true
  unfolding row_right
  limit_row h = lt-ltb p n h
