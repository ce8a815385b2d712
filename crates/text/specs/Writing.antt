-- A text put into a buffer from a place on.
use Rattle.std.specs.Prelude.{◌≡◌, List, ℕ, ◌+◌, min, length}
use Rattle.std.proofs.lemmas.List.Edits.{sets}

-- the last place that can be counted
abbrev pub most_place : ℕ
most_place = 18446744073709551615

-- the buffer then has the text from the place `at` on, as far as it has room; the next place is the one after the text
pub record Wrote (before : List ℕ) (at : ℕ) (text after : List ℕ) (next : ℕ) : Type 0 where
  pub bytes : after ≡ sets before at text
  pub ends : next ≡ min (at + length text) most_place
