-- The code's answers in the words of the definitions, as the contracts of this crate's inner functions have them.
use Rattle.std.specs.Prelude.{◌≡◌, List, ℕ, ◌+◌, ◌≤◌, min, length, drop}
use Rattle.text.specs.Numbers.{digits, past, value}

-- the digits at a place of a line end there
pub record Ended (s : List ℕ) (at end : ℕ) : Type 0 where
  pub low : at ≤ end
  pub high : end ≤ length s
  pub after : past (drop at s) ≡ drop end s

-- a run of digits: its end, and its value, which is exact up to `most`
pub record RunAt (s : List ℕ) (at most end v : ℕ) : Type 0 where
  pub ended : Ended s at end
  pub exact : min v (most + 1) ≡ min (value 0 (digits (drop at s))) (most + 1)
