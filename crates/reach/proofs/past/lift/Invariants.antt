use Prim.Native.Nat.{ℕ, suc, ◌+◌, ◌≤◌, min}
use mathlib.Core.Path.{◌≡◌}
use lib.ListN.{length, get_or}
use Rattle.meaning.specs.Bounds.{top}
use Rattle.rooms.specs.Tables.{Filled}
use Rattle.reach.proofs.past.lift.Given as goal

abbrev pub invariant-loop-k : goal.invariant-loop-k
invariant-loop-k l = (l.k ≤ l.count) × (length l.row ≡ length l.initial.row) × Filled (λ (j : ℕ). min (suc top) (get_or l.from j 0 + l.rise)) l.k l.initial.row l.row
