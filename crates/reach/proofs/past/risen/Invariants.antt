use Prim.Native.Nat.{suc, ◌+◌, ◌≤◌, min}
use mathlib.Core.Bool.{true}
use lib.ListN.{get_or}
use Rattle.meaning.specs.Bounds.{top}
use Rattle.rooms.specs.Tables.{Matches}
use Rattle.reach.proofs.past.risen.Given as goal

abbrev pub invariant-loop-k : goal.invariant-loop-k
invariant-loop-k l = (l.k ≤ l.count) × Matches (λ j. min (suc top) (get_or l.from j 0 + l.rise)) l.k l.row true
