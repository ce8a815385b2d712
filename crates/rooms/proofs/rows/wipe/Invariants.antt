use Prim.Native.Nat.{◌+◌, ◌≤◌}
use mathlib.Core.Path.{◌≡◌}
use lib.ListN.{length}
use Rattle.rooms.proofs.Falling.{Wiped}
use Rattle.rooms.proofs.rows.wipe.Given as goal

abbrev pub invariant-loop-at : goal.invariant-loop-at
invariant-loop-at l = (l.back ≤ l.count) × (l.back + l.count ≡ length l.initial.table) × Wiped l.back l.at l.table
