use Prim.Native.Nat.{suc, ◌+◌, min}
use mathlib.Core.Bool.{true}
use lib.ListN.{get_or}
use Rattle.meaning.specs.Bounds.{top}
use Rattle.rooms.specs.Tables.{Matches}
use Rattle.rooms.proofs.rows.risen.Given as goal

abbrev pub invariant-loop-j : goal.invariant-loop-j
invariant-loop-j l = Matches (λ k. min (suc top) (get_or l.from k 0 + l.rise)) l.j l.row true
