use Prim.Native.Nat.{ℕ, max}
use lib.ListN.{get_or}
use Rattle.rooms.specs.Tables.{Filled}
use Rattle.rooms.proofs.rows.settle.Given as goal

abbrev pub invariant-loop-n : goal.invariant-loop-n
invariant-loop-n l = Filled (λ (k : ℕ). max (get_or l.initial.row k 0) l.least) l.n l.initial.row l.row × Filled (λ (k : ℕ). max (get_or l.initial.row k 0) l.least) l.n l.initial.needs l.needs
