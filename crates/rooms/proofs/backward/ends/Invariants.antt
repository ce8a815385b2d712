use Prim.Native.Nat.{ℕ, suc}
use mathlib.Core.Bool.{cond}
use Rattle.kinds.specs.Bits.{bit}
use Rattle.meaning.specs.Bounds.{top}
use Rattle.rooms.specs.Tables.{Filled}
use Rattle.rooms.proofs.backward.ends.Given as goal

abbrev pub invariant-loop-q : goal.invariant-loop-q
invariant-loop-q l = Filled (λ (k : ℕ). cond (bit l.accepting k) 0 (suc top)) l.q l.initial.row l.row
