use Prim.Native.Nat.{ℕ}
use Rattle.meaning.specs.Meaning.{arcs_of, target, cost}
use Rattle.rooms.specs.Tables.{Filled}
use Rattle.rooms.proofs.turn.turn_value.Given as goal

abbrev pub invariant-loop-q : goal.invariant-loop-q
invariant-loop-q l = Filled (λ (k : ℕ). target (arcs_of l.states l.values l.targets l.costs) k l.v.0) l.q l.initial.to l.to × Filled (λ (k : ℕ). cost (arcs_of l.states l.values l.targets l.costs) k l.v.0) l.q l.initial.fee l.fee
