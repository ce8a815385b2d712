use Prim.Native.Nat.{ℕ, suc, ◌≤◌}
use mathlib.Core.Path.{◌≡◌}
use lib.ListN.{length, get_or}
use Rattle.meaning.specs.Bounds.{top}
use Rattle.rooms.specs.Tables.{Filled, rooms_by}
use Rattle.reach.specs.Looks.{struck}
use Rattle.reach.proofs.forward.advance.Given as goal

abbrev pub invariant-loop-q : goal.invariant-loop-q
invariant-loop-q l = (l.q ≤ l.states) × (length l.front ≡ length l.initial.front) × (length l.onward ≡ length l.initial.onward) × Filled (λ (k : ℕ). struck (get_or l.initial.onward k 0) (rooms_by l.needs k)) l.q l.initial.front l.front × Filled (λ (k : ℕ). suc top) l.q l.initial.onward l.onward
