use Prim.Native.Nat.{◌≤◌}
use mathlib.Core.Path.{◌≡◌}
use lib.ListN.{length}
use Rattle.reach.specs.Looks.{Pushed}
use Rattle.reach.proofs.forward.push.Given as goal

abbrev pub invariant-loop-q : goal.invariant-loop-q
invariant-loop-q l = (l.q ≤ l.states) × (length l.onward ≡ length l.initial.onward) × Pushed l.targets l.costs l.front l.q l.initial.onward l.onward
