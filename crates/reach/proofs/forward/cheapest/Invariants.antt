use Prim.Native.Nat.{◌≤◌}
use mathlib.Core.Path.{◌≡◌}
use Rattle.reach.specs.Looks.{lowest}
use Rattle.reach.proofs.forward.cheapest.Given as goal

abbrev pub invariant-loop-q : goal.invariant-loop-q
invariant-loop-q l = (l.q ≤ l.states) × (l.least ≡ lowest l.front l.q)
