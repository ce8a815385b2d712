use Prim.Native.Nat.{◌≤◌, ◌*◌, ◌%◌, ◌^◌}
use mathlib.Core.Path.{◌≡◌}
use Rattle.reach.specs.Looks.{live_of}
use Rattle.reach.proofs.forward.living.Given as goal

abbrev pub invariant-loop-q : goal.invariant-loop-q
invariant-loop-q l = (l.q ≤ l.states) × (l.live ≡ live_of l.q l.front) × (l.bit ≡ 1 * 2 ^ l.q % 2 ^ 64)
