use Prim.Native.Nat.{◌≤◌}
use Rattle.reach.specs.Turning.{net_in}
use Rattle.reach.proofs.Living.{Looked}
use Rattle.reach.proofs.forward.support.Given as goal

abbrev pub invariant-loop-left : goal.invariant-loop-left
invariant-loop-left l = (l.left ≤ l.live) × Looked (net_in l.arcs) l.front l.needs l.v.0 l.arcs.states l.left

abbrev pub decreases-loop-left : goal.decreases-loop-left
decreases-loop-left l = l.left
