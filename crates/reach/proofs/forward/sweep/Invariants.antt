use mathlib.Core.Path.{◌≡◌}
use lib.ListN.{length}
use Rattle.reach.specs.Turning.{net_in}
use Rattle.rooms.proofs.Choosing.{Through}
use Rattle.reach.specs.Looks.{Swept}
use Rattle.reach.proofs.forward.sweep.Given as goal

abbrev pub invariant-loop-unswept : goal.invariant-loop-unswept
invariant-loop-unswept l = (length l.onward ≡ length l.initial.onward) × Through (λ us. Swept (net_in l.arcs) l.arcs.states us l.front l.initial.onward l.onward) l.initial.unswept.0 l.unswept.0

abbrev pub decreases-loop-unswept : goal.decreases-loop-unswept
decreases-loop-unswept l = l.unswept.0
