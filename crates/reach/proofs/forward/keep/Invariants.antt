use mathlib.Core.Path.{◌≡◌}
use lib.ListN.{length}
use Rattle.reach.specs.Turning.{net_in}
use Rattle.rooms.proofs.Choosing.{Through}
use Rattle.reach.specs.Looks.{LiveHeld, Keeps}
use Rattle.reach.proofs.forward.keep.Given as goal

abbrev pub invariant-loop-unseen : goal.invariant-loop-unseen
invariant-loop-unseen l = (length l.hints ≡ length l.initial.hints) × Through (λ us. Keeps (net_in l.arcs) l.arcs.states us l.front l.needs l.kept.0) l.initial.unseen.0 l.unseen.0 × LiveHeld l.arcs.states l.front l.live

abbrev pub decreases-loop-unseen : goal.decreases-loop-unseen
decreases-loop-unseen l = l.unseen.0
