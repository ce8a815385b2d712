use mathlib.Core.Path.{◌≡◌}
use lib.ListN.{length, get_or}
use Rattle.reach.specs.Turning.{net_in}
use Rattle.reach.proofs.Walking.{Trying, Walking}
use Rattle.reach.proofs.walk.walk.Given as goal

abbrev pub invariant-loop-needs : goal.invariant-loop-needs
invariant-loop-needs l = Trying (net_in l.arcs) l.needs (get_or l.masks l.i 0) l.q.0 l.cost l.arcs.values l.left.0

abbrev pub decreases-loop-needs : goal.decreases-loop-needs
decreases-loop-needs l = l.left.0

abbrev pub invariant-loop-i : goal.invariant-loop-i
invariant-loop-i l = (length l.needs ≡ 256) × (length l.roster ≡ length l.masks) × Walking (net_in l.arcs) l.arcs.states l.arcs.values l.initial.q.0 l.initial.cost l.masks l.work l.initial.roster l.roster l.needs l.q.0 l.cost l.i
