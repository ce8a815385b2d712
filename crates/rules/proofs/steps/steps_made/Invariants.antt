use Prim.Native.Nat.{◌+◌, ◌<◌}
use mathlib.Core.Path.{◌≡◌}
use lib.ListN.{drop}
use Rattle.rules.specs.Inner.{steps}
use Rattle.rules.proofs.steps.steps_made.Given as goal

abbrev pub invariant-loop-i : goal.invariant-loop-i
invariant-loop-i l = (l.q.0 < 64) × (steps l.arcs.values l.arcs.targets.now l.layers l.initial.q.0 l.roster ≡ l.i + steps l.arcs.values l.arcs.targets.now l.layers l.q.0 (drop l.i l.roster))
