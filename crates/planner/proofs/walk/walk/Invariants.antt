use mathlib.Core.Path.{◌≡◌}
use lib.ListN.{length}
use Rattle.rules.specs.Checks.{rules_in}
use Rattle.planner.proofs.Walking.{Walking}
use Rattle.planner.proofs.walk.walk.Given as goal

abbrev pub invariant-loop-i : goal.invariant-loop-i
invariant-loop-i l = (length l.roster ≡ length l.masks) × Walking (rules_in l.rules).arcs l.initial.q.0 l.initial.cost l.masks l.drawn l.work l.initial.left l.roster l.q.0 l.cost l.left l.i
