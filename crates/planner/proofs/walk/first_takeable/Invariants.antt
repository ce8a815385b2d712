use Prim.Native.Nat.{suc}
use Rattle.rules.specs.Checks.{rules_in}
use Rattle.planner.specs.Inner.{Tried}
use Rattle.planner.proofs.walk.first_takeable.Given as goal

abbrev pub invariant-loop-n : goal.invariant-loop-n
invariant-loop-n l = Tried (rules_in l.rules).arcs l.work l.i l.mask.0 l.drawn.0 l.q.0 l.spent (suc l.left) l.n
