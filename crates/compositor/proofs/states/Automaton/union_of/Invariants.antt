use mathlib.Core.Path.{◌≡◌}
use Rattle.compositor.specs.Inner.{unions_of}
use Rattle.compositor.proofs.states.Automaton.union_of.Given as goal

abbrev pub invariant-loop-i : goal.invariant-loop-i
invariant-loop-i l = l.set ≡ unions_of l.self.follow l.c l.i
