use mathlib.Core.Path.{◌≡◌}
use lib.ListN.{take}
use Rattle.numbering.specs.Numbering.{met}
use Rattle.compositor.specs.Inner.{onward_in, list_size}
use Rattle.compositor.proofs.states.Automaton.explore.Given as goal

abbrev pub invariant-loop-at : goal.invariant-loop-at
invariant-loop-at l = l.met ≡ take list_size (met (onward_in l.self) l.values 0 l.at)
