use mathlib.Core.Path.{◌≡◌}
use lib.ListN.{length, take}
use Rattle.meaning.specs.Bounds.{most_values}
use Rattle.numbering.specs.Numbering.{row_of}
use Rattle.compositor.specs.Inner.{onward_in}
use Rattle.compositor.proofs.states.Automaton.onward_row.Given as goal

abbrev pub invariant-loop-v : goal.invariant-loop-v
invariant-loop-v l = (length l.row ≡ most_values) × (take l.v l.row ≡ row_of (onward_in l.self) l.v l.c)
