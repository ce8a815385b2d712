use mathlib.Core.Path.{◌≡◌}
use lib.ListN.{drop}
use Rattle.compositor.specs.Inner.{meets_in, list_size}
use Rattle.compositor.proofs.met.Met.meet_row.Given as goal

abbrev pub invariant-loop-c : goal.invariant-loop-c
invariant-loop-c l = meets_in list_size l.self (drop l.c-index l.row) ≡ meets_in list_size l.initial.self l.row
