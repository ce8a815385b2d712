use mathlib.Core.Path.{◌≡◌}
use Rattle.session.specs.Inner.{mark_at}
use Rattle.session.proofs.entries.mark_at.Given as goal

abbrev pub invariant-loop-i : goal.invariant-loop-i
invariant-loop-i l = mark_at l.count l.rows ≡ mark_at l.i l.rows
