use mathlib.Core.Path.{◌≡◌}
use Rattle.ledger.specs.Sessions.{marks}
use Rattle.ledger.specs.Memory.{entries_at}
use Rattle.machine.proofs.rows.marks_among.Given as goal

abbrev pub invariant-loop-i : goal.invariant-loop-i
invariant-loop-i l = l.found ≡ marks (entries_at l.i l.rows)
