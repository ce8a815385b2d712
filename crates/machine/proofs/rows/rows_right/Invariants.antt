use mathlib.Core.Path.{◌≡◌}
use mathlib.Core.Bool.{true}
use Rattle.ledger.specs.Memory.{rows_right}
use Rattle.machine.proofs.rows.rows_right.Given as goal

abbrev pub invariant-loop-i : goal.invariant-loop-i
invariant-loop-i l = rows_right l.places l.values l.i l.rows ≡ true
