use native.Mathlib.Omega.{arith}
use Rattle.rules.proofs.Checks.{test_failed, test_passed}
use Rattle.ledger.proofs.Entries.{rows_none, rows_more, rows_no}
use Rattle.machine.proofs.rows.rows_right.Goals as goal

pub loop-i-init : goal.loop-i-init
loop-i-init c = rows_none _ _ _

pub returns-then-not-right : goal.returns-then-not-right
returns-then-not-right c = rows_no _ _ _ _ c.loop-i.i (omega arith) (rw (c.at.ensures.kind, c.at.ensures.place, c.at.ensures.amount) at (test_failed c.right.ensures c.if-not-right.true))

pub loop-i-preserved : goal.loop-i-preserved
loop-i-preserved c = rows_more _ _ _ _ c.loop-i.invariant (rw (c.at.ensures.kind, c.at.ensures.place, c.at.ensures.amount) at (test_passed c.right.ensures c.if-not-right.false))
