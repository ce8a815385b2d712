use native.Mathlib.Omega.{arith}
use Rattle.ledger.proofs.Entries.{mark_1, mark_2, mark_3}
use Rattle.machine.proofs.Numbered.{numbered}
use Rattle.machine.proofs.rows.is_mark.Goals as goal

pub returns-in-Ok-Keep : goal.returns-in-Ok-Keep
returns-in-Ok-Keep c = λ p x. mark_1 _ p x (numbered _ _ _ c.in-Ok-Keep.field-0-is c.in-Ok-Keep.ensures)

pub returns-in-Ok-Limit : goal.returns-in-Ok-Limit
returns-in-Ok-Limit c = let n = numbered _ _ _ c.in-Ok-Limit.field-0-is c.in-Ok-Limit.ensures in λ p x. mark_2 _ p x (λ e. omega arith) n

pub returns-in-Ok-Mark : goal.returns-in-Ok-Mark
returns-in-Ok-Mark c = let n = numbered _ _ _ c.in-Ok-Mark.field-0-is c.in-Ok-Mark.ensures in λ p x. mark_3 _ p x (λ e. omega arith) (λ e. omega arith)

pub returns-in-Err : goal.returns-in-Err
returns-in-Err c = λ p x. mark_3 _ p x c.in-Err.ensures.0 c.in-Err.ensures.1
