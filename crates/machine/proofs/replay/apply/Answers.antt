use native.Mathlib.Omega.{arith}
use Rattle.machine.proofs.Numbered.{numbered}
use Rattle.machine.proofs.Replays.{apply_keep, apply_limit, apply_mark}
use Rattle.machine.proofs.replay.apply.Goals as goal

pub returns-in-Ok-Keep : goal.returns-in-Ok-Keep
returns-in-Ok-Keep c = let k = numbered _ _ _ c.in-Ok-Keep.field-0-is c.in-Ok-Keep.ensures in
    apply_keep _ _ _ _ _ k (omega (arith, c.slice_known-1.given c.args.row.place)) (c.requires.keep_narrow k) _ c.meet.ensures

pub returns-in-Ok-Limit : goal.returns-in-Ok-Limit
returns-in-Ok-Limit c = let k = numbered _ _ _ c.in-Ok-Limit.field-0-is c.in-Ok-Limit.ensures in
    apply_limit _ _ _ _ _ (λ e. omega arith) k _ (omega arith)

pub returns-in-Ok-Mark : goal.returns-in-Ok-Mark
returns-in-Ok-Mark c = let k = numbered _ _ _ c.in-Ok-Mark.field-0-is c.in-Ok-Mark.ensures in
    apply_mark _ _ _ _ _ (λ e. omega arith) (λ e. omega arith)

pub returns-in-Err : goal.returns-in-Err
returns-in-Err c = apply_mark _ _ _ _ _ c.in-Err.ensures.0 c.in-Err.ensures.1
