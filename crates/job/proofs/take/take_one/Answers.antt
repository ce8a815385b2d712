use native.Mathlib.Omega.{arith}
use Rattle.job.proofs.Taking.{asked_in, keep_taken, limit_taken}
use Rattle.job.proofs.take.take_one.Goals as goal

pub offset_bounds-masks-place : goal.offset_bounds-masks-place
offset_bounds-masks-place c = omega (arith, asked_in _ _ _ _ c.in-Keep.is c.requires)

pub bounds-masks-place : goal.bounds-masks-place
bounds-masks-place c = asked_in _ _ _ _ c.in-Keep.is c.requires

pub offset_bounds-masks-place-in-Keep : goal.offset_bounds-masks-place-in-Keep
offset_bounds-masks-place-in-Keep c = omega (arith, asked_in _ _ _ _ c.in-Keep.is c.requires)

pub bounds-masks-place-in-Keep : goal.bounds-masks-place-in-Keep
bounds-masks-place-in-Keep c = asked_in _ _ _ _ c.in-Keep.is c.requires

pub offset_bounds-limits-place : goal.offset_bounds-limits-place
offset_bounds-limits-place c = omega (arith, asked_in _ _ _ _ c.in-Limit.is c.requires)

pub bounds-limits-place : goal.bounds-limits-place
bounds-limits-place c = asked_in _ _ _ _ c.in-Limit.is c.requires

pub offset_bounds-limits-place-in-Limit : goal.offset_bounds-limits-place-in-Limit
offset_bounds-limits-place-in-Limit c = omega (arith, asked_in _ _ _ _ c.in-Limit.is c.requires)

pub bounds-limits-place-in-Limit : goal.bounds-limits-place-in-Limit
bounds-limits-place-in-Limit c = asked_in _ _ _ _ c.in-Limit.is c.requires

pub returns-in-Keep : goal.returns-in-Keep
returns-in-Keep c = keep_taken _ _ _ _ _ _ c.in-Keep.is c.meet-met.ensures (omega (arith, c.slice_known-1.given c.in-Keep.place)) (omega arith)

pub returns-in-Limit : goal.returns-in-Limit
returns-in-Limit c = limit_taken _ _ _ _ _ _ c.in-Limit.is (omega arith)
