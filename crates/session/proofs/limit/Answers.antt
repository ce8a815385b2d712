use native.Mathlib.Omega.{arith}
use mathlib.Core.Path.{refl}
use Rattle.std.proofs.lemmas.Result.{err_from_is_err_and}
use Rattle.rules.proofs.Refusals.{number_some}
use Rattle.session.proofs.Calls.{call_refused, ready_now, ready_bounds, call_far, call_decides}
use Rattle.session.proofs.Ranges.{limit_far, limit_right, limit_row, limit_entry}
use Rattle.session.proofs.limit.Goals as goal

pub returns-in_err-ready : goal.returns-in_err-ready
returns-in_err-ready c = let p = err_from_is_err_and c.from_residual.result c.from_residual.ensures.1 in
    rw (p.1, p.2) (call_refused _ _ _ _ _ c.in_err-ready.ensures _ (number_some _))

pub overflow_cast-place : goal.overflow_cast-place
overflow_cast-place c = omega (arith, ready_bounds _ _ _ _ c.in_ok-ready.ensures)

pub returns-then-places-place : goal.returns-then-places-place
returns-then-places-place c = call_far _ c.args.memory.now _ _ _ c.in_ok-ready.ensures refl _ (limit_far _ _ _ _ c.if-places-place.true)

pub decide-requires : goal.decide-requires
decide-requires c = ((ready_now _ _ _ _ c.in_ok-ready.ensures), limit_row _ _ _ _ c.if-places-place.false, (limit_entry _ _).1)

pub returns : goal.returns
returns c = call_decides _ c.args.memory.now _ _ _ c.in_ok-ready.ensures refl _ _ _ _ (limit_entry _ _).0 (limit_right _ _ _ _ c.if-places-place.false) _ c.decide.ensures
