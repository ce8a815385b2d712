use native.Mathlib.Omega.{arith}
use mathlib.Core.Path.{refl}
use Rattle.rules.proofs.Checks.{test_failed, test_passed}
use Rattle.std.proofs.lemmas.Result.{err_from_is_err_and}
use Rattle.rules.proofs.Refusals.{number_some}
use Rattle.session.proofs.Calls.{call_refused, ready_now, ready_bounds, call_far, call_decides}
use Rattle.session.proofs.Ranges.{keep_there, keep_row, keep_entry}
use Rattle.session.proofs.keep.Goals as goal

pub returns-in_err-ready : goal.returns-in_err-ready
returns-in_err-ready c = let p = err_from_is_err_and c.from_residual.result c.from_residual.ensures.1 in
    rw (p.1, p.2) (call_refused _ _ _ _ _ c.in_err-ready.ensures _ (number_some _))

pub overflow_cast-place : goal.overflow_cast-place
overflow_cast-place c = omega (arith, ready_bounds _ _ _ _ c.in_ok-ready.ensures, keep_there _ _ _ _ (test_passed c.keep_right.ensures c.if-not-keep_right.false))

pub returns-then-not-keep_right : goal.returns-then-not-keep_right
returns-then-not-keep_right c = call_far _ c.args.memory.now _ _ _ c.in_ok-ready.ensures refl _ (test_failed c.keep_right.ensures c.if-not-keep_right.true)

pub decide-requires : goal.decide-requires
decide-requires c = (ready_now _ _ _ _ c.in_ok-ready.ensures, keep_row _ _ _ _ (test_passed c.keep_right.ensures c.if-not-keep_right.false), (keep_entry _ _).1)

pub returns : goal.returns
returns c = call_decides _ c.args.memory.now _ _ _ c.in_ok-ready.ensures refl _ _ _ _ (keep_entry _ _).0 (test_passed c.keep_right.ensures c.if-not-keep_right.false) _ c.decide.ensures
