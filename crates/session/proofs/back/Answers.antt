use native.Mathlib.Omega.{arith}
use mathlib.Core.Path.{refl}
use Rattle.std.proofs.lemmas.Result.{err_from_is_err_and}
use Rattle.rules.proofs.Refusals.{number_some}
use Rattle.session.proofs.Calls.{call_refused, ready_now, ready_bounds, back_ready, back_none, call_none, undo_ready, back_some, back_renews, call_backs}
use Rattle.session.proofs.Backs.{none_of}
use Rattle.session.proofs.back.Goals as goal

pub returns-in_err-ready : goal.returns-in_err-ready
returns-in_err-ready c = let p = err_from_is_err_and c.from_residual.result c.from_residual.ensures.1 in
    rw (p.1, p.2) (call_refused _ _ _ _ _ c.in_err-ready.ensures _ (number_some _))

pub overflow_add-front : goal.overflow_add-front
overflow_add-front c = omega (arith, ready_bounds _ _ _ _ c.in_ok-ready.ensures)

pub offset_bounds-memory-front : goal.offset_bounds-memory-front
offset_bounds-memory-front c = omega (arith, ready_bounds _ _ _ _ c.in_ok-ready.ensures)

pub slice_bounds-newest_mark-count : goal.slice_bounds-newest_mark-count
slice_bounds-newest_mark-count c = omega (arith, ready_bounds _ _ _ _ c.in_ok-ready.ensures)

pub slice_bounds-newest_mark-start : goal.slice_bounds-newest_mark-start
slice_bounds-newest_mark-start c = omega (arith, ready_bounds _ _ _ _ c.in_ok-ready.ensures)

pub offset_bounds-memory-front-2 : goal.offset_bounds-memory-front-2
offset_bounds-memory-front-2 c = omega (arith, ready_bounds _ _ _ _ c.in_ok-ready.ensures)

pub slice_bounds-undo-count : goal.slice_bounds-undo-count
slice_bounds-undo-count c = omega (arith, ready_bounds _ _ _ _ c.in_ok-ready.ensures)

pub slice_bounds-undo-start : goal.slice_bounds-undo-start
slice_bounds-undo-start c = omega (arith, ready_bounds _ _ _ _ c.in_ok-ready.ensures)

pub newest_mark-requires : goal.newest_mark-requires
newest_mark-requires c = back_ready _ _ _ (ready_now _ _ _ _ c.in_ok-ready.ensures)

pub returns-in_default : goal.returns-in_default
returns-in_default c = call_none _ c.args.memory.now _ _ _ c.in_ok-ready.ensures refl (back_none _ _ _ (ready_now _ _ _ _ c.in_ok-ready.ensures) _ c.newest_mark.ensures (none_of _ c.in_default.not-Some))

pub undo-requires : goal.undo-requires
undo-requires c = undo_ready _ _ _ (ready_now _ _ _ _ c.in_ok-ready.ensures) _ c.newest_mark.ensures _ c.in-Some.is

pub returns : goal.returns
returns c = call_backs _ c.args.memory.now _ _ _ c.in_ok-ready.ensures refl (back_some _ _ _ (ready_now _ _ _ _ c.in_ok-ready.ensures) _ c.newest_mark.ensures _ c.in-Some.is) _ (back_renews _ c.args.memory.now _ (ready_now _ _ _ _ c.in_ok-ready.ensures) _ c.newest_mark.ensures _ c.in-Some.is _ c.undo.ensures _ c.renew.ensures)
