use native.Mathlib.Omega.{arith}
use mathlib.Core.Path.{refl}
use lib.ListN.{length-append, length-take, length-drop}
use Rattle.std.proofs.lemmas.Result.{err_from_is_err_and}
use Rattle.rules.proofs.Refusals.{number_some}
use Rattle.session.proofs.Calls.{at_marks, call_refused, ready_now, ready_bounds, call_full, mark_adds, push_ready, mark_goes, call_marks}
use Rattle.session.proofs.mark.Goals as goal

pub returns-in_err-ready : goal.returns-in_err-ready
returns-in_err-ready c = let p = err_from_is_err_and c.from_residual.result c.from_residual.ensures.1 in
    rw (p.1, p.2) (call_refused _ _ _ _ _ c.in_err-ready.ensures _ (number_some _))

pub overflow_add-front : goal.overflow_add-front
overflow_add-front c = omega (arith, ready_bounds _ _ _ _ c.in_ok-ready.ensures)

pub overflow_add-front-2 : goal.overflow_add-front-2
overflow_add-front-2 c = omega (arith, ready_bounds _ _ _ _ c.in_ok-ready.ensures)

pub offset_bounds-memory-front : goal.offset_bounds-memory-front
offset_bounds-memory-front c = omega (arith, ready_bounds _ _ _ _ c.in_ok-ready.ensures)

pub bounds-memory-front : goal.bounds-memory-front
bounds-memory-front c = omega (arith, ready_bounds _ _ _ _ c.in_ok-ready.ensures)

pub offset_bounds-memory-front-2 : goal.offset_bounds-memory-front-2
offset_bounds-memory-front-2 c = omega (arith, ready_bounds _ _ _ _ c.in_ok-ready.ensures)

pub slice_bounds-push-count : goal.slice_bounds-push-count
slice_bounds-push-count c = omega (arith, ready_bounds _ _ _ _ c.in_ok-ready.ensures)

pub slice_bounds-push-start : goal.slice_bounds-push-start
slice_bounds-push-start c = omega (arith, ready_bounds _ _ _ _ c.in_ok-ready.ensures)

pub returns-then-memory-front-ge-MOST_MARKS : goal.returns-then-memory-front-ge-MOST_MARKS
returns-then-memory-front-ge-MOST_MARKS c = call_full _ c.args.memory.now _ _ _ c.in_ok-ready.ensures refl (omega (arith, at_marks _ _ _ (ready_now _ _ _ _ c.in_ok-ready.ensures), c.if-memory-front-ge-MOST_MARKS.true))

pub push-requires : goal.push-requires
push-requires c = push_ready _ _ _ (ready_now _ _ _ _ c.in_ok-ready.ensures) _ _ _ (mark_adds _ _ _ (ready_now _ _ _ _ c.in_ok-ready.ensures) c.if-memory-front-ge-MOST_MARKS.false)

pub bounds-memory-0 : goal.bounds-memory-0
bounds-memory-0 c = simp (length-append, length-take, length-drop) (omega (arith, (ready_now _ _ _ _ c.in_ok-ready.ensures).long))

pub returns : goal.returns
returns c = call_marks _ c.args.memory.now _ _ _ c.in_ok-ready.ensures refl (omega (arith, at_marks _ _ _ (ready_now _ _ _ _ c.in_ok-ready.ensures), c.if-memory-front-ge-MOST_MARKS.false)) _ (mark_goes _ c.args.memory.now _ (ready_now _ _ _ _ c.in_ok-ready.ensures) c.if-memory-front-ge-MOST_MARKS.false _ c.push.ensures _ c.on_hand.ensures)
