use mathlib.Core.Path.{refl}
use Rattle.std.proofs.lemmas.Result.{err_from_is_err_and}
use Rattle.rules.proofs.Refusals.{number_some}
use Rattle.machine.proofs.Readies.{ready_refused, checked, ready_shown, ready_done}
use Rattle.machine.proofs.ready.Goals as goal

pub returns-in_err-lent_right : goal.returns-in_err-lent_right
returns-in_err-lent_right c = let p = err_from_is_err_and c.from_residual.result c.from_residual.ensures.1 in
    rw (p.1, p.2) (ready_refused _ _ _ _ _ c.in_err-lent_right.ensures (number_some _))

pub shown_right-requires : goal.shown_right-requires
shown_right-requires c = checked _ c.args.memory.now _ _ _ c.in_ok-lent_right.ensures refl

pub returns-then-not-shown_right : goal.returns-then-not-shown_right
returns-then-not-shown_right c = ready_shown _ c.args.memory.now _ _ _ c.in_ok-lent_right.ensures refl _ _ c.shown_right.ensures c.if-not-shown_right.true

pub returns : goal.returns
returns c = ready_done _ c.args.memory.now _ _ _ c.in_ok-lent_right.ensures refl _ _ c.shown_right.ensures c.if-not-shown_right.false
