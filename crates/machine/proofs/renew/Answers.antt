use mathlib.Core.Path.{refl}
use Rattle.std.proofs.lemmas.Result.{err_from_is_err_and}
use Rattle.rules.proofs.Refusals.{number_some}
use Rattle.machine.proofs.Readies.{renew_refused, checked, renew_done}
use Rattle.machine.proofs.renew.Goals as goal

pub returns-in_err-lent_right : goal.returns-in_err-lent_right
returns-in_err-lent_right c = let p = err_from_is_err_and c.from_residual.result c.from_residual.ensures.1 in
    rw (p.1, p.2) (renew_refused _ _ _ _ _ c.in_err-lent_right.ensures (number_some _))

pub show_held-requires : goal.show_held-requires
show_held-requires c = checked _ c.args.memory.now _ _ _ c.in_ok-lent_right.ensures refl

pub returns : goal.returns
returns c = renew_done _ c.args.memory.now _ _ _ c.in_ok-lent_right.ensures refl _ c.show_held.ensures
