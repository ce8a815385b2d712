use mathlib.Core.Path.{◌∙◌}
use native.Mathlib.Omega.{arith}
use Rattle.std.proofs.lemmas.Result.{err_from_is_err_and}
use Rattle.rules.proofs.Checks.{is_done}
use Rattle.rules.proofs.Refusals.{number_some}
use Rattle.filter.specs.Filter.{filter_of}
use Rattle.filter.proofs.Answering.{refused_pass, others_decide_pass, ready, start_state, out_long, filter_done_lem}
use Rattle.filter.proofs.filter.Goals as goal

pub returns-in_err-checked : goal.returns-in_err-checked
unfolding filter_of
returns-in_err-checked c = let p = err_from_is_err_and c.from_residual.result c.from_residual.ensures.1 in
    let e = c.in_err-checked.ensures in
    rw (p.1, p.2, e.1) (refused_pass _ _ _ _ _ _ _ _ _ e.0 (number_some _))

pub returns : goal.returns
unfolding filter_of
returns c = let e = c.in_ok-checked.ensures in
    let f = (rw e.1 at c.filter_from-least.ensures).right (ready _ _ _ _ _ e.0) (start_state _ _ _ _ _ e.0) (omega arith) (out_long _ _ _ _ _ e.0) in
    others_decide_pass _ _ _ _ _ e.0 _ _ _ (rw c.ok_or.ensures.value (filter_done_lem _ f) ∙ is_done _ _)
