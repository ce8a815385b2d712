use mathlib.Core.Path.{sym, ◌∙◌}
use native.Mathlib.Omega.{arith}
use Rattle.std.proofs.lemmas.Result.{err_from_is_err_and}
use Rattle.rules.proofs.Checks.{refuses, passes, is_done}
use Rattle.rules.proofs.Refusals.{number_some}
use Rattle.filter.specs.First.{first_of}
use Rattle.filter.proofs.Answering.{refused_pass, others_decide_pass, ready, start_state, out_long, place_there, first_found, first_missing}
use Rattle.filter.proofs.first_roster.Goals as goal

pub returns-in_err-checked : goal.returns-in_err-checked
unfolding first_of
returns-in_err-checked c = let p = err_from_is_err_and c.from_residual.result c.from_residual.ensures.1 in
    let e = c.in_err-checked.ensures in
    rw (p.1, p.2, e.1) (refused_pass _ _ _ _ _ _ _ _ _ e.0 (number_some _))

pub returns-then-not-in_range : goal.returns-then-not-in_range
unfolding first_of
returns-then-not-in_range c = let e = c.in_ok-checked.ensures in
    rw (c.refused.ensures.0, c.refused.ensures.1, e.1) (others_decide_pass _ _ _ _ _ e.0 _ _ _ (refuses _ _ _ _ _ (sym c.if-not-in_range.ensures)))

pub returns-then-first_from : goal.returns-then-first_from
unfolding first_of
returns-then-first_from c = let e = c.in_ok-checked.ensures in
    let r = sym c.if-not-in_range.ensures in
    let f = (rw e.1 at c.first_from.ensures).right (ready _ _ _ _ _ e.0) (start_state _ _ _ _ _ e.0) (omega arith) (out_long _ _ _ _ _ e.0) (place_there _ _ _ _ _ e.0 _ _ r) in
    others_decide_pass _ _ _ _ _ e.0 _ _ _ (passes _ _ _ _ _ r (first_found f c.if-first_from.true ∙ is_done _ _))

pub returns-else-first_from : goal.returns-else-first_from
unfolding first_of
returns-else-first_from c = let e = c.in_ok-checked.ensures in
    let r = sym c.if-not-in_range.ensures in
    let f = (rw e.1 at c.first_from.ensures).right (ready _ _ _ _ _ e.0) (start_state _ _ _ _ _ e.0) (omega arith) (out_long _ _ _ _ _ e.0) (place_there _ _ _ _ _ e.0 _ _ r) in
    others_decide_pass _ _ _ _ _ e.0 _ _ _ (passes _ _ _ _ _ r (first_missing f c.if-first_from.false ∙ is_done _ _))
