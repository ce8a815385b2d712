use borrow.Author.Rules.{rules}
use Rattle.std.proofs.lemmas.Result.{err_from_is_err_and}
use Rattle.checker.proofs.Answering.{check_refused, ready, check_done}
use Rattle.checker.proofs.check_roster.Goals as goal

pub returns-in_err-judged : goal.returns-in_err-judged
returns-in_err-judged c = let p = err_from_is_err_and c.from_residual.result c.from_residual.ensures.1 in
    rw (p.1, p.2) (check_refused _ _ _ _ _ _ _ c.in_err-judged.ensures)

pub right-requires : goal.right-requires
right-requires c = let r = ready _ _ _ _ _ c.in_ok-judged.ensures in
    (r.0, r.1, search rules, r.2)

pub returns : goal.returns
returns c = check_done _ _ _ _ _ c.in_ok-judged.ensures _ c.right.ensures
