use Rattle.std.proofs.lemmas.Result.{err_from_is_err_and}
use Rattle.rules.proofs.Refusals.{refused_first}
use Rattle.checker.proofs.answers.judged.Goals as goal

pub returns-in_err-checked : goal.returns-in_err-checked
returns-in_err-checked c = let p = err_from_is_err_and c.from_residual.result c.from_residual.ensures.1 in
    rw (p.1, p.2, ← c.lengths_right-long.ensures) (refused_first _ _ _ _ _ _ c.in_err-checked.ensures)
