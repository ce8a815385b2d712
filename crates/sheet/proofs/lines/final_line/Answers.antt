use mathlib.Core.Path.{sym, ◌∙◌}
use native.Mathlib.Omega.{arith}
use Rattle.std.proofs.lemmas.Result.{err_from_is_err_and}
use Rattle.text.proofs.Judging.{number_right, number_wrong, number_range, sealed_is}
use Rattle.sheet.specs.Lines.{read_final, place}
use Rattle.sheet.proofs.Judging.{order_as}
use Rattle.sheet.proofs.lines.final_line.Goals as goal

pub returns-in_err-state : goal.returns-in_err-state
unfolding read_final
returns-in_err-state c = let p = err_from_is_err_and c.from_residual.result c.from_residual.ensures.1 in rw (p.1, p.2) (sym (number_wrong _ _ _ c.number_at.ensures _ _ c.in_err-state.was))

pub overflow_cast-q : goal.overflow_cast-q
overflow_cast-q c = omega (arith, number_range _ _ _ _ _ c.number_at.ensures _ c.in_ok-state.was, c.requires.1)

pub returns-in_err-close_at : goal.returns-in_err-close_at
unfolding read_final place
returns-in_err-close_at c = let p = err_from_is_err_and c.from_residual-in_err-close_at.result c.from_residual-in_err-close_at.ensures.1 in rw (p.1, p.2) (sym (number_right _ _ _ c.number_at.ensures _ _ c.in_ok-state.was ∙ sealed_is _ _ _ _ (order_as _ _ _ _ _ c.from.ensures c.close_at.ensures) c.in_err-close_at.was))

pub returns : goal.returns
unfolding read_final place
returns c = sym (number_right _ _ _ c.number_at.ensures _ _ c.in_ok-state.was ∙ sealed_is _ _ _ _ (order_as _ _ _ _ _ c.from.ensures c.close_at.ensures) c.in_ok-close_at.was)
