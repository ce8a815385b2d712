use mathlib.Core.Path.{sym, ◌∙◌}
use native.Mathlib.Omega.{arith}
use Rattle.std.proofs.lemmas.Result.{err_from_is_err_and}
use Rattle.text.proofs.Judging.{field_range, number_right, number_wrong, number_range, sealed_is}
use Rattle.job.specs.Input.{read_keep}
use Rattle.job.proofs.Asking.{full_is, ceiling_is}
use Rattle.job.proofs.asks.keep_line.Goals as goal

pub returns-in_err-place : goal.returns-in_err-place
unfolding read_keep
returns-in_err-place c = let p = err_from_is_err_and c.from_residual.result c.from_residual.ensures.1 in rw (p.1, p.2) (sym (number_wrong _ _ _ c.field_at.ensures _ _ c.in_err-place.was))

pub returns-in_err-mask : goal.returns-in_err-mask
unfolding read_keep
returns-in_err-mask c = let p = err_from_is_err_and c.from_residual-in_err-mask.result c.from_residual-in_err-mask.ensures.1 in rw (p.1, p.2)
    (sym (number_right _ _ _ c.field_at.ensures _ _ c.in_ok-place.was
    ∙ number_wrong _ _ _ (ceiling_is _ _ _ _ _ _ (full_is _ _ c.requires.2 c.full-most.ensures) c.number_at.ensures) _ _ c.in_err-mask.was))

pub returns-in_err-close_at : goal.returns-in_err-close_at
unfolding read_keep
returns-in_err-close_at c = let p = err_from_is_err_and c.from_residual-in_err-close_at.result c.from_residual-in_err-close_at.ensures.1 in rw (p.1, p.2)
    (sym (number_right _ _ _ c.field_at.ensures _ _ c.in_ok-place.was
    ∙ number_right _ _ _ (ceiling_is _ _ _ _ _ _ (full_is _ _ c.requires.2 c.full-most.ensures) c.number_at.ensures) _ _ c.in_ok-mask.was
    ∙ sealed_is _ _ _ _ c.close_at.ensures c.in_err-close_at.was))

pub overflow_cast-result-2 : goal.overflow_cast-result-2
overflow_cast-result-2 c = omega (arith, number_range _ _ _ _ _ c.number_at.ensures _ c.in_ok-mask.was)

pub returns : goal.returns
unfolding read_keep
returns c = (
  sym (number_right _ _ _ c.field_at.ensures _ _ c.in_ok-place.was
      ∙ number_right _ _ _ (ceiling_is _ _ _ _ _ _ (full_is _ _ c.requires.2 c.full-most.ensures) c.number_at.ensures) _ _ c.in_ok-mask.was
      ∙ sealed_is _ _ _ _ c.close_at.ensures c.in_ok-close_at.was),
  omega (arith, field_range _ _ _ _ _ c.field_at.ensures _ c.in_ok-place.was),
)
