use mathlib.Core.Path.{sym, ◌∙◌}
use native.Mathlib.Omega.{arith}
use Rattle.std.proofs.lemmas.Result.{err_from_is_err_and}
use Rattle.text.proofs.Judging.{field_range, number_right, number_wrong, sealed_is}
use Rattle.job.specs.Input.{read_limit}
use Rattle.job.proofs.asks.limit_line.Goals as goal

pub returns-in_err-place : goal.returns-in_err-place
unfolding read_limit
returns-in_err-place c = let p = err_from_is_err_and c.from_residual.result c.from_residual.ensures.1 in rw (p.1, p.2) (sym (number_wrong _ _ _ c.field_at.ensures _ _ c.in_err-place.was))

pub returns-in_err-cost : goal.returns-in_err-cost
unfolding read_limit
returns-in_err-cost c = let p = err_from_is_err_and c.from_residual-in_err-cost.result c.from_residual-in_err-cost.ensures.1 in rw (p.1, p.2)
    (sym (number_right _ _ _ c.field_at.ensures _ _ c.in_ok-place.was
    ∙ number_wrong _ _ _ c.number_at.ensures _ _ c.in_err-cost.was))

pub returns-in_err-close_at : goal.returns-in_err-close_at
unfolding read_limit
returns-in_err-close_at c = let p = err_from_is_err_and c.from_residual-in_err-close_at.result c.from_residual-in_err-close_at.ensures.1 in rw (p.1, p.2)
    (sym (number_right _ _ _ c.field_at.ensures _ _ c.in_ok-place.was
    ∙ number_right _ _ _ c.number_at.ensures _ _ c.in_ok-cost.was
    ∙ sealed_is _ _ _ _ c.close_at.ensures c.in_err-close_at.was))

pub returns : goal.returns
unfolding read_limit
returns c = (
  sym (number_right _ _ _ c.field_at.ensures _ _ c.in_ok-place.was
      ∙ number_right _ _ _ c.number_at.ensures _ _ c.in_ok-cost.was
      ∙ sealed_is _ _ _ _ c.close_at.ensures c.in_ok-close_at.was),
  omega (arith, field_range _ _ _ _ _ c.field_at.ensures _ c.in_ok-place.was),
)
