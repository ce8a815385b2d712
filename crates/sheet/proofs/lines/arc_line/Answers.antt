use mathlib.Core.Path.{sym, ◌∙◌}
use native.Mathlib.Omega.{arith}
use Rattle.std.proofs.lemmas.Result.{err_from_is_err_and}
use Rattle.text.proofs.Judging.{number_right, number_wrong, number_range, field_range, sealed_is}
use Rattle.sheet.specs.Lines.{read_arc, place}
use Rattle.sheet.proofs.Judging.{order_as}
use Rattle.sheet.proofs.lines.arc_line.Goals as goal

pub returns-in_err-state : goal.returns-in_err-state
unfolding read_arc
returns-in_err-state c = let p = err_from_is_err_and c.from_residual.result c.from_residual.ensures.1 in rw (p.1, p.2) (sym (number_wrong _ _ _ c.field_at.ensures _ _ c.in_err-state.was))

pub returns-in_err-value : goal.returns-in_err-value
unfolding read_arc
returns-in_err-value c = let p = err_from_is_err_and c.from_residual-in_err-value.result c.from_residual-in_err-value.ensures.1 in rw (p.1, p.2)
    (sym (number_right _ _ _ c.field_at.ensures _ _ c.in_ok-state.was
    ∙ number_wrong _ _ _ c.field_at-2.ensures _ _ c.in_err-value.was))

pub returns-in_err-target : goal.returns-in_err-target
unfolding read_arc
returns-in_err-target c = let p = err_from_is_err_and c.from_residual-in_err-target.result c.from_residual-in_err-target.ensures.1 in rw (p.1, p.2)
    (sym (number_right _ _ _ c.field_at.ensures _ _ c.in_ok-state.was
    ∙ number_right _ _ _ c.field_at-2.ensures _ _ c.in_ok-value.was
    ∙ number_wrong _ _ _ c.field_at-3.ensures _ _ c.in_err-target.was))

pub returns-in_err-cost : goal.returns-in_err-cost
unfolding read_arc
returns-in_err-cost c = let p = err_from_is_err_and c.from_residual-in_err-cost.result c.from_residual-in_err-cost.ensures.1 in rw (p.1, p.2)
    (sym (number_right _ _ _ c.field_at.ensures _ _ c.in_ok-state.was
    ∙ number_right _ _ _ c.field_at-2.ensures _ _ c.in_ok-value.was
    ∙ number_right _ _ _ c.field_at-3.ensures _ _ c.in_ok-target.was
    ∙ number_wrong _ _ _ (rw c.from.ensures at c.number_at.ensures) _ _ c.in_err-cost.was))

pub overflow_cast-q : goal.overflow_cast-q
overflow_cast-q c = omega (arith, field_range _ _ _ _ _ c.field_at.ensures _ c.in_ok-state.was, c.requires.1)

pub overflow_cast-v : goal.overflow_cast-v
overflow_cast-v c = omega (arith, field_range _ _ _ _ _ c.field_at-2.ensures _ c.in_ok-value.was, c.requires.1)

pub overflow_cast-result : goal.overflow_cast-result
overflow_cast-result c = omega (arith, field_range _ _ _ _ _ c.field_at-3.ensures _ c.in_ok-target.was, c.requires.1)

pub overflow_cast-result-2 : goal.overflow_cast-result-2
overflow_cast-result-2 c = omega (arith, number_range _ _ _ _ _ c.number_at.ensures _ c.in_ok-cost.was, c.from.ensures)

pub returns-in_err-close_at : goal.returns-in_err-close_at
unfolding read_arc place
returns-in_err-close_at c = let p = err_from_is_err_and c.from_residual-in_err-close_at.result c.from_residual-in_err-close_at.ensures.1 in rw (p.1, p.2)
    (sym (number_right _ _ _ c.field_at.ensures _ _ c.in_ok-state.was
    ∙ number_right _ _ _ c.field_at-2.ensures _ _ c.in_ok-value.was
    ∙ number_right _ _ _ c.field_at-3.ensures _ _ c.in_ok-target.was
    ∙ number_right _ _ _ (rw c.from.ensures at c.number_at.ensures) _ _ c.in_ok-cost.was
    ∙ sealed_is _ _ _ _ (order_as _ _ _ _ _ c.arc_place.ensures c.close_at.ensures) c.in_err-close_at.was))

pub returns : goal.returns
unfolding read_arc place
returns c = sym (number_right _ _ _ c.field_at.ensures _ _ c.in_ok-state.was
    ∙ number_right _ _ _ c.field_at-2.ensures _ _ c.in_ok-value.was
    ∙ number_right _ _ _ c.field_at-3.ensures _ _ c.in_ok-target.was
    ∙ number_right _ _ _ (rw c.from.ensures at c.number_at.ensures) _ _ c.in_ok-cost.was
    ∙ sealed_is _ _ _ _ (order_as _ _ _ _ _ c.arc_place.ensures c.close_at.ensures) c.in_ok-close_at.was)
