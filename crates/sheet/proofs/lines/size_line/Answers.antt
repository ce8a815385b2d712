use mathlib.Core.Path.{refl, sym, ◌∙◌}
use native.Mathlib.Omega.{arith}
use Rattle.std.proofs.lemmas.Result.{err_from_is_err_and}
use Rattle.text.proofs.Judging.{begins_true, begins_false, strip_right, strip_wrong, number_right, number_wrong, number_range, field_range, sealed_is}
use Rattle.sheet.specs.Lines.{read_size}
use Rattle.sheet.proofs.lines.size_line.Goals as goal

pub returns-then-not-begins : goal.returns-then-not-begins
unfolding read_size
returns-then-not-begins c = sym (strip_wrong _ _ _ _ (begins_false _ _ c.begins.result c.begins.ensures refl c.if-not-begins.true))

pub returns-in_err-states : goal.returns-in_err-states
unfolding read_size
returns-in_err-states c = let p = err_from_is_err_and c.from_residual.result c.from_residual.ensures.1 in rw (p.1, p.2)
    (sym (strip_right _ _ _ _ _ (begins_true _ _ c.begins.result c.begins.ensures refl c.if-not-begins.false)
    ∙ number_wrong _ _ _ c.field_at.ensures _ _ c.in_err-states.was))

pub returns-in_err-values : goal.returns-in_err-values
unfolding read_size
returns-in_err-values c = let p = err_from_is_err_and c.from_residual-in_err-values.result c.from_residual-in_err-values.ensures.1 in rw (p.1, p.2)
    (sym (strip_right _ _ _ _ _ (begins_true _ _ c.begins.result c.begins.ensures refl c.if-not-begins.false)
    ∙ number_right _ _ _ c.field_at.ensures _ _ c.in_ok-states.was
    ∙ number_wrong _ _ _ c.field_at-2.ensures _ _ c.in_err-values.was))

pub overflow_sub-states : goal.overflow_sub-states
overflow_sub-states c = (field_range _ _ _ _ _ c.field_at.ensures _ c.in_ok-states.was).0

pub returns-in_err-start : goal.returns-in_err-start
unfolding read_size
returns-in_err-start c = let p = err_from_is_err_and c.from_residual-in_err-start.result c.from_residual-in_err-start.ensures.1 in rw (p.1, p.2)
    (sym (strip_right _ _ _ _ _ (begins_true _ _ c.begins.result c.begins.ensures refl c.if-not-begins.false)
    ∙ number_right _ _ _ c.field_at.ensures _ _ c.in_ok-states.was
    ∙ number_right _ _ _ c.field_at-2.ensures _ _ c.in_ok-values.was
    ∙ number_wrong _ _ _ c.number_at.ensures _ _ c.in_err-start.was))

pub returns-in_err-close_at : goal.returns-in_err-close_at
unfolding read_size
returns-in_err-close_at c = let p = err_from_is_err_and c.from_residual-in_err-close_at.result c.from_residual-in_err-close_at.ensures.1 in rw (p.1, p.2)
    (sym (strip_right _ _ _ _ _ (begins_true _ _ c.begins.result c.begins.ensures refl c.if-not-begins.false)
    ∙ number_right _ _ _ c.field_at.ensures _ _ c.in_ok-states.was
    ∙ number_right _ _ _ c.field_at-2.ensures _ _ c.in_ok-values.was
    ∙ number_right _ _ _ c.number_at.ensures _ _ c.in_ok-start.was
    ∙ sealed_is _ _ _ _ c.close_at.ensures c.in_err-close_at.was))

pub overflow_cast-result-3 : goal.overflow_cast-result-3
overflow_cast-result-3 c = omega (arith, number_range _ _ _ _ _ c.number_at.ensures _ c.in_ok-start.was, field_range _ _ _ _ _ c.field_at.ensures _ c.in_ok-states.was)

pub returns : goal.returns
unfolding read_size
returns c = sym (strip_right _ _ _ _ _ (begins_true _ _ c.begins.result c.begins.ensures refl c.if-not-begins.false)
    ∙ number_right _ _ _ c.field_at.ensures _ _ c.in_ok-states.was
    ∙ number_right _ _ _ c.field_at-2.ensures _ _ c.in_ok-values.was
    ∙ number_right _ _ _ c.number_at.ensures _ _ c.in_ok-start.was
    ∙ sealed_is _ _ _ _ c.close_at.ensures c.in_ok-close_at.was)
