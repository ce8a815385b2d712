use mathlib.Core.Path.{sym, ◌∙◌}
use Rattle.std.proofs.lemmas.Result.{err_from_is_err_and}
use Rattle.rules.proofs.Checks.{test_failed, test_passed}
use mathlib.Core.Path.{refl}
use Rattle.text.proofs.Judging.{begins_true, begins_false, strip_right, strip_wrong, number_right, number_wrong, sealed_is}
use Rattle.job.specs.Input.{read_count}
use Rattle.job.proofs.asks.count_line.Goals as goal

pub returns-then-not-begins : goal.returns-then-not-begins
unfolding read_count
returns-then-not-begins c = sym (strip_wrong _ _ _ _ (begins_false _ _ c.begins.result c.begins.ensures c.requires (test_failed refl c.if-not-begins.true)))

pub returns-in_err-count : goal.returns-in_err-count
unfolding read_count
returns-in_err-count c = let p = err_from_is_err_and c.from_residual.result c.from_residual.ensures.1 in rw (p.1, p.2)
    (sym (strip_right _ _ _ _ _ (begins_true _ _ c.begins.result c.begins.ensures c.requires (test_passed refl c.if-not-begins.false))
    ∙ number_wrong _ _ _ c.number_at.ensures _ _ c.in_err-count.was))

pub returns-in_err-close_at : goal.returns-in_err-close_at
unfolding read_count
returns-in_err-close_at c = let p = err_from_is_err_and c.from_residual-in_err-close_at.result c.from_residual-in_err-close_at.ensures.1 in rw (p.1, p.2)
    (sym (strip_right _ _ _ _ _ (begins_true _ _ c.begins.result c.begins.ensures c.requires (test_passed refl c.if-not-begins.false))
    ∙ number_right _ _ _ c.number_at.ensures _ _ c.in_ok-count.was
    ∙ sealed_is _ _ _ _ c.close_at.ensures c.in_err-close_at.was))

pub returns : goal.returns
unfolding read_count
returns c = sym (strip_right _ _ _ _ _ (begins_true _ _ c.begins.result c.begins.ensures c.requires (test_passed refl c.if-not-begins.false))
    ∙ number_right _ _ _ c.number_at.ensures _ _ c.in_ok-count.was
    ∙ sealed_is _ _ _ _ c.close_at.ensures c.in_ok-close_at.was)
