use mathlib.Core.Path.{refl, sym}
use Rattle.std.proofs.lemmas.Result.{err_from_is_err_and}
use Rattle.rules.proofs.Checks.{test_failed, test_passed}
use Rattle.text.proofs.Judging.{begins_true, begins_false, strip_wrong, field_range, number_range}
use Rattle.job.specs.Mend.{read_drawn}
use Rattle.job.proofs.Drawing.{drawing_start, field_fails, field_goes, number_fails, number_goes}
use native.Mathlib.Omega.{arith}
use Rattle.job.proofs.wish.drawn_line.Goals as goal

pub returns-then-not-begins : goal.returns-then-not-begins
unfolding read_drawn
returns-then-not-begins c = sym (strip_wrong _ _ _ _ (begins_false _ _ c.begins.result c.begins.ensures refl (test_failed refl c.if-not-begins.true)))

pub loop-i-init : goal.loop-i-init
loop-i-init c = drawing_start _ _ _ _ c.requires.0 refl (begins_true _ _ c.begins.result c.begins.ensures refl (test_passed refl c.if-not-begins.false))

pub returns-in_err-n : goal.returns-in_err-n
returns-in_err-n c = let p = err_from_is_err_and c.from_residual.result c.from_residual.ensures.1 in rw (p.1, p.2)
    (field_fails _ _ _ _ _ _ _ c.loop-i.invariant _ c.field_at.ensures c.loop-i-test.true _ c.in_err-n.was)

pub overflow_cast-drawn : goal.overflow_cast-drawn
overflow_cast-drawn c = omega (arith, field_range _ _ _ _ _ c.field_at.ensures _ c.in_ok-n.was, c.requires.2)

pub loop-i-preserved : goal.loop-i-preserved
loop-i-preserved c = field_goes _ _ _ _ _ _ _ c.loop-i.invariant _ c.field_at.ensures c.loop-i-test.true _ c.in_ok-n.was

pub returns-in_err-n-2 : goal.returns-in_err-n-2
returns-in_err-n-2 c = let p = err_from_is_err_and c.from_residual-in_err-n-2.result c.from_residual-in_err-n-2.ensures.1 in rw (p.1, p.2)
    (number_fails _ _ _ _ _ _ _ c.loop-i.invariant _ c.number_at.ensures c.loop-i-test.false _ c.in_err-n-2.was)

pub overflow_cast-drawn-2 : goal.overflow_cast-drawn-2
overflow_cast-drawn-2 c = omega (arith, number_range _ _ _ _ _ c.number_at.ensures _ c.in_ok-n-2.was, c.requires.2)

pub returns : goal.returns
returns c = number_goes _ _ _ _ _ _ _ c.loop-i.invariant _ c.number_at.ensures c.loop-i-test.false _ _ c.in_ok-n-2.was refl _ c.close_at.ensures
