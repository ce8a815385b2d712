use mathlib.Core.Path.{refl, sym, ◌∙◌}
use Rattle.rules.proofs.Refusals.{refused_first, others_decide}
use Rattle.rules.proofs.Checks.{refuses, passes, is_done}
use Rattle.filter.proofs.Answering.{long_same}
use Rattle.filter.proofs.answers.checked.Goals as goal

pub returns-in-Err : goal.returns-in-Err
returns-in-Err c = let e = rw c.lengths_right-long.ensures at c.in-Err.ensures in
    rw c.refused.ensures.0 (refused_first (λ n. n) 0 _ _ _ _ e ∙ long_same (λ n. n) 0 _ _ _, c.refused.ensures.1)

pub returns-then-not-masks_right : goal.returns-then-not-masks_right
returns-then-not-masks_right c = let e = rw c.lengths_right-long.ensures at c.in_default.ensures in
    rw c.refused-then-not-masks_right.ensures.0 (others_decide (λ n. n) 0 _ _ _ e (refuses _ _ _ _ _ (sym c.if-not-masks_right.ensures)) ∙ long_same (λ n. n) 0 _ _ _, c.refused-then-not-masks_right.ensures.1)

pub returns : goal.returns
returns c = let e = rw c.lengths_right-long.ensures at c.in_default.ensures in
    (others_decide (λ n. n) 0 _ _ _ e (passes _ _ _ _ _ (sym c.if-not-masks_right.ensures) (is_done _ _)) ∙ long_same (λ n. n) 0 _ _ _, refl)
