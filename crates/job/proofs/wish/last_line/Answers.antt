use mathlib.Core.Path.{refl, ◌∙◌}
use Rattle.job.proofs.Wishing.{most_is, last_missing, last_wrong, last_more, last_right}
use native.Mathlib.Omega.{arith}
use Rattle.job.proofs.wish.last_line.Goals as goal

pub returns-then-text-at : goal.returns-then-text-at
returns-then-text-at c = last_missing _ _ _ _ refl c.if-text-at.true

pub returns-in_default : goal.returns-in_default
returns-in_default c = last_wrong _ _ _ _ _ (c.line_end-end.ensures.inside (omega arith)) refl _ (c.in_default.ensures ∙ most_is _)

pub returns-then-end-text : goal.returns-then-end-text
returns-then-end-text c = last_more _ _ _ _ _ (c.line_end-end.ensures.inside (omega arith)) refl _ (c.in-Ok.ensures ∙ most_is _) c.if-end-text.true

pub returns : goal.returns
returns c = last_right _ _ _ _ (c.line_end-end.ensures.inside (omega arith)) _ (c.in-Ok.ensures ∙ most_is _) c.if-end-text.false
