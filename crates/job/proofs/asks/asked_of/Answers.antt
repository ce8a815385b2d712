use mathlib.Core.Path.{refl, sym, ◌∙◌}
use Rattle.text.proofs.Judging.{begins_true, begins_false, strip_right, strip_wrong}
use Rattle.job.specs.Input.{read_decision}
use Rattle.job.proofs.Asking.{asked_as}
use Rattle.job.proofs.asks.asked_of.Goals as goal

pub returns-then-begins : goal.returns-then-begins
unfolding read_decision
returns-then-begins c = asked_as _ _ (sym (strip_right _ _ _ _ _ (begins_true _ _ _ c.begins.ensures refl c.if-begins.true))) c.keep_line.ensures

pub returns-then-begins-2 : goal.returns-then-begins-2
unfolding read_decision
returns-then-begins-2 c = asked_as _ _ (sym (strip_wrong _ _ _ _ (begins_false _ _ _ c.begins.ensures refl c.if-begins.false) ∙ strip_right _ _ _ _ _ (begins_true _ _ _ c.begins-2.ensures refl c.if-begins-2.true))) c.limit_line.ensures

pub returns : goal.returns
unfolding read_decision
returns c = sym (strip_wrong _ _ _ _ (begins_false _ _ _ c.begins.ensures refl c.if-begins.false) ∙ strip_wrong _ _ _ _ (begins_false _ _ _ c.begins-2.ensures refl c.if-begins-2.false))
