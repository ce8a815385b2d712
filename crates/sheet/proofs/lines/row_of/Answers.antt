use mathlib.Core.Path.{refl, sym, ◌∙◌}
use Rattle.sheet.specs.Lines.{read_line}
use Rattle.text.proofs.Judging.{begins_true, begins_false, begins_length, strip_right, strip_wrong}
use Rattle.sheet.proofs.lines.row_of.Goals as goal

pub final_line-requires : goal.final_line-requires
final_line-requires c = (begins_length _ _ _ (begins_true _ _ _ c.begins.ensures refl c.if-begins.true), c.requires)

pub returns-then-begins : goal.returns-then-begins
unfolding read_line
returns-then-begins c = c.final_line.ensures ∙ sym (strip_right _ _ _ _ _ (begins_true _ _ _ c.begins.ensures refl c.if-begins.true))

pub arc_line-requires : goal.arc_line-requires
arc_line-requires c = (begins_length _ _ _ (begins_true _ _ _ c.begins-2.ensures refl c.if-begins-2.true), c.requires)

pub returns-then-begins-2 : goal.returns-then-begins-2
unfolding read_line
returns-then-begins-2 c = c.arc_line.ensures ∙ sym (strip_wrong _ _ _ _ (begins_false _ _ _ c.begins.ensures refl c.if-begins.false) ∙ strip_right _ _ _ _ _ (begins_true _ _ _ c.begins-2.ensures refl c.if-begins-2.true))

pub returns : goal.returns
unfolding read_line
returns c = sym (strip_wrong _ _ _ _ (begins_false _ _ _ c.begins.ensures refl c.if-begins.false) ∙ strip_wrong _ _ _ _ (begins_false _ _ _ c.begins-2.ensures refl c.if-begins-2.false))
