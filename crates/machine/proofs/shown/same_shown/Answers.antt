use mathlib.Core.Path.{sym, ◌∙◌}
use borrow.Author.Tests.{eqb-true}
use Rattle.machine.proofs.Shows.{carried_is, shown_masks}
use Rattle.machine.proofs.shown.same_shown.Goals as goal
use Rattle.machine.proofs.shown.same_shown.Goals.{then-memory-answer, else-memory-answer}

pub returns-then-memory-least : goal.returns-then-memory-least
returns-then-memory-least c =
    elim c.if-memory-answer.branch [
      | then-memory-answer w ↦ c.same_masks.ensures ∙ shown_masks _ _ c.args.kept.now c.args.memory.now c.requires (w.if-memory-answer.true ∙ c.from-answer.ensures ∙ c.number_of.ensures)
          (eqb-true _ _ (sym w.value-is ∙ c.if-memory-least.true) ∙ c.unwrap_or-least.ensures ∙ carried_is c.args.fresh)
      | else-memory-answer w ↦ absurd (w.if-memory-answer.false (eqb-true _ _ (sym w.value-is ∙ c.if-memory-least.true)))
    ]
