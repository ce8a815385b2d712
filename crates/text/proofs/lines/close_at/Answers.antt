use native.Mathlib.Omega.{arith}
use mathlib.Core.Path.{sym, ◌∙◌, ap}
use mathlib.Core.Bool.{Bool, cond}
use Rattle.std.specs.Prelude.{Ok, Err}
use Rattle.text.specs.declared.lines.Fault.TheVariants.{Order, Cut}
use Rattle.text.proofs.Scans.{feed_sort, sort_feed, sort_is, sort_not}
use Rattle.text.proofs.Judging.{ending_none, ending_many, ending_other, ending_feed}
use Rattle.text.proofs.lines.close_at.Goals as goal
use Rattle.text.proofs.lines.close_at.Goals.{then-end-line-via-then-end-line, then-end-line-via-else-end-line+then-ne}

pub returns-then-ordered : goal.returns-then-ordered
returns-then-ordered c = sym (ending_none c.args.ordered c.args.line.now c.args.end (omega arith) ∙ ap (λ (o : Bool). cond o (Err Cut) (Err Order)) c.if-ordered.true)

pub returns-else-ordered : goal.returns-else-ordered
returns-else-ordered c = sym (ending_none c.args.ordered c.args.line.now c.args.end (omega arith) ∙ ap (λ (o : Bool). cond o (Err Cut) (Err Order)) c.if-ordered.false)

pub returns-then-end-line : goal.returns-then-end-line
returns-then-end-line c =
    elim c.then-end-line.branch [
      | then-end-line-via-then-end-line w ↦ sym (ending_many c.args.ordered c.args.line.now c.args.end (omega arith))
      | then-end-line-via-else-end-line+then-ne w ↦ sym (ending_other c.args.ordered c.args.line.now c.args.end (omega arith) (omega arith) (λ e. sort_not _ _ _ _ w.sort_of.ensures w.ne.ensures w.if-ne.true (sym (sort_feed _ e))))
    ]

pub returns-then-ordered-2 : goal.returns-then-ordered-2
returns-then-ordered-2 c = sym (ending_feed c.args.ordered c.args.line.now c.args.end (omega arith) (omega arith) (feed_sort _ (sort_is _ _ _ _ c.sort_of.ensures c.ne.ensures c.if-ne.false)) ∙ ap (λ (o : Bool). cond o (Ok tt) (Err Order)) c.if-ordered-2.true)

pub returns-else-ordered-2 : goal.returns-else-ordered-2
returns-else-ordered-2 c = sym (ending_feed c.args.ordered c.args.line.now c.args.end (omega arith) (omega arith) (feed_sort _ (sort_is _ _ _ _ c.sort_of.ensures c.ne.ensures c.if-ne.false)) ∙ ap (λ (o : Bool). cond o (Ok tt) (Err Order)) c.if-ordered-2.false)
