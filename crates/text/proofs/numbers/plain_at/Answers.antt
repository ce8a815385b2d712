use native.Mathlib.Omega.{arith}
use Rattle.text.proofs.Scans.{sort_is, sort_not, plain_at_end, plain_at_other, plain_at_lead, plain_at_zero}
use Rattle.text.proofs.numbers.plain_at.Goals as goal
use Rattle.text.proofs.numbers.plain_at.Goals.{then-at-line-via-then-at-line, then-at-line-via-else-at-line+then-ne}

pub returns-then-at-line : goal.returns-then-at-line
returns-then-at-line c =
    elim c.then-at-line.branch [
      | then-at-line-via-then-at-line w ↦ plain_at_end c.args.line.now c.args.at (omega arith)
      | then-at-line-via-else-at-line+then-ne w ↦ plain_at_other c.args.line.now c.args.at (omega arith) (sort_not _ _ _ _ w.sort_of.ensures w.ne.ensures w.if-ne.true)
    ]

pub returns-then-line-at-ne48 : goal.returns-then-line-at-ne48
returns-then-line-at-ne48 c = plain_at_lead c.args.line.now c.args.at (omega arith) (sort_is _ _ _ _ c.sort_of.ensures c.ne.ensures c.if-ne.false) c.if-line-at-ne48.true

pub returns-else-line-at-ne48 : goal.returns-else-line-at-ne48
returns-else-line-at-ne48 c = plain_at_zero c.args.line.now c.args.at _ c.requires (omega arith) (sort_is _ _ _ _ c.sort_of.ensures c.ne.ensures c.if-ne.false) c.if-line-at-ne48.false
