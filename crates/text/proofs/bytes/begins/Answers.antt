use native.Mathlib.Omega.{arith}
use mathlib.Core.Path.{sym, ◌∙◌}
use Rattle.text.proofs.Scans.{sort_is, sort_not, word_short, word_step, word_letter, word_sort, word_end}
use Rattle.text.proofs.bytes.begins.Goals as goal
use Rattle.text.proofs.bytes.begins.Goals.{then-ne-via-then-ne, then-ne-via-else-ne+then-b-word}

pub returns-then-line-word : goal.returns-then-line-word
returns-then-line-word c = word_short c.args.word.now c.args.line.now c.if-line-word.true

pub returns-then-ne : goal.returns-then-ne
returns-then-ne c =
    elim c.then-ne.branch [
      | then-ne-via-then-ne w ↦ sym (c.loop-k.invariant ∙ word_sort c.args.word.now c.args.line.now c.loop-k.k (omega arith) (omega arith) (sort_not _ _ _ _ c.sort_of.ensures c.ne.ensures w.if-ne.true))
      | then-ne-via-else-ne+then-b-word w ↦ sym (c.loop-k.invariant ∙ word_letter c.args.word.now c.args.line.now c.loop-k.k (omega arith) (omega arith) w.if-b-word.true)
    ]

pub loop-k-preserved : goal.loop-k-preserved
loop-k-preserved c = c.loop-k.invariant ∙ word_step c.args.word.now c.args.line.now c.loop-k.k (omega arith) (omega arith) (sort_is _ _ _ _ c.sort_of.ensures c.ne.ensures c.if-ne.false) c.if-b-word.false

pub returns : goal.returns
returns c = word_end c.args.word.now c.args.line.now c.loop-k.k (omega arith) (omega arith) _ _ c.sort_of-2.ensures c.eq.ensures ∙ sym c.loop-k.invariant
