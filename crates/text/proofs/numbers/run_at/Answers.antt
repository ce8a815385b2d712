use native.Mathlib.Omega.{arith}
use mathlib.Core.Logic.{inl, inr}
use Rattle.text.proofs.Scans.{running_more, run_stop, run_end, digit_sort, not_digit_sort, sort_is, sort_not}
use Rattle.text.proofs.numbers.run_at.Goals as goal
use Rattle.text.proofs.numbers.run_at.Goals.{then-value-from, else-value-from}

pub returns-then-ne : goal.returns-then-ne
returns-then-ne c = run_stop _ _ _ _ _ (omega arith) (not_digit_sort _ (sort_not _ _ _ _ c.sort_of.ensures c.ne.ensures c.if-ne.true)) c.loop-i.invariant

-- of its own, since a wrong program is refused here
pub overflow_mul-value : goal.overflow_mul-value
overflow_mul-value c = omega arith

pub overflow_sub-b : goal.overflow_sub-b
overflow_sub-b c = (digit_sort _ (sort_is _ _ _ _ c.sort_of.ensures c.ne.ensures c.if-ne.false)).0

pub loop-i-preserved : goal.loop-i-preserved
loop-i-preserved c =
    let d = digit_sort _ (sort_is _ _ _ _ c.sort_of.ensures c.ne.ensures c.if-ne.false) in
    running_more _ _ _ _ _ _ (omega arith) d.0 d.1 c.loop-i.invariant (elim c.if-value-from.branch [ then-value-from w ↦ inl (omega arith, omega arith) | else-value-from w ↦ inr (omega arith, w.value-is) ])

pub returns : goal.returns
returns c = run_end _ _ _ _ _ (omega arith) c.loop-i.invariant
