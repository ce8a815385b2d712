use native.Mathlib.Omega.{arith}
use Rattle.rules.proofs.Checks.{test_failed, test_passed}
use Rattle.text.proofs.Scans.{number_past, number_unplain, number_unended, number_low, number_high, number_value}
use Rattle.text.proofs.numbers.number_at.Goals as goal
use Rattle.text.proofs.numbers.number_at.Goals.{then-from-value-via-then-from-value, then-from-value-via-else-from-value+then-value-from, then-not-plain_at-via-then-not-plain_at, then-not-plain_at-via-else-not-plain_at+then-not-field_ends}

pub returns-then-line-at : goal.returns-then-line-at
returns-then-line-at c = number_past _ _ _ _ c.if-line-at.true

pub returns-then-not-plain_at : goal.returns-then-not-plain_at
returns-then-not-plain_at c =
    elim c.then-not-plain_at.branch [
      | then-not-plain_at-via-then-not-plain_at w ↦ number_unplain _ _ _ _ _ _ c.run_at-end.ensures (test_failed c.plain_at.ensures w.if-not-plain_at.true)
      | then-not-plain_at-via-else-not-plain_at+then-not-field_ends w ↦
          number_unended _ _ _ _ _ _ c.run_at-end.ensures (test_passed c.plain_at.ensures w.if-not-plain_at.false) (test_failed w.field_ends.ensures w.if-not-field_ends.true)
    ]

pub returns-then-from-value : goal.returns-then-from-value
returns-then-from-value c =
    let p = test_passed c.plain_at.ensures c.if-not-plain_at.false in
    let f = test_passed c.field_ends.ensures c.if-not-field_ends.false in
    elim c.then-from-value.branch [
      | then-from-value-via-then-from-value w ↦ number_high _ _ _ _ _ _ c.run_at-end.ensures p f (omega arith)
      | then-from-value-via-else-from-value+then-value-from w ↦ number_low _ _ _ _ _ _ c.run_at-end.ensures p f (omega arith) (omega arith)
    ]

pub returns : goal.returns
returns c = number_value _ _ _ _ _ _ c.run_at-end.ensures (test_passed c.plain_at.ensures c.if-not-plain_at.false) (test_passed c.field_ends.ensures c.if-not-field_ends.false) (omega arith) (omega arith)
