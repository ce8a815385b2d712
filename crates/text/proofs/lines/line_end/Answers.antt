use native.Mathlib.Omega.{arith}
use mathlib.Core.Path.{◌≡◌, sym}
use Prim.Native.Nat.{ℕ, ◌≤◌}
use lib.ListN.{get_or}
use borrow.Author.Count.{below_more}
use Rattle.text.specs.Bytes.{feed}
use Rattle.text.proofs.Scans.{feed_sort, sort_feed, sort_same, sort_other}
use Rattle.text.proofs.Cutting.{line_feed_at, line_feed_none}
use Rattle.text.proofs.lines.line_end.Goals as goal

pub returns-then-eq : goal.returns-then-eq
returns-then-eq c = record {
  inside = λ _. line_feed_at _ _ _ (omega arith) (omega arith) c.loop-i.invariant (feed_sort _ (sort_same _ _ _ _ c.sort_of.ensures c.eq.ensures c.if-eq.true));
  past_end = λ h. absurd (omega arith);
}

pub loop-i-preserved : goal.loop-i-preserved
loop-i-preserved c = λ k x y. below_more (λ (j : ℕ). c.args.at ≤ j → get_or c.args.text.now j 0 ≡ feed → ⊥) c.loop-i.i (λ j h g. c.loop-i.invariant j g h)
    (λ _ e. sort_other _ _ _ _ c.sort_of.ensures c.eq.ensures c.if-eq.false (sym (sort_feed _ e))) k y x

pub returns : goal.returns
returns c = record { inside = λ h. line_feed_none _ _ _ h (omega arith) (λ k x y. c.loop-i.invariant k x (omega arith)); past_end = λ h. omega arith }
