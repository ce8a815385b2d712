use Prim.Native.Nat.{◌-◌}
use mathlib.Core.Path.{sym}
use lib.Bits.{and_le_r}
use Rattle.reach.proofs.Sweeping.{joins_here}
use Rattle.reach.proofs.Living.{looked_none, looked_few, looked_more, looked_end}
use native.Mathlib.Omega.{arith}
use Rattle.reach.proofs.forward.support.Goals as goal

pub loop-left-init : goal.loop-left-init
loop-left-init c = (omega arith, looked_none _ _ _ _ _ _ c.requires.4)

pub overflow_cast-q : goal.overflow_cast-q
overflow_cast-q c = omega (arith, looked_few _ _ _ _ _ c.loop-left.invariant.1 (omega arith) (omega arith))

pub joins_at-requires : goal.joins_at-requires
joins_at-requires c = let p = c.requires in
    let h = looked_few _ _ _ _ _ c.loop-left.invariant.1 (omega arith) (omega arith) in
    (omega arith, p.2, omega arith, p.1, p.3.low _ h, p.5)

pub returns-then-joins_at : goal.returns-then-joins_at
returns-then-joins_at c = let h = looked_few _ _ _ _ _ c.loop-left.invariant.1 (omega arith) (omega arith) in
    joins_here _ _ _ _ _ _ h c.joins_at.ensures c.if-joins_at.true

pub loop-left-smaller : goal.loop-left-smaller
loop-left-smaller c = omega (arith, and_le_r c.loop-left.left (c.loop-left.left - 1))

pub loop-left-preserved : goal.loop-left-preserved
loop-left-preserved c = (
  omega (arith, and_le_r c.loop-left.left (c.loop-left.left - 1)),
  looked_more _ _ _ _ _ _ c.loop-left.invariant.1 (omega arith) (omega arith) c.joins_at.ensures c.if-joins_at.false,
)

pub returns : goal.returns
returns c =
    sym (looked_end _ _ _ _ _ {left = c.loop-left.left} (omega arith) c.loop-left.invariant.1)
