use Rattle.reach.proofs.Sweeping.{joins_here}
use native.Mathlib.Omega.{arith}
use Rattle.reach.proofs.forward.supported.Goals as goal

pub joins_at-requires : goal.joins_at-requires
joins_at-requires c = let p = c.requires in
    (omega arith, p.2, omega arith, p.1, p.4.low _ (omega arith), p.6)

pub returns-then-joins_at : goal.returns-then-joins_at
returns-then-joins_at c = (joins_here _ _ _ _ _ _ (omega arith) c.joins_at.ensures c.if-joins_at.true, c.requires.5)
