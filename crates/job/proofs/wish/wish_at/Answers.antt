use Rattle.job.proofs.Wishing.{wish_missing, wish_wrong, wish_last}
use native.Mathlib.Omega.{arith}
use Rattle.job.proofs.wish.wish_at.Goals as goal

pub returns-then-text-at : goal.returns-then-text-at
returns-then-text-at c = wish_missing _ _ _ _ _ c.if-text-at.true

pub last_line-requires : goal.last_line-requires
last_line-requires c = let l = c.line_end-end.ensures.inside (omega arith) in (l.high, omega (arith, c.requires.1))

pub returns-in_default : goal.returns-in_default
returns-in_default c = wish_wrong _ _ _ _ _ _ (c.line_end-end.ensures.inside (omega arith)) _ c.in_default.ensures

pub returns : goal.returns
returns c = wish_last _ _ _ _ _ _ (c.line_end-end.ensures.inside (omega arith)) _ _ c.in-Ok.ensures c.last_line.ensures
