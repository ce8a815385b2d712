use native.Mathlib.Omega.{arith}
use mathlib.Core.Path.{◌∙◌}
use Rattle.rooms.proofs.Filling.{matches_none, matches_more, matches_end, matches_not}
use Rattle.reach.proofs.past.risen.Goals as goal

pub loop-k-init : goal.loop-k-init
loop-k-init c = (omega arith, matches_none _ _)

pub raised-requires : goal.raised-requires
raised-requires c = (c.requires.3.low c.loop-k.k (omega arith), c.requires.2)

pub returns-then-row-k : goal.returns-then-row-k
returns-then-row-k c = matches_not _ _ _

pub loop-k-preserved : goal.loop-k-preserved
loop-k-preserved c = (omega arith, matches_more c.loop-k.invariant.1 (c.if-row-k.false ∙ c.raised.ensures))

pub returns : goal.returns
returns c = matches_end c.loop-k.invariant.0 c.loop-k-test.false c.loop-k.invariant.1
