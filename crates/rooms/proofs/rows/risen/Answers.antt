use native.Mathlib.Omega.{arith}
use mathlib.Core.Path.{◌∙◌}
use Rattle.meaning.specs.Bounds.{top}
use Rattle.rooms.proofs.Filling.{matches_none, matches_more, matches_end, matches_not, low_fits}
use Rattle.rooms.proofs.rows.risen.Goals as goal

pub loop-j-init : goal.loop-j-init
loop-j-init c = matches_none _ _

pub overflow_add-from : goal.overflow_add-from
overflow_add-from c = omega (arith, low_fits (c.requires.3.low c.loop-j.j (omega arith)) c.requires.2)

pub returns-then-row-j : goal.returns-then-row-j
returns-then-row-j c = matches_not _ _ _

pub loop-j-preserved : goal.loop-j-preserved
unfolding top
loop-j-preserved c = matches_more c.loop-j.invariant (c.if-row-j.false ∙ c.min.ensures)

pub returns : goal.returns
returns c = matches_end (omega arith) (omega arith) c.loop-j.invariant
