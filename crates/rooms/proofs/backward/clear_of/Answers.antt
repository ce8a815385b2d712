use native.Mathlib.Omega.{arith}
use Rattle.rooms.specs.Tables.{free, high}
use Rattle.rooms.proofs.Filling.{low_fits}
use borrow.Author.Tests.{leb-true}
use Rattle.rooms.proofs.backward.clear_of.Goals as goal

pub returns-then-other-eq0 : goal.returns-then-other-eq0
returns-then-other-eq0 c = λ e. free c.if-other-eq0.true

pub overflow_add-result : goal.overflow_add-result
overflow_add-result c = omega (arith, low_fits c.requires.0 c.requires.1)

pub returns-else-other-eq0 : goal.returns-else-other-eq0
returns-else-other-eq0 c = λ e. high (leb-true _ _ e)
