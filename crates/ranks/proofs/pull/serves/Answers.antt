use borrow.Author.Tests.{ne_eqb}
use Rattle.ranks.proofs.Looking.{served_not, served_is}
use Rattle.ranks.proofs.pull.serves.Goals as goal

pub returns-then-arcs-eq-TABLE_SIZE : goal.returns-then-arcs-eq-TABLE_SIZE
returns-then-arcs-eq-TABLE_SIZE c = rw c.eq.ensures (served_is c.if-arcs-eq-TABLE_SIZE.true c.full.ensures)

pub returns-else-arcs-eq-TABLE_SIZE : goal.returns-else-arcs-eq-TABLE_SIZE
returns-else-arcs-eq-TABLE_SIZE c = let not = c.if-arcs-eq-TABLE_SIZE.false in rw (ne_eqb _ _ not) (served_not not)
