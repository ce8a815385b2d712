use Rattle.rooms.specs.Tables.{turned, numbers_of}
use Rattle.rooms.proofs.Raising.{lessens}
use Rattle.rooms.proofs.backward.lessen_by.Goals as goal

pub returns-then-first : goal.returns-then-first
returns-then-first g c = let a = c.args in rw c.if-first.true (lessens (turned a.targets.now a.costs.now) a.needs.now a.states (numbers_of a.values.now) c.lessen.ensures)

pub returns-else-first : goal.returns-else-first
returns-else-first g c = let a = c.args in rw c.if-first.false (lessens (turned a.targets.now a.costs.now) a.needs.now a.states (numbers_of a.values.now) c.lessen-else-first.ensures)
