use Rattle.rooms.specs.Tables.{turned, rooms_by}
use Rattle.rooms.proofs.Raising.{Going}
use Rattle.rooms.proofs.backward.fill_row.Given as goal

abbrev pub invariant-loop-fourth : goal.invariant-loop-fourth
invariant-loop-fourth l = Going (turned l.targets l.costs) (rooms_by l.needs) l.states l.first l.initial.left.0 l.left.0 l.initial.row l.row

abbrev pub decreases-loop-fourth : goal.decreases-loop-fourth
decreases-loop-fourth l = l.left.0
