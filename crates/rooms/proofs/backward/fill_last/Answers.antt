use Rattle.rooms.proofs.Layering.{laid_settled}
use Rattle.rooms.proofs.backward.fill_last.Goals as goal

pub returns : goal.returns
returns c = laid_settled _ _ _ c.requires.0 c.requires.2 c.ends.auto.row c.ends.ensures c.settle.auto.row c.settle.ensures
