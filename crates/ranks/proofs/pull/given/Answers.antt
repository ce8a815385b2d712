use Rattle.std.proofs.Common.{refl}
use Rattle.ranks.proofs.pull.given.Goals as goal

pub returns : goal.returns
returns c = rw (c.end_of.ensures, c.cost_of.ensures) refl
