use Rattle.rooms.proofs.Filling.{blanked_filled}
use Rattle.reach.proofs.Passing.{opened_is}
use native.Mathlib.Omega.{arith}
use Rattle.reach.proofs.forward.open_front.Goals as goal

pub returns : goal.returns
returns c = rw c.from.ensures (opened_is c.requires.0 (omega arith) (blanked_filled _ _ (omega arith) c.blank.ensures) c.strike.ensures)
