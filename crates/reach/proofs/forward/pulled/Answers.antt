use mathlib.Core.Path.{refl}
use native.Mathlib.Omega.{arith}
use Rattle.rules.proofs.Checks.{test_passed}
use Rattle.rooms.proofs.Filling.{blanked_filled}
use Rattle.reach.proofs.Pulling.{blank_filled, pulled_not, pulled_is}
use Rattle.reach.proofs.forward.pulled.Goals as goal

pub returns-then-not-serves : goal.returns-then-not-serves
returns-then-not-serves c = pulled_not c.requires.5

pub returns-then-settled : goal.returns-then-settled
returns-then-settled c = let p = c.requires in
    pulled_is p.0 p.1 p.2 p.3 p.4 c.serves.ensures (test_passed refl c.if-not-serves.false) c.pull-low.ensures c.settled.ensures c.if-settled.true

pub returns : goal.returns
returns c = pulled_not (blank_filled (blanked_filled _ _ (omega arith) c.blank.ensures))
