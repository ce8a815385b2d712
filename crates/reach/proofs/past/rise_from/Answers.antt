use native.Mathlib.Omega.{arith}
use Rattle.reach.proofs.past.rise_from.Goals as goal

pub returns-in-Some : goal.returns-in-Some
returns-in-Some c = omega (arith, c.requires.4.low c.in-Some.q (omega arith))
