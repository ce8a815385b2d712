use native.Mathlib.Omega.{arith}
use Rattle.rooms.proofs.backward.rise_from.Goals as goal

pub returns : goal.returns
returns c = omega (arith, c.saturating_sub.ensures, c.requires.2.low c.roomy-q.result (omega (arith, c.roomy-q.ensures)))
