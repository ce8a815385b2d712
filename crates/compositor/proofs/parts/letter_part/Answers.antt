use native.Mathlib.Omega.{arith}
use mathlib.Core.Path.{refl}
use Rattle.compositor.proofs.Joining.{letter_is}
use Rattle.compositor.proofs.parts.letter_part.Goals as goal

pub returns : goal.returns
returns c = letter_is _ _ _ (omega arith) refl
