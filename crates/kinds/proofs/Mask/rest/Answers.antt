use native.Mathlib.Omega.{arith}
use Rattle.kinds.proofs.Lowest.{rest_is, rest_none}
use Rattle.kinds.proofs.Mask.rest.Goals as goal

pub returns-then-self : goal.returns-then-self
returns-then-self c = rest_none _ (omega arith)

pub returns : goal.returns
returns c = rest_is _ (λ e. omega arith) (omega arith)
