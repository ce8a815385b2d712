use native.Mathlib.Omega.{arith}
use mathlib.Core.Path.{ap₂, ◌∙◌}
use lib.ListN.{length-take, length-drop}
use Rattle.ledger.specs.Sessions.{opening}
use Rattle.ledger.specs.Memory.{opening_at}
use Rattle.ledger.proofs.Numbers.{tail_is}
use Rattle.machine.proofs.Copies.{copied_is}
use Rattle.machine.proofs.replay.restore.Goals as goal

pub returns : goal.returns
unfolding opening_at
returns c = ap₂ opening c.narrow.ensures (c.copy.ensures ∙ copied_is _ _ (simp (length-take, length-drop) (omega arith)) ∙ tail_is c.args.places c.args.held.now)
