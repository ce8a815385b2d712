use mathlib.Core.Path.{◌≡◌}
use Rattle.meaning.specs.Meaning.{places, decides}
use Rattle.ledger.specs.Sessions.{standing}
use Rattle.ledger.specs.Memory.{entries_at}
use Rattle.machine.proofs.replay.replay.Given as goal

abbrev pub invariant-loop-i : goal.invariant-loop-i
invariant-loop-i l = places l.masks l.limits ≡ decides (places l.initial.masks l.initial.limits) (standing (entries_at l.i l.rows))
