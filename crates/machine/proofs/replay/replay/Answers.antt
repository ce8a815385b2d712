use Rattle.ledger.specs.Memory.{entry_at}
use Rattle.machine.proofs.Replays.{replay_none, replay_more}
use Rattle.machine.proofs.replay.replay.Goals as goal

pub loop-i-init : goal.loop-i-init
loop-i-init c = replay_none _ _

pub loop-i-preserved : goal.loop-i-preserved
unfolding entry_at
loop-i-preserved c = replay_more _ _ c.loop-i.i _ _ c.loop-i.invariant (rw (c.at.ensures.kind, c.at.ensures.place, c.at.ensures.amount) at c.apply.ensures)
