use Rattle.machine.proofs.Replays.{opening_long, opening_below, come}
use Rattle.machine.proofs.replay.come_to.Goals as goal

pub restore-requires : goal.restore-requires
restore-requires c = let p = c.requires in (opening_long _ _ p.0, p.1, p.2, opening_below _ _ p.0)

pub returns : goal.returns
returns c = come _ _ c.requires.0 _ _ _ c.restore.ensures c.replay.ensures
