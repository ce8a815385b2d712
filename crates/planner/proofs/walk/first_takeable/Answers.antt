use Rattle.planner.proofs.Walking.{tried_none, tried_more}
use Rattle.planner.proofs.walk.first_takeable.Goals as goal

pub loop-n-init : goal.loop-n-init
loop-n-init c = tried_none _ _ _ _ _ _ _ _

pub loop-n-preserved : goal.loop-n-preserved
loop-n-preserved c = tried_more _ _ _ _ _ _ _ _ _ c.loop-n.invariant c.takeable.ensures c.if-takeable.false
