use Rattle.compositor.proofs.Steps.{union_none, union_more}
use Rattle.compositor.proofs.states.Automaton.union_of.Goals as goal

pub loop-i-init : goal.loop-i-init
loop-i-init c = union_none _ _

pub loop-i-preserved : goal.loop-i-preserved
loop-i-preserved c = union_more _ _ _ _ _ c.pick-set.ensures c.loop-i.invariant
