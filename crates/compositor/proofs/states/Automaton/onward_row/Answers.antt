use native.Mathlib.Omega.{arith}
use mathlib.Core.Path.{refl, ◌∙◌}
use lib.ListN.{length-set}
use Rattle.compositor.proofs.Steps.{row_none, row_more, next_is}
use Rattle.compositor.proofs.states.Automaton.onward_row.Goals as goal

pub loop-v-init : goal.loop-v-init
loop-v-init c = (refl, row_none _ _)

pub loop-v-preserved : goal.loop-v-preserved
loop-v-preserved c =
    (length-set c.loop-v.row c.loop-v.v _ ∙ c.loop-v.invariant.0, row_more _ _ _ _ _ (omega (arith, c.loop-v.invariant.0)) (next_is _ _ _ _ _ _ c.set_of-set.ensures) c.loop-v.invariant.1)
