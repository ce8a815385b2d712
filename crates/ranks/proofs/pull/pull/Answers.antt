use Rattle.std.proofs.Common.{arith, length-drop, length-take}
use Rattle.std.proofs.lemmas.Grind.{common_steps}
use Rattle.ranks.proofs.Looking.{pulled_none, pulled_more, pulls, pulls_not}
use Rattle.ranks.proofs.pull.pull.Goals as goal

pub returns-then-states-gt-MOST_STATES : goal.returns-then-states-gt-MOST_STATES
returns-then-states-gt-MOST_STATES c = pulls_not _ _ _ _ (λ a b d e. grind (arith, common_steps))

pub loop-q-init : goal.loop-q-init
loop-q-init c = pulled_none _ _ _ _

pub along-requires : goal.along-requires
along-requires c = (simp (length-take, length-drop) (omega arith), c.lowest-low.ensures.few, omega arith)

pub loop-q-preserved : goal.loop-q-preserved
loop-q-preserved c = pulled_more (omega arith) (omega arith) c.lowest-low.ensures c.along.ensures c.loop-q.invariant

pub returns : goal.returns
returns c = pulls (omega arith) (omega arith) c.lowest-low.ensures c.loop-q.invariant
