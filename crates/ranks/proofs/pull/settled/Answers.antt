use Rattle.std.proofs.Common.{refl, arith}
use Rattle.std.proofs.lemmas.Grind.{common_steps}
use Rattle.ranks.proofs.Looking.{settled_none, settled_not, settled_fails, settled_more, settled_end}
use Rattle.ranks.proofs.pull.settled.Goals as goal

pub returns-then-rests-states : goal.returns-then-rests-states
returns-then-rests-states c = settled_not (λ a b. grind (arith, common_steps))

pub loop-q-init : goal.loop-q-init
loop-q-init c = settled_none _ _ _

pub returns-then-low-rests : goal.returns-then-low-rests
returns-then-low-rests c = settled_fails _ _ c.loop-q-test.true refl c.if-low-rests.true

pub loop-q-preserved : goal.loop-q-preserved
loop-q-preserved c = settled_more _ refl c.if-low-rests.false c.loop-q.invariant

pub returns : goal.returns
returns c = settled_end (omega arith) (omega arith) c.loop-q.invariant
