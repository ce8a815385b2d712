use mathlib.Core.Path.{◌≡◌}
use Rattle.reach.proofs.Sweeping.{lowest_none, lowest_more}
use native.Mathlib.Omega.{arith}
use Rattle.reach.proofs.forward.cheapest.Goals as goal

pub loop-q-init : goal.loop-q-init
loop-q-init c = (omega arith, lowest_none _)

pub loop-q-preserved : goal.loop-q-preserved
loop-q-preserved c = (omega arith, lowest_more _ _ _ _ c.loop-q.invariant.1 c.min-least.ensures)

pub returns : goal.returns
returns c = let e : c.loop-q.q ≡ c.args.states = omega arith in
    rw e at c.loop-q.invariant.1
