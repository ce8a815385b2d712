use Rattle.meaning.specs.Bounds.{top}
use Rattle.ranks.proofs.Looking.{lowest_none, lowest_more}
use Rattle.std.proofs.Common.{◌≡◌, arith}
use Rattle.ranks.proofs.pull.lowest.Goals as goal

pub loop-k-init : goal.loop-k-init
unfolding top
loop-k-init c = lowest_none _

pub loop-k-preserved : goal.loop-k-preserved
loop-k-preserved c = rw c.min-least.ensures (lowest_more c.loop-k.invariant)

pub returns : goal.returns
returns c = let l = c.loop-k in
    let e : l.k ≡ c.args.count = omega arith in rw e at l.invariant
