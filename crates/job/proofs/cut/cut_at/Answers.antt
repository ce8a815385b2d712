use Rattle.job.proofs.Parts.{left_all, left_here, left_more, left_none, not_both}
use Rattle.job.proofs.cut.cut_at.Goals as goal

pub loop-i-init : goal.loop-i-init
loop-i-init c = left_all _

pub loop-i-preserved : goal.loop-i-preserved
loop-i-preserved c = left_more _ _ _ c.loop-i.invariant c.loop-i-test.true _ _ c.sort_of.ensures c.eq-feed.ensures (not_both c.else-start.either)

pub returns : goal.returns
returns c = left_none _ _ _ c.loop-i.invariant c.loop-i-test.false

pub returns-then-feed : goal.returns-then-feed
returns-then-feed c = left_here _ _ _ c.loop-i.invariant c.loop-i-test.true _ _ c.sort_of.ensures c.eq-feed.ensures (rw (c.if-start.true, c.if-feed.true))
