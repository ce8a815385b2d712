use Rattle.session.proofs.Calls.{decide_full, decide_adds, push_ready, decide_goes}
use Rattle.session.proofs.asks.decide.Goals as goal

pub returns-then-memory-front-ge-MOST_DECISIONS : goal.returns-then-memory-front-ge-MOST_DECISIONS
returns-then-memory-front-ge-MOST_DECISIONS c = let p = c.requires in decide_full _ _ _ p.0 _ _ _ p.1 p.2 c.if-memory-front-ge-MOST_DECISIONS.true

pub push-requires : goal.push-requires
push-requires c = let p = c.requires in push_ready _ _ _ p.0 _ _ _ (decide_adds _ _ _ p.0 _ _ _ p.1 p.2 c.if-memory-front-ge-MOST_DECISIONS.false)

pub returns : goal.returns
returns c = let p = c.requires in decide_goes _ c.args.memory.now _ p.0 _ _ _ p.1 p.2 c.if-memory-front-ge-MOST_DECISIONS.false _ c.push.ensures _ c.renew.ensures
