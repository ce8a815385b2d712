use Rattle.rooms.proofs.Rooms.{least_first, least_later}
use Rattle.rooms.proofs.backward.least_at.Goals as goal

pub returns-then-i-eq0 : goal.returns-then-i-eq0
returns-then-i-eq0 c = least_first _ _ c.if-i-eq0.true

pub returns : goal.returns
returns c = least_later _ _ _ c.if-i-eq0.false c.saturating_sub.ensures
