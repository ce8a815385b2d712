use Rattle.session.proofs.Backs.{newest_is}
use Rattle.session.proofs.entries.newest_mark.Goals as goal

pub returns : goal.returns
returns c = newest_is _ _ c.mark_at.ensures
