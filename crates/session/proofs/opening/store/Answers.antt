use Rattle.session.proofs.Openings.{store_is}
use Rattle.session.proofs.opening.store.Goals as goal

pub returns : goal.returns
returns c = store_is c.args.places c.args.masks.now c.args.limits.now c.args.to.now _ c.requires.0 c.requires.1 c.requires.2 c.widen.ensures _ c.copy.ensures
