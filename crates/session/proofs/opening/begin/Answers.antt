use borrow.Author.Rules.{rules}
use Rattle.ledger.specs.Sessions.{opening}
use Rattle.session.proofs.Openings.{begin_is}
use Rattle.session.proofs.opening.begin.Goals as goal

pub returns : goal.returns
returns c = rw c.from.ensures (begin_is c.args.places c.args.size.states c.args.size.values c.args.size.start.0 (opening c.args.masks.now c.args.limits.now) c.args.held.now c.fill.new.self _ c.requires.5 (search rules) c.store.ensures)
