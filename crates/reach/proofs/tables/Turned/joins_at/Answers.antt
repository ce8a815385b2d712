use Rattle.reach.proofs.tables.Turned.joins_at.Goals as goal

pub returns : goal.returns
returns c = rw c.from.ensures at c.leads_on.ensures
