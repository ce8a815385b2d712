use Rattle.reedgosling.proofs.reedgosling_first_roster.Goals as goal

pub returns : goal.returns
returns c = rw (c.from.ensures, c.number_of.ensures, ← c.rule_set-rules.ensures c.args.places) c.first_roster-found.ensures
