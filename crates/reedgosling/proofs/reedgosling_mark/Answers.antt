use Rattle.reedgosling.proofs.reedgosling_mark.Goals as goal

pub returns : goal.returns
returns c = rw (c.from.ensures, c.number_of.ensures, ← c.rule_set-rules.ensures c.args.places) c.mark-done.ensures
