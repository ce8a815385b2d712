use Rattle.reedgosling.proofs.Given.{written}
use Rattle.reedgosling.proofs.reedgosling_mend.Goals as goal

pub returns : goal.returns
returns c =
    rw (c.from.ensures, c.number_of.ensures, c.unwrap_or.ensures, written c.mend-mended.result, ← c.rule_set-rules.ensures c.args.places)
    c.mend-mended.ensures
