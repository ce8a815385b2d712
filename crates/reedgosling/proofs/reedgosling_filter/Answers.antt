use Rattle.reedgosling.proofs.Given.{written}
use Rattle.reedgosling.proofs.reedgosling_filter.Goals as goal

pub returns : goal.returns
returns c =
    rw (c.from.ensures, c.number_of.ensures, c.unwrap_or.ensures, written c.filter-verdict.result, ← c.rule_set-rules.ensures c.args.places)
    c.filter-verdict.ensures
