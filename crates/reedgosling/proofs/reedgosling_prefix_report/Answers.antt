use Rattle.reedgosling.proofs.Given.{written}
use Rattle.reedgosling.proofs.reedgosling_prefix_report.Goals as goal

pub returns : goal.returns
returns c =
    rw (c.from.ensures, c.number_of.ensures, c.unwrap_or.ensures, written c.prefix_report-reported.result, ← c.rule_set-rules.ensures c.args.places)
    c.prefix_report-reported.ensures
