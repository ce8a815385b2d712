use mathlib.Core.Path.{ap}
use Rattle.rules.specs.Checks.{Handed}
use Rattle.reedgosling.proofs.Given.{written}
use Rattle.reedgosling.proofs.reedgosling_write_sheet.Goals as goal

pub returns : goal.returns
returns c =
    let e = c.rule_set-rules.ensures 0 in
    rw (c.from.ensures, c.number_of.ensures, c.unwrap_or.ensures, written c.write_sheet-written.result, ← ap (λ (h : Handed). h.rules) e, ← ap (λ (h : Handed). h.start) e)
    c.write_sheet-written.ensures
