use Rattle.drafter.proofs.Making.{line_none, split_fed, split_whole}
use Rattle.drafter.proofs.line_of.Goals as goal

pub returns-then-last-eq10 : goal.returns-then-last-eq10
returns-then-last-eq10 c = split_fed c.args.input.now c.in-Some.last.now c.in-Some.line.now c.in-Some.ensures.cases.0 c.if-last-eq10.true

pub returns-else-last-eq10 : goal.returns-else-last-eq10
returns-else-last-eq10 c = split_whole c.args.input.now c.in-Some.last.now c.in-Some.line.now c.in-Some.ensures.cases.0 c.if-last-eq10.false

pub returns-in_default : goal.returns-in_default
returns-in_default c = line_none _ c.in_default.ensures.cases
