use lib.ListN.{drop}
use Rattle.rules.specs.Checks.{rules_in}
use Rattle.text.specs.Lines.{lines}
use Rattle.text.proofs.Putting.{wrote_is}
use Rattle.job.specs.Output.{job_line}
use Rattle.job.proofs.Planning.{right_size, ready_for, carried_wrong, carried_all}
use Rattle.job.proofs.plan.carry_out.Goals as goal

pub asked_for-requires : goal.asked_for-requires
asked_for-requires c = let p = c.requires in (p.1, p.2, (right_size _ _ _ _ _ _ p.0).few_values, p.3)

pub show-requires : goal.show-requires
show-requires c = let p = c.requires in ready_for c.args.rules.now p.0 p.1 p.2 c.in-Ok.ensures.2

pub returns-in-Err : goal.returns-in-Err
unfolding job_line
returns-in-Err c = let a = c.args in
    wrote_is _ _ _ _ _ _ (carried_wrong (rules_in a.rules.now) a.rules.now.size.start.0 a.days (lines (drop a.from a.text.now)) _ c.in-Err.ensures) c.put_line.ensures

pub returns-in-Ok : goal.returns-in-Ok
returns-in-Ok c = let a = c.args in
    let k = c.in-Ok.ensures in
    wrote_is _ _ _ _ _ _ (carried_all (rules_in a.rules.now) a.rules.now.size.start.0 a.days (lines (drop a.from a.text.now)) k.0 k.1 k.2) c.show.ensures
