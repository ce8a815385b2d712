use mathlib.Core.Path.{◌∙◌}
use Rattle.rules.specs.Checks.{rules_in}
use Rattle.text.proofs.Putting.{wrote_is}
use Rattle.job.specs.Output.{job_line}
use Rattle.job.specs.Inner.{program}
use Rattle.job.proofs.Planning.{days_is, days_range, job_empty, job_wrong, job_right}
use native.Mathlib.Omega.{arith}
use Rattle.job.proofs.plan.plan.Goals as goal

pub carry_task-requires : goal.carry_task-requires
carry_task-requires c = let d = days_range _ _ (c.in-Ok.ensures ∙ days_is _) in (c.requires, d.0, d.1, (c.line_end-end.ensures.inside (omega arith)).high)

pub returns-then-text-eq0 : goal.returns-then-text-eq0
unfolding job_line
returns-then-text-eq0 c = let a = c.args in
    let done = program a.task (rules_in a.rules.now) a.rules.now.size.start.0 in
    wrote_is _ _ _ _ _ _ (job_empty done a.text.now (omega arith)) c.put_line.ensures

pub returns-in-Err : goal.returns-in-Err
unfolding job_line
returns-in-Err c = let a = c.args in
    let done = program a.task (rules_in a.rules.now) a.rules.now.size.start.0 in
    wrote_is _ _ _ _ _ _ (job_wrong done a.text.now _ (c.line_end-end.ensures.inside (omega arith)) _ (c.in-Err.ensures ∙ days_is _)) c.put_line-in-Err.ensures

pub returns-in-Ok : goal.returns-in-Ok
returns-in-Ok c = let a = c.args in
    let done = program a.task (rules_in a.rules.now) a.rules.now.size.start.0 in
    wrote_is _ _ _ _ _ _ (job_right done a.text.now _ (c.line_end-end.ensures.inside (omega arith)) _ (c.in-Ok.ensures ∙ days_is _)) c.carry_task.ensures
