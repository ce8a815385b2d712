use Rattle.text.proofs.Putting.{wrote_is}
use Rattle.job.proofs.Planning.{task_is}
use Rattle.job.proofs.plan.carry_task.Goals as goal

pub returns-in-Filter : goal.returns-in-Filter
returns-in-Filter c = wrote_is _ _ _ _ _ _ (task_is c.args.task _ _ _ _ _ c.in-Filter.is) c.carry_out.ensures

pub returns-in-Mend : goal.returns-in-Mend
returns-in-Mend c = wrote_is _ _ _ _ _ _ (task_is c.args.task _ _ _ _ _ c.in-Mend.is) c.carry_mend.ensures
