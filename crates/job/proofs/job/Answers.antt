use Rattle.job.specs.Job.{job_text}
use Rattle.job.proofs.job.Goals as goal

pub returns : goal.returns
unfolding job_text
returns c = c.job_for.ensures
