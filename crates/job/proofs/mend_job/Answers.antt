use Rattle.job.specs.Mend.{mend_job_text}
use Rattle.job.proofs.mend_job.Goals as goal

pub returns : goal.returns
unfolding mend_job_text
returns c = c.job_for.ensures
