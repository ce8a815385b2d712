use Rattle.reedgosling.proofs.reedgosling_mend_job.Goals as goal

pub returns : goal.returns
returns c = c.mend_job.ensures
