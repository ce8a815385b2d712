use Rattle.reedgosling.proofs.reedgosling_job.Goals as goal

pub returns : goal.returns
returns c = c.job.ensures
