use Rattle.reedgosling.proofs.reedgosling_pattern_job.Goals as goal

pub returns : goal.returns
returns c = c.pattern_job.ensures
