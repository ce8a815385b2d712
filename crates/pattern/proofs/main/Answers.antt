use native.Mathlib.Omega.{arith}
use Rattle.drafter.proofs.Drafts.{pattern_job_fits}
use Rattle.pattern.proofs.main.Goals as goal

pub invariant_of-work-clause-fits : goal.invariant_of-work-clause-fits
invariant_of-work-clause-fits c x y r z l p = omega (arith, pattern_job_fits _ _ _ _ p)
