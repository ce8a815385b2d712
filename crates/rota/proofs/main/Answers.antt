use native.Mathlib.Omega.{arith}
use Rattle.job.proofs.Shortness.{job_fits}
use Rattle.rota.proofs.main.Goals as goal

pub invariant_of-work-clause-fits : goal.invariant_of-work-clause-fits
invariant_of-work-clause-fits c x y r z l p = omega (arith, job_fits _ _ _ _ p)
