use Rattle.job.proofs.Parts.{Left}
use Rattle.job.proofs.cut.cut_at.Given as goal

abbrev pub invariant-loop-i : goal.invariant-loop-i
invariant-loop-i l = Left l.input l.i l.start
