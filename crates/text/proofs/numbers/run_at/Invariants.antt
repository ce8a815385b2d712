use Rattle.text.proofs.Scans.{Running}
use Rattle.text.proofs.numbers.run_at.Given as goal

abbrev pub invariant-loop-i : goal.invariant-loop-i
invariant-loop-i l = Running l.line l.at l.most l.i l.value
