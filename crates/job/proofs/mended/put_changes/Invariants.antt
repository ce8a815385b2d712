use lib.ListN.{take}
use Rattle.text.specs.Writing.{Wrote}
use Rattle.job.specs.Mend.{change_lines}
use Rattle.job.proofs.mended.put_changes.Given as goal

abbrev pub invariant-loop-i : goal.invariant-loop-i
invariant-loop-i l = Wrote l.initial.output l.at (change_lines 0 (take l.i l.drawn) (take l.i l.roster)) l.output l.next
