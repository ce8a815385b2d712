use lib.ListN.{take}
use Rattle.text.specs.Writing.{Wrote}
use Rattle.job.specs.Output.{kept_lines}
use Rattle.job.proofs.print.put_masks.Given as goal

abbrev pub invariant-loop-i : goal.invariant-loop-i
invariant-loop-i l = Wrote l.initial.output 0 (kept_lines 0 (take l.i l.kept)) l.output l.at
