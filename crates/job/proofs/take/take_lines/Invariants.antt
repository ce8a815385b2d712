use lib.ListN.{length, drop}
use Rattle.text.specs.Lines.{lines}
use Rattle.job.specs.Input.{most_lines, read_decisions}
use Rattle.job.proofs.Taking.{Going}
use Rattle.job.proofs.take.take_lines.Given as goal

abbrev pub invariant-loop-number : goal.invariant-loop-number
invariant-loop-number l = Going l.text l.values l.initial.masks l.initial.limits (read_decisions (length l.initial.masks) l.values 2 most_lines (lines (drop l.from l.text))) l.masks l.limits l.at l.number
