use Rattle.numbering.specs.Numbering.{target_of}
use Rattle.compositor.proofs.Filling.{Putting}
use Rattle.compositor.proofs.fill.put_row.Given as goal

abbrev pub invariant-loop-i : goal.invariant-loop-i
invariant-loop-i l = Putting (target_of l.met) l.row l.initial.targets l.at l.i l.targets
