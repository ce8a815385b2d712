use lib.ListN.{length}
use Rattle.job.specs.Mend.{read_drawn}
use Rattle.job.proofs.Drawing.{Drawing}
use Rattle.job.proofs.wish.drawn_line.Given as goal

abbrev pub invariant-loop-i : goal.invariant-loop-i
invariant-loop-i l = Drawing (read_drawn (length l.initial.drawn) l.values l.line) l.line l.values (length l.initial.drawn) l.drawn l.at l.i
