use Rattle.compositor.proofs.Noting.{Noting}
use Rattle.compositor.proofs.letters.note_letters.Given as goal

abbrev pub invariant-loop-b : goal.invariant-loop-b
invariant-loop-b l = Noting l.values l.line l.b-index l.count l.marks
