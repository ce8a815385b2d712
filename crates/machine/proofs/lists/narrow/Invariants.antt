use Rattle.machine.proofs.Copies.{Copying}
use Rattle.machine.proofs.lists.narrow.Given as goal

abbrev pub invariant-loop-i : goal.invariant-loop-i
invariant-loop-i l = Copying l.from l.initial.to l.i l.to
