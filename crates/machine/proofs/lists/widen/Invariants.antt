use Rattle.machine.proofs.Copies.{Copying}
use Rattle.machine.proofs.lists.widen.Given as goal

abbrev pub invariant-loop-j : goal.invariant-loop-j
invariant-loop-j l = Copying l.from l.initial.to l.j l.to
