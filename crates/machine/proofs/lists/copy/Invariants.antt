use Rattle.machine.proofs.Copies.{Copying}
use Rattle.machine.proofs.lists.copy.Given as goal

abbrev pub invariant-loop-k : goal.invariant-loop-k
invariant-loop-k l = Copying l.from l.initial.to l.k l.to
