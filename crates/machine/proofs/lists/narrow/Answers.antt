use borrow.Author.Rules.{rules}
use native.Mathlib.Omega.{arith}
use mathlib.Core.Path.{refl}
use Rattle.ledger.proofs.Numbers.{below_at}
use Rattle.machine.proofs.Copies.{copy_none, copy_more}
use Rattle.machine.proofs.lists.narrow.Goals as goal

pub loop-i-init : goal.loop-i-init
loop-i-init c = copy_none _ _

pub overflow_cast-to : goal.overflow_cast-to
overflow_cast-to c = let h = below_at _ _ c.requires.1 c.loop-i.i (omega arith) in search rules

pub loop-i-preserved : goal.loop-i-preserved
loop-i-preserved c = copy_more _ _ _ _ _ c.loop-i.invariant (omega arith) (omega arith) refl
