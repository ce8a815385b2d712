use native.Mathlib.Omega.{arith}
use mathlib.Core.Path.{refl, sym, ◌∙◌}
use Rattle.machine.proofs.Copies.{copy_none, copy_more, copy_done, copied_not, copied_is}
use Rattle.machine.proofs.lists.copy.Goals as goal

pub returns-then-to-from : goal.returns-then-to-from
returns-then-to-from c = copied_not _ _ c.if-to-from.true

pub loop-k-init : goal.loop-k-init
loop-k-init c = copy_none _ _

pub loop-k-preserved : goal.loop-k-preserved
loop-k-preserved c = copy_more _ _ _ _ _ c.loop-k.invariant (omega arith) (omega arith) refl

pub returns : goal.returns
returns c = copy_done _ _ _ _ c.loop-k.invariant (omega arith) (omega arith) ∙ sym (copied_is _ _ c.if-to-from.false)
