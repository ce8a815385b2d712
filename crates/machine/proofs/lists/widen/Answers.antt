use native.Mathlib.Omega.{arith}
use mathlib.Core.Path.{sym, ◌∙◌}
use Rattle.machine.proofs.Copies.{copy_none, copy_more, copy_done, copied_not, copied_is}
use Rattle.machine.proofs.lists.widen.Goals as goal

pub returns-then-to-from : goal.returns-then-to-from
returns-then-to-from c = copied_not _ _ c.if-to-from.true

pub loop-j-init : goal.loop-j-init
loop-j-init c = copy_none _ _

pub loop-j-preserved : goal.loop-j-preserved
loop-j-preserved c = copy_more _ _ _ _ _ c.loop-j.invariant (omega arith) (omega arith) c.from.ensures

pub returns : goal.returns
returns c = copy_done _ _ _ _ c.loop-j.invariant (omega arith) (omega arith) ∙ sym (copied_is _ _ c.if-to-from.false)
