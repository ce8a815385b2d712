use native.Mathlib.Omega.{arith}
use lib.ListN.{length-set}
use Rattle.rooms.proofs.Falling.{wiped_none, wiped_more, wiped_end}
use Rattle.rooms.proofs.rows.wipe.Goals as goal

pub loop-at-init : goal.loop-at-init
loop-at-init c = (omega arith, omega arith, wiped_none _ _)

pub bounds-table-other : goal.bounds-table-other
bounds-table-other c = simp length-set (omega arith)

pub loop-at-preserved : goal.loop-at-preserved
loop-at-preserved c = (c.loop-at.invariant.0, c.loop-at.invariant.1, wiped_more (omega arith) (omega arith) c.loop-at.invariant.2)

pub returns : goal.returns
returns c = wiped_end c.args.table.now (omega arith) (omega arith) c.loop-at.auto.table c.loop-at.invariant.2
