use native.Mathlib.Omega.{arith}
use Rattle.session.proofs.Backs.{mark_here, mark_past, mark_none}
use Rattle.session.proofs.entries.mark_at.Goals as goal

pub returns-then-is_mark : goal.returns-then-is_mark
returns-then-is_mark c = mark_here _ c.loop-i.i _ c.args.rows.now (omega arith) c.loop-i.invariant _ c.is_mark.ensures c.if-is_mark.true

pub loop-i-preserved : goal.loop-i-preserved
loop-i-preserved c = mark_past _ c.loop-i.i _ c.args.rows.now (omega arith) c.loop-i.invariant _ c.is_mark.ensures c.if-is_mark.false

pub returns : goal.returns
returns c = mark_none _ c.loop-i.i _ c.loop-i.invariant (omega arith)
