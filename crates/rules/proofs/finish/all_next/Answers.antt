use lib.ListN.{length-set}
use native.Mathlib.Omega.{arith}
use Rattle.meaning.proofs.Lists.{filled_more}
use Rattle.rules.proofs.finish.all_next.Goals as goal

pub loop-q-preserved : goal.loop-q-preserved
loop-q-preserved c = let l = c.loop-q.invariant in (simp length-set l.0, filled_more _ (omega arith) l.1 (grind arith))
