use native.Mathlib.Omega.{arith}
use Rattle.text.proofs.Putting.{wrote_more}
use Rattle.text.proofs.puts.put_word.Goals as goal

pub loop-b-preserved : goal.loop-b-preserved
loop-b-preserved c = wrote_more _ (omega arith) _ _ _ _ _ _ _ c.loop-b-test.true c.loop-b.invariant c.put_byte-next.ensures
