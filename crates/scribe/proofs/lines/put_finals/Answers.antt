use native.Mathlib.Omega.{arith}
use Rattle.scribe.proofs.Puts.{listed_start, listed_turn, listed_all}
use Rattle.scribe.proofs.lines.put_finals.Goals as goal

pub loop-q-init : goal.loop-q-init
loop-q-init c = listed_start _ _ _ (omega arith)

pub loop-q-preserved : goal.loop-q-preserved
loop-q-preserved c = listed_turn _ _ _ _ _ _ _ _ (omega arith) c.loop-q.invariant c.put_state-next.ensures

pub returns : goal.returns
returns c = listed_all _ _ _ _ _ _ _ (omega arith) c.loop-q.invariant
