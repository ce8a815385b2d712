use native.Mathlib.Omega.{arith}
use Rattle.scribe.specs.Inner.{row_text}
use Rattle.scribe.proofs.Puts.{listed_start, listed_turn, listed_all}
use Rattle.scribe.proofs.lines.put_row.Goals as goal

pub loop-v-init : goal.loop-v-init
loop-v-init c = listed_start _ _ _ (omega arith)

pub loop-v-preserved : goal.loop-v-preserved
loop-v-preserved c = listed_turn _ _ _ _ _ _ _ _ (omega arith) c.loop-v.invariant c.put_place-next.ensures

pub returns : goal.returns
unfolding row_text
returns c = listed_all _ _ _ _ _ _ _ (omega arith) c.loop-v.invariant
