use native.Mathlib.Omega.{arith}
use Rattle.text.proofs.Putting.{wrote_none}
use Rattle.kinds.proofs.Bits.{bit_yes, bit_no}
use Rattle.scribe.proofs.Puts.{state_some, state_none, wrote_as}
use Rattle.scribe.proofs.lines.put_state.Goals as goal

pub returns-then-accepting-q-eq1 : goal.returns-then-accepting-q-eq1
returns-then-accepting-q-eq1 c = wrote_as (state_some _ _ (bit_yes _ _ c.if-accepting-q-eq1.true)) c.put_final.ensures

pub returns : goal.returns
returns c = wrote_as (state_none _ _ (bit_no _ _ c.if-accepting-q-eq1.false)) (wrote_none _ _ (omega arith))
