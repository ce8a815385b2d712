use native.Mathlib.Omega.{arith}
use Rattle.text.proofs.Putting.{wrote_none}
use Rattle.scribe.proofs.Puts.{arc_some, arc_none, wrote_as}
use Rattle.scribe.proofs.lines.put_place.Goals as goal

pub returns-then-rules-from : goal.returns-then-rules-from
returns-then-rules-from c = wrote_as (arc_none _ _ _ _ c.arc_at-i.ensures (omega arith)) (wrote_none _ _ (omega arith))

pub returns : goal.returns
returns c = wrote_as (arc_some _ _ _ _ c.arc_at-i.ensures (omega arith)) c.put_arc.ensures
