use native.Mathlib.Omega.{arith}
use Rattle.scribe.proofs.Puts.{wrote_sheet}
use Rattle.scribe.proofs.lines.put_sheet.Goals as goal

pub returns : goal.returns
returns c = wrote_sheet _ _ (omega arith) c.put_size-a.ensures c.put_finals-b.ensures c.put_arcs.ensures
