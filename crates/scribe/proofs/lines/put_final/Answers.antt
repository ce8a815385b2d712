use native.Mathlib.Omega.{arith}
use Rattle.sheet.specs.Lines.{line_text}
use Rattle.scribe.proofs.Puts.{wrote_then}
use Rattle.scribe.proofs.lines.put_final.Goals as goal

pub returns : goal.returns
unfolding line_text
returns c = wrote_then (omega arith) c.put_word-a.ensures (λ _. rw c.from.ensures at c.put_field.ensures)
