use native.Mathlib.Omega.{arith}
use Rattle.sheet.specs.Lines.{line_text}
use Rattle.scribe.proofs.Puts.{wrote_then, wrote_field}
use Rattle.scribe.proofs.lines.put_arc.Goals as goal

pub returns : goal.returns
unfolding line_text
returns c =
    wrote_then (omega arith) c.put_word-a.ensures (λ h. wrote_field _ _ _ c.from.ensures h c.put_field-b.ensures (λ h. wrote_field _ _ _ c.from-2.ensures h c.put_field-c.ensures (λ h. wrote_field _ _ _ c.from-3.ensures h c.put_field-d.ensures
    (λ _. rw c.from-4.ensures at c.put_field.ensures))))
