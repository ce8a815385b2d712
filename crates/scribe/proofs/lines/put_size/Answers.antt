use native.Mathlib.Omega.{arith}
use mathlib.Core.Path.{refl}
use Rattle.sheet.specs.Lines.{size_text}
use Rattle.scribe.proofs.Puts.{wrote_then, wrote_field}
use Rattle.scribe.proofs.lines.put_size.Goals as goal

pub returns : goal.returns
unfolding size_text
returns c = wrote_then (omega arith) c.put_word-a.ensures (λ h. wrote_field _ _ _ refl h c.put_field-b.ensures (λ h. wrote_field _ _ _ refl h c.put_field-c.ensures (λ _. rw c.from.ensures at c.put_field.ensures)))
