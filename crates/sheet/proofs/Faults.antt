-- A line reads as the tests of its fields tell. Assumes nothing.
use mathlib.Core.Path.{◌≡◌, refl, sym, ◌∙◌}
use mathlib.Core.Bool.{Bool, true, false, cond}
use mathlib.Core.List.{List, ◌∷◌}
use Prim.Native.Nat.{ℕ}
use Rattle.rules.specs.declared.Size.{Size}
use Rattle.std.specs.Prelude.{Err}
use Rattle.text.specs.Fields.{IsLine, field, Test, test, judged, is_word}
use Rattle.text.specs.declared.lines.Fault.TheVariants.{Form}
use Rattle.text.proofs.Fields.{FromField, field_step, last_step, no_word, word_step, only_word}
use Rattle.sheet.specs.Lines.{size_name, final_name, arc_name, read_size, read_final, read_arc, read_line}
use Rattle.sheet.specs.Faults.{size_tests, size_in, final_in, arc_in, final_tests, arc_tests, line_tests, line_in}

pub size_by_fields : (l : List ℕ) → IsLine l → read_size l ≡ judged (size_tests l) (size_in l)
unfolding read_size size_tests
size_by_fields l h =
    only_word h size_name _ _ _ _ _ refl
    (λ s p. field_step p _ _ _ _ _ _ _
    (λ s p. field_step p _ _ _ _ _ _ _
    (λ s p. last_step p _ _ _ _ _ (λ r. refl))))

final_by_fields : (z : Size) (next : ℕ) (l s : List ℕ) → FromField l 1 s → read_final z next s ≡ judged (final_tests z next l) (final_in l)
unfolding read_final final_tests
final_by_fields z next l s p = last_step p _ _ _ _ _ (λ r. refl)

arc_by_fields : (z : Size) (next : ℕ) (l s : List ℕ) → FromField l 1 s → read_arc z next s ≡ judged (arc_tests z next l) (arc_in l)
unfolding read_arc arc_tests
arc_by_fields z next l s p =
    field_step p _ _ _ _ _ _ _
    (λ s p. field_step p _ _ _ _ _ _ _
    (λ s p. field_step p _ _ _ _ _ _ _
    (λ s p. last_step p _ _ _ _ _ (λ r. refl))))

by_word : {A : Type 0} (b c : Bool) (ts us : List Test) (x y : A)
    → judged (cond b ts (test Form c ∷ us)) (cond b x y) ≡ cond b (judged ts x) (cond c (judged us y) (Err Form))
unfolding judged
by_word true c ts us x y = refl
by_word false c ts us x y = refl

pub line_by_fields : (z : Size) (next : ℕ) (l : List ℕ) → IsLine l → read_line z next l ≡ judged (line_tests z next l) (line_in l)
unfolding read_line final_tests arc_tests line_tests
line_by_fields z next l h =
    (word_step h final_name _ _ _ _ _ refl (final_by_fields z next l) (word_step h arc_name _ _ _ _ _ refl (arc_by_fields z next l) (no_word l))).same
    ∙ sym (by_word (is_word final_name (field 0 l)) (is_word arc_name (field 0 l)) (final_tests z next l) (arc_tests z next l) (final_in l) (arc_in l))
