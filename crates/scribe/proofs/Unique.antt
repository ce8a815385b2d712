-- The public contract leaves one result and one content of the buffer: any two that it allows are equal. Assumes nothing.
use mathlib.Core.Path.{◌≡◌, refl, ap, sym, ◌∙◌}
use mathlib.Core.Bool.{true}
use mathlib.Core.List.{List}
use Prim.Native.Nat.{ℕ}
use Rattle.std.specs.Prelude.{Result}
use Rattle.meaning.specs.Meaning.{Rules}
use Rattle.rules.specs.Answers.{answer_of, carried, order, in_order}
use Rattle.rules.proofs.Unique.{given_one}
use Rattle.rules.specs.declared.Answer.{Answer}
use Rattle.scribe.specs.Writing.{Outcome, write_left, write_checks, write_of}

pub write_sheet_unique : (r : Rules) (s : ℕ) (b : List ℕ) (w : Result ℕ Answer) (b1 : List ℕ) (w2 : Result ℕ Answer) (b2 : List ℕ)
    → write_left (answer_of w) (carried w) b1 ≡ write_of r s b → write_left (answer_of w2) (carried w2) b2 ≡ write_of r s b → (w ≡ w2) × (b1 ≡ b2)
write_sheet_unique r s b w b1 w2 b2 p q =
    let e : write_left (answer_of w) (carried w) b1 ≡ write_left (answer_of w2) (carried w2) b2 = p ∙ sym q in (
      given_one w w2 (ap (λ (o : Outcome). o.answer) e) (λ x y i j. sym (ap carried i) ∙ (ap (λ (o : Outcome). o.length) e ∙ ap carried j)),
      ap (λ (o : Outcome). o.buffer) e,
    )

-- its checks run in the paper's order
pub write_sheet_order : (r : Rules) (s : ℕ) (b : List ℕ) → in_order order (write_checks r s b) ≡ true
unfolding order in_order
write_sheet_order r s b = refl
