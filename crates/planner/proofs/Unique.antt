-- Each public contract leaves one result and one content of the lent slices: any two that it allows are equal. Assumes nothing.
use mathlib.Core.Path.{◌≡◌, refl, sym, ap, ◌∙◌}
use mathlib.Core.Bool.{true}
use mathlib.Core.List.{List}
use Prim.Native.Nat.{ℕ}
use Rattle.std.specs.Prelude.{Result}
use Rattle.rules.specs.Checks.{Handed}
use Rattle.rules.specs.Answers.{answer_of, carried, order, in_order}
use Rattle.rules.proofs.Unique.{given_one}
use Rattle.rules.specs.declared.Answer.{Answer}
use Rattle.mending.specs.Outcomes.{Planned, planned, mend_checks, mend_of}

pub mend_unique : (h : Handed) (ms ls ds : List ℕ) (k : ℕ) (roster work : List ℕ) (r s : Result ℕ Answer) (or os wr ws : List ℕ)
    → planned (answer_of r) (carried r) or wr ≡ mend_of h ms ls ds k roster work → planned (answer_of s) (carried s) os ws ≡ mend_of h ms ls ds k roster work
    → (r ≡ s) × (or ≡ os) × (wr ≡ ws)
mend_unique h ms ls ds k roster work r s or os wr ws p q =
    let e : planned (answer_of r) (carried r) or wr ≡ planned (answer_of s) (carried s) os ws = p ∙ sym q in (
      given_one r s (ap (λ (y : Planned). y.answer) e) (λ x y i j. sym (ap carried i) ∙ (ap (λ (y : Planned). y.changed) e ∙ ap carried j)),
      ap (λ (y : Planned). y.roster) e,
      ap (λ (y : Planned). y.work) e,
    )

pub mend_order : (h : Handed) (ms ls ds : List ℕ) (k roster work : ℕ) → in_order order (mend_checks h ms ls ds k roster work) ≡ true
unfolding order in_order
mend_order h ms ls ds k roster work = refl
