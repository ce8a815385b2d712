-- Each session call leaves one answer and one content of what it is lent: any two outcomes that its contract allows are equal. Its checks
-- stand in the order of the paper. Assumes nothing.
use mathlib.Core.Path.{◌≡◌, refl, sym, ap, ◌∙◌}
use mathlib.Core.Bool.{true}
use mathlib.Core.List.{List}
use Prim.Native.Nat.{ℕ}
use Rattle.rules.specs.Checks.{Handed}
use Rattle.rules.specs.Answers.{number_of, order, in_order}
use Rattle.rules.proofs.Unique.{answer_one}
use Rattle.meaning.specs.Meaning.{Keep, Limit}
use Rattle.ledger.specs.Sessions.{Opening, deciding, marking, going_back}
use Rattle.ledger.specs.Readiness.{Ready, readiness, ready_checks, ready_of, Left, left, renew_checks, renewed_of}
use Rattle.ledger.specs.Calls.{open_checks, opened, call_checks, called}
use Rattle.rules.specs.declared.Answer.{Answer}

pub ready_unique : (h : Handed) (m w : List ℕ) (r s : Answer) (u v : List ℕ)
    → readiness (number_of r) u ≡ ready_of h m w → readiness (number_of s) v ≡ ready_of h m w → (r ≡ s) × (u ≡ v)
ready_unique h m w r s u v p q =
    let e : readiness (number_of r) u ≡ readiness (number_of s) v = p ∙ sym q in
    (answer_one r s (ap (λ (x : Ready). x.answer) e), ap (λ (x : Ready). x.work) e)

pub ready_order : (h : Handed) (m w : List ℕ) → in_order order (ready_checks h m w) ≡ true
unfolding order in_order
ready_order h m w = refl

-- two outcomes of one session call
pub left_unique : (x : Left) (r s : Answer) (m n u v : List ℕ) → left (number_of r) m u ≡ x → left (number_of s) n v ≡ x → (r ≡ s) × (m ≡ n) × (u ≡ v)
left_unique x r s m n u v p q =
    let e : left (number_of r) m u ≡ left (number_of s) n v = p ∙ sym q in
    (answer_one r s (ap (λ (y : Left). y.answer) e), ap (λ (y : Left). y.memory) e, ap (λ (y : Left). y.work) e)

pub renew_unique : (h : Handed) (m₀ w : List ℕ) (r s : Answer) (m n u v : List ℕ)
    → left (number_of r) m u ≡ renewed_of h m₀ w → left (number_of s) n v ≡ renewed_of h m₀ w → (r ≡ s) × (m ≡ n) × (u ≡ v)
renew_unique h m₀ w = left_unique (renewed_of h m₀ w)

pub renew_order : (h : Handed) (m w : List ℕ) → in_order order (renew_checks h m w) ≡ true
unfolding order in_order
renew_order h m w = refl

-- any two outcomes that one promise allows
abbrev One : Left → Type 0
One x = (r s : Answer) (m n u v : List ℕ) → left (number_of r) m u ≡ x → left (number_of s) n v ≡ x → (r ≡ s) × (m ≡ n) × (u ≡ v)

module _ (h : Handed) (m w : List ℕ) where
  pub open_unique : (o : Opening) → One (opened h o m w)
  open_unique o = left_unique (opened h o m w)

  pub open_order : (o : Opening) → in_order order (open_checks h o m w) ≡ true
  unfolding order in_order
  open_order o = refl

  pub keep_unique : (p x : ℕ) → One (called h (deciding (Keep p x)) m w)
  keep_unique p x = left_unique (called h (deciding (Keep p x)) m w)

  pub keep_order : (p x : ℕ) → in_order order (call_checks h (deciding (Keep p x)) m w) ≡ true
  unfolding order in_order
  keep_order p x = refl

  pub limit_unique : (p x : ℕ) → One (called h (deciding (Limit p x)) m w)
  limit_unique p x = left_unique (called h (deciding (Limit p x)) m w)

  pub limit_order : (p x : ℕ) → in_order order (call_checks h (deciding (Limit p x)) m w) ≡ true
  unfolding order in_order
  limit_order p x = refl

  pub mark_unique : One (called h marking m w)
  mark_unique = left_unique (called h marking m w)

  pub mark_order : in_order order (call_checks h marking m w) ≡ true
  unfolding order in_order
  mark_order = refl

  pub back_unique : One (called h going_back m w)
  back_unique = left_unique (called h going_back m w)

  pub back_order : in_order order (call_checks h going_back m w) ≡ true
  unfolding order in_order
  back_order = refl
