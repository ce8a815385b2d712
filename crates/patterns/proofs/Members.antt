-- Masks as sets: what it is to be a member. Assumes nothing.
use mathlib.Core.Path.{◌≡◌, refl, sym, ◌∙◌}
use mathlib.Core.Bool.{Bool, true, false, cond, false≢true}
use mathlib.Core.Logic.{◌⊎◌, inl, inr}
use Prim.Native.Nat.{ℕ, ◌^◌}
use lib.Bits.{bit_or}
use borrow.Author.Tests.{eqb-true, eq-eqb}
use Rattle.kinds.specs.Bits.{bit}
use Rattle.kinds.proofs.Bits.{bit_of_or, bit_none, bit_pow}
use Rattle.rules.proofs.Checks.{or_cases, or_left, or_right}

-- masks: j is in the one or the other
pub has_or : (a b j : ℕ) → bit (bit_or a b) j ≡ true → (bit a j ≡ true) ⊎ (bit b j ≡ true)
has_or a b j h = or_cases (bit a j) (bit b j) (sym (bit_of_or a b j) ∙ h) inl inr

pub or_has_left : (a b j : ℕ) → bit a j ≡ true → bit (bit_or a b) j ≡ true
or_has_left a b j h = bit_of_or a b j ∙ or_left (bit a j) (bit b j) h

pub or_has_right : (a b j : ℕ) → bit b j ≡ true → bit (bit_or a b) j ≡ true
or_has_right a b j h = bit_of_or a b j ∙ or_right (bit a j) (bit b j) h

pub has_cond : (c : Bool) (a j : ℕ) → bit (cond c a 0) j ≡ true → (c ≡ true) × (bit a j ≡ true)
has_cond true a j h = (refl, h)
has_cond false a j h = absurd (false≢true (sym (bit_none j) ∙ h))

pub cond_has : (c : Bool) (a j : ℕ) → c ≡ true → bit a j ≡ true → bit (cond c a 0) j ≡ true
cond_has c a j h k = rw h k

pub has_pow : (i j : ℕ) → bit (2 ^ i) j ≡ true → j ≡ i
has_pow i j h = eqb-true j i (sym (bit_pow i j) ∙ h)

pub pow_has : (i : ℕ) → bit (2 ^ i) i ≡ true
pow_has i = bit_pow i i ∙ eq-eqb i i refl

pub no_bits : (x j : ℕ) → bit x j ≡ true → x ≡ 0 → ⊥
no_bits x j h e = false≢true (sym (bit_none j) ∙ (rw e at h))
