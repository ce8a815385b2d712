-- A loop that copies one list over the front of another, one store a turn. Assumes nothing.
use mathlib.Core.Path.{◌≡◌, refl, sym, ap, ap₂, ◌∙◌}
use mathlib.Core.List.{List, ◌++◌, append-nil}
use Prim.Native.Nat.{ℕ, suc, ◌+◌, ◌≤◌, ◌<◌}
use native.Mathlib.Omega.{arith}
use native.Mathlib.Numerals.{add-one}
use lib.ListN.{length, get_or, take, drop, set, length-set, drop_of_length-le}
use lib.Seq.{drop-cons, set_at, append_snoc, take-suc, length-take-le, take_all}
use borrow.Author.Tests.{eq-eqb, ne_eqb}
use Rattle.machine.specs.Copied.{copied}

-- the first i elements of d are those of s, the others those of d₀
pub record Copying (s d₀ : List ℕ) (i : ℕ) (d : List ℕ) : Type 0 where
  pub long : length d ≡ length d₀
  pub is : d ≡ take i s ++ drop i d₀

module _ (s d₀ : List ℕ) where
  pub copy_none : Copying s d₀ 0 d₀
  copy_none = record { long = refl; is = refl }

  pub copy_more : (i v : ℕ) (d : List ℕ) → Copying s d₀ i d → i < length s → i < length d₀ → v ≡ get_or s i 0 → Copying s d₀ (i + 1) (set d i v)
  copy_more i v d g h k e = record {
    long = length-set d i v ∙ g.long;
    is = ap₂ (λ (x : List ℕ) (y : ℕ). set x i y) g.is e
        ∙ ap (λ (x : List ℕ). set (take i s ++ x) i (get_or s i 0)) (drop-cons d₀ i 0 k)
        ∙ set_at (take i s) (get_or d₀ i 0) (drop (suc i) d₀) (get_or s i 0) i (length-take-le i s (omega arith))
        ∙ sym (append_snoc (take i s) (get_or s i 0) (drop (suc i) d₀))
        ∙ ap (λ (x : List ℕ). x ++ drop (suc i) d₀) (sym (take-suc s i 0 h))
        ∙ ap (λ (k : ℕ). take k s ++ drop k d₀) (sym (add-one i));
  }

  pub copy_done : (i : ℕ) (d : List ℕ) → Copying s d₀ i d → length s ≤ i → length d₀ ≤ i → d ≡ s
  copy_done i d g h k =
      g.is ∙ ap₂ (λ (x y : List ℕ). x ++ y) (take_all i s h) (drop_of_length-le d₀ k) ∙ append-nil s

pub copied_not : (to from : List ℕ) → (length to ≡ length from → ⊥) → to ≡ copied to from
unfolding copied
copied_not to from h = rw (ne_eqb _ _ h)

pub copied_is : (to from : List ℕ) → length to ≡ length from → copied to from ≡ from
unfolding copied
copied_is to from h = rw (eq-eqb _ _ h)
