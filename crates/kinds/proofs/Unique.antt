-- Each public contract leaves one result: any two that it allows are equal. Assumes nothing.
use mathlib.Core.Path.{◌≡◌, sym, ap, ◌∙◌}
use mathlib.Core.Bool.{Bool, ◌&&◌, ◌||◌}
use Prim.Native.Nat.{ℕ, ◌^◌, min}
use lib.Dec.{eqb, ltb}
use Rattle.kinds.specs.Bits.{width, bit, mask_of, smallest_of, rest_of}
use Rattle.kinds.specs.declared.Mask.{Mask}
use Rattle.kinds.specs.declared.Value.{Value}

-- a mask is told by its number
one : (x : ℕ) (r s : Mask) → r.0 ≡ x → s.0 ≡ x → r ≡ s
one x r s p q = ap (λ (n : ℕ). record { 0 = n }) (p ∙ sym q)

pub bound_unique : (values r s : ℕ) → r ≡ 2 ^ min values width → s ≡ 2 ^ min values width → r ≡ s
bound_unique values r s p q = p ∙ sym q

pub full_unique : (values : ℕ) (r s : Mask) → r.0 ≡ mask_of (λ u. ltb u values) width → s.0 ≡ mask_of (λ u. ltb u values) width → r ≡ s
full_unique values = one _

pub single_unique : (v : Value) (r s : Mask) → r.0 ≡ mask_of (λ u. eqb u v.0) width → s.0 ≡ mask_of (λ u. eqb u v.0) width → r ≡ s
single_unique v = one _

pub has_unique : (m : Mask) (v : Value) (r s : Bool) → r ≡ bit m.0 v.0 → s ≡ bit m.0 v.0 → r ≡ s
has_unique m v r s p q = p ∙ sym q

pub within_unique : (m : Mask) (values : ℕ) (r s : Bool) → r ≡ ltb m.0 (2 ^ values) → s ≡ ltb m.0 (2 ^ values) → r ≡ s
within_unique m values r s p q = p ∙ sym q

pub meet_unique : (m o r s : Mask) → r.0 ≡ mask_of (λ u. bit m.0 u && bit o.0 u) width → s.0 ≡ mask_of (λ u. bit m.0 u && bit o.0 u) width → r ≡ s
meet_unique m o = one _

pub put_unique : (m : Mask) (v : Value) (r s : Mask) → r.0 ≡ mask_of (λ u. bit m.0 u || eqb u v.0) width → s.0 ≡ mask_of (λ u. bit m.0 u || eqb u v.0) width → r ≡ s
put_unique m v = one _

pub smallest_unique : (m : Mask) (r s : Value) → r.0 ≡ smallest_of m.0 → s.0 ≡ smallest_of m.0 → r ≡ s
smallest_unique m r s p q = ap (λ (n : ℕ). record { 0 = n }) (p ∙ sym q)

pub rest_unique : (m r s : Mask) → r.0 ≡ rest_of m.0 → s.0 ≡ rest_of m.0 → r ≡ s
rest_unique m = one _
