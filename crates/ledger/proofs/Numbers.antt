-- Tests of a whole list by index, and parts of lists. Assumes nothing.
use mathlib.Core.Path.{◌≡◌, refl, ap₂}
use mathlib.Core.Bool.{Bool, true, false, ◌&&◌}
use mathlib.Core.List.{List, [], ◌∷◌}
use Prim.Native.Nat.{ℕ, zero, suc, ◌+◌, ◌-◌, ◌^◌, ◌≤◌, ◌<◌}
use native.Mathlib.Omega.{arith}
use lib.ListN.{length, get_or, drop, take, replicate, length-take, length-drop}
use lib.Seq.{take_all}
use lib.Dec.{eqb, ltb}
use borrow.Author.Tests.{eq-eqb, eqb-true, ltb-true, lt-ltb}
use Rattle.rules.specs.Checks.{masks_right}
use Rattle.rules.proofs.Checks.{both}
use Rattle.ledger.specs.Memory.{all_below, all_zero, same}

pub and_both : (a b : Bool) → a ≡ true → b ≡ true → (a && b) ≡ true
and_both true b e f = f
and_both false b e f = cc

pub below_at : (t : ℕ) (s : List ℕ) → all_below t s ≡ true → (i : ℕ) → i < length s → get_or s i 0 < t
unfolding all_below
below_at t [] e i h = absurd (omega arith)
below_at t (x ∷ xs) e zero h = ltb-true x t (both (ltb x t) (all_below t xs) e).0
below_at t (x ∷ xs) e (suc i) h = below_at t xs (both (ltb x t) (all_below t xs) e).1 i (omega arith)

pub below_more : (t t' : ℕ) (s : List ℕ) → t ≤ t' → all_below t s ≡ true → all_below t' s ≡ true
unfolding all_below
below_more t t' [] h e = refl
below_more t t' (x ∷ xs) h e =
    let b = both (ltb x t) (all_below t xs) e in
    and_both (ltb x t') (all_below t' xs) (lt-ltb x t' (omega (arith, ltb-true x t b.0))) (below_more t t' xs h b.1)

-- the masks of v values are the numbers below 2 ^ v
pub masks_below : (v : ℕ) (ms : List ℕ) → masks_right v ms ≡ all_below (2 ^ v) ms
unfolding masks_right all_below
masks_below v ms = refl

-- zeros
pub zeros_are : (s : List ℕ) → all_zero s ≡ true → s ≡ replicate (length s) 0
unfolding all_below
zeros_are [] e = refl
zeros_are (x ∷ xs) e =
    let b = both (ltb x 1) (all_below 1 xs) e in
    let z : x ≡ 0 = omega (arith, ltb-true x 1 b.0) in
    ap₂ (λ (y : ℕ) (ys : List ℕ). y ∷ ys) z (zeros_are xs b.1)

pub zeros_yes : (n : ℕ) → all_zero (replicate n 0) ≡ true
unfolding all_below
zeros_yes zero = refl
zeros_yes (suc n) = zeros_yes n

-- two lists compared
pub same_eq : (a b : List ℕ) → same a b ≡ true → a ≡ b
unfolding same
same_eq [] [] e = refl
same_eq [] (y ∷ ys) e = cc
same_eq (x ∷ xs) [] e = cc
same_eq (x ∷ xs) (y ∷ ys) e =
    let h = both (eqb x y) (same xs ys) e in ap₂ (λ (z : ℕ) (zs : List ℕ). z ∷ zs) (eqb-true x y h.0) (same_eq xs ys h.1)

pub same_refl : (a : List ℕ) → same a a ≡ true
unfolding same
same_refl [] = refl
same_refl (x ∷ xs) = and_both (eqb x x) (same xs xs) (eq-eqb x x refl) (same_refl xs)

-- a part that is lent from a on
pub tail_is : (a : ℕ) (l : List ℕ) → take (length l - a) (drop a l) ≡ drop a l
tail_is a l = take_all (length l - a) (drop a l) (simp length-drop (omega arith))

-- a part that is lent from a to e
pub part_long : (k a : ℕ) (l : List ℕ) → a + k ≤ length l → length (take k (drop a l)) ≡ k
part_long k a l h = simp (length-take, length-drop) (omega arith)
