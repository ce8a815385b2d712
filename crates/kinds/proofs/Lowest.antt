-- The lowest bit of a number, and the number with that bit taken off, over every width: so the smallest value of a mask, and the rest of it.
-- Assumes nothing.
use mathlib.Core.Path.{◌≡◌, refl, sym, ap, ◌∙◌}
use mathlib.Core.Bool.{Bool, true, false, cond, not, ◌&&◌, and_self, and-true, and-eq-true_iff, false≢true}
use Prim.Native.Nat.{ℕ, zero, suc, ◌-◌, ◌/◌, ◌%◌, ◌^◌, ◌≤◌, ◌<◌}
use native.Mathlib.Nat.{pow-suc}
use native.Mathlib.Decide.{ℕ_discrete}
use native.Mathlib.Omega.{arith}
use lib.Bits.{bit_and, and_lt, and_le_r}
use lib.Count.{count_trailing_zeros, under, trailing_of_zero}
use lib.Dec.{eqb, eqb-suc-suc, eqb-suc-zero}
use borrow.Author.Tests.{ne_eqb}
use Rattle.kinds.specs.Bits.{width, bit, first_from, smallest_of, rest_of}
use Rattle.kinds.proofs.Bits.{bit_zero, bit_suc, bit_of_and, bit_none, bit_below, bit_mask, mask_is, mask_lt}

-- THE LOWEST BIT, as the count of trailing zeros has it
pub low_set : (k n : ℕ) → 0 < n → n < 2 ^ k → bit n (count_trailing_zeros k n) ≡ true
unfolding count_trailing_zeros
low_set zero n h l = absurd (omega arith)
low_set (suc k) n h l = go (n % 2) refl (omega arith) (λ e. low_set k (n / 2) (omega arith) (omega (arith, pow-suc 2 k)))
  where
    go : (r : ℕ) → n % 2 ≡ r → r < 2 → (n % 2 ≡ 0 → bit (n / 2) (count_trailing_zeros k (n / 2)) ≡ true) → bit n (under r (count_trailing_zeros k (n / 2))) ≡ true
    go zero e b ih = bit_suc n (count_trailing_zeros k (n / 2)) ∙ ih e
    go (suc zero) e b ih = bit_zero n ∙ rw e
    go (suc (suc r)) e b ih = absurd (omega arith)

-- two numbers that meet have a bit in common
pub meet_some : (k a b : ℕ) → a < 2 ^ k → b < 2 ^ k → 0 < bit_and a b → (u : ℕ) × (bit a u ≡ true) × (bit b u ≡ true)
meet_some k a b ha hb h =
    let u : ℕ = count_trailing_zeros k (bit_and a b) in
    let p = (and-eq-true_iff (bit a u) (bit b u)).0 (sym (bit_of_and a b u) ∙ low_set k (bit_and a b) h (and_lt k a b ha hb)) in
    (u, p.0, p.1)

pub meet_none : (a b u : ℕ) → bit_and a b ≡ 0 → bit a u ≡ true → bit b u ≡ false
meet_none a b u e h = sym (ap (λ (x : Bool). x && bit b u) h) ∙ (sym (bit_of_and a b u) ∙ rw e (bit_none u))

-- the number with that bit taken off: one less than the number has not that bit, but every other one that the number has
rest_both : (k n u : ℕ) → 0 < n → n < 2 ^ k → (bit n u && bit (n - 1) u) ≡ (bit n u && not (eqb u (count_trailing_zeros k n)))
unfolding count_trailing_zeros
rest_both zero n u h l = absurd (omega arith)
rest_both (suc k) n u h l = go u (n % 2) refl (omega arith) (λ u e. rest_both k (n / 2) u (omega arith) (omega (arith, pow-suc 2 k)))
  where
    go : (u r : ℕ) → n % 2 ≡ r → r < 2 → ((u : ℕ) → n % 2 ≡ 0 → (bit (n / 2) u && bit (n / 2 - 1) u) ≡ (bit (n / 2) u && not (eqb u (count_trailing_zeros k (n / 2)))))
        → (bit n u && bit (n - 1) u) ≡ (bit n u && not (eqb u (under r (count_trailing_zeros k (n / 2)))))
    go zero zero e b ih = rw (bit_zero n, e)
    go (suc u) zero e b ih =
        let half : (n - 1) / 2 ≡ n / 2 - 1 = omega arith in
        rw (bit_suc n u, bit_suc (n - 1) u, half, eqb-suc-suc u (count_trailing_zeros k (n / 2))) (ih u e)
    go zero (suc zero) e b ih =
        let even : (n - 1) % 2 ≡ 0 = omega arith in
        rw (bit_zero (n - 1), even)
    go (suc u) (suc zero) e b ih =
        let half : (n - 1) / 2 ≡ n / 2 = omega arith in
        rw (bit_suc n u, bit_suc (n - 1) u, half, eqb-suc-zero u) (and_self (bit (n / 2) u) ∙ sym (and-true (bit (n / 2) u)))
    go u (suc (suc r)) e b ih = absurd (omega arith)

pub rest_bit : (k n u : ℕ) → 0 < n → n < 2 ^ k → bit (bit_and n (n - 1)) u ≡ (bit n u && not (eqb u (count_trailing_zeros k n)))
rest_bit k n u h l = bit_of_and n (n - 1) u ∙ rest_both k n u h l

-- a search from bit to bit, the lowest first: p holds of none below n but of those that are left
pub record Sought (p : ℕ → Bool) (n left : ℕ) : Type 0 where
  pub none : (u : ℕ) → u < n → bit left u ≡ false → p u ≡ false

pub sought_more : {p : ℕ → Bool} {n : ℕ} (k left : ℕ) → 0 < left → left < 2 ^ k → Sought p n left → p (count_trailing_zeros k left) ≡ false → Sought p n (bit_and left (left - 1))
sought_more {p} {n} k left h l s e = record { none = λ u d b. go u d (bit left u) refl (ℕ_discrete u (count_trailing_zeros k left)) (sym (rest_bit k left u h l) ∙ b) }
  where
    go : (u : ℕ) → u < n → (b : Bool) → bit left u ≡ b → Dec (u ≡ count_trailing_zeros k left) → (bit left u && not (eqb u (count_trailing_zeros k left))) ≡ false → p u ≡ false
    go u d false f c z = s.none u d f
    go u d true f (yes c) z = rw c e
    go u d true f (no c) z = absurd (false≢true (sym z ∙ rw (f, ne_eqb u (count_trailing_zeros k left) c)))

-- THE SMALLEST VALUE. The count of trailing zeros is the first bit that is set
first_ext : (p q : ℕ → Bool) → ((v : ℕ) → p v ≡ q v) → (i n : ℕ) → first_from p i n ≡ first_from q i n
unfolding first_from
first_ext p q h i zero = refl
first_ext p q h i (suc n) = rw (h i, first_ext p q h (suc i) n)

first_shift : (p : ℕ → Bool) (i n : ℕ) → first_from p (suc i) n ≡ suc (first_from (λ v. p (suc v)) i n)
unfolding first_from
first_shift p i zero = refl
first_shift p i (suc n) = ap (λ (x : ℕ). cond (p (suc i)) (suc i) x) (first_shift p (suc i) n) ∙ both (p (suc i)) i _
  where
    both : (b : Bool) (x y : ℕ) → cond b (suc x) (suc y) ≡ suc (cond b x y)
    both true x y = refl
    both false x y = refl

pub zeros_first : (k n : ℕ) → count_trailing_zeros k n ≡ first_from (bit n) 0 k
unfolding count_trailing_zeros first_from
zeros_first zero n = refl
zeros_first (suc k) n =
    digit (n % 2) (count_trailing_zeros k (n / 2)) (omega arith)
    ∙ (ap (λ (b : Bool). cond b 0 (suc (count_trailing_zeros k (n / 2)))) (sym (bit_zero n))
    ∙ ap (λ (x : ℕ). cond (bit n 0) 0 x)
    (ap suc (zeros_first k (n / 2) ∙ first_ext (bit (n / 2)) (λ v. bit n (suc v)) (λ v. sym (bit_suc n v)) 0 k) ∙ sym (first_shift (bit n) 0 k)))
  where
    digit : (r t : ℕ) → r < 2 → under r t ≡ cond (eqb r 1) 0 (suc t)
    digit zero t h = refl
    digit (suc zero) t h = refl
    digit (suc (suc r)) t h = absurd (omega arith)

pub smallest_is : (m : ℕ) → count_trailing_zeros width m ≡ smallest_of m
unfolding smallest_of
smallest_is m = zeros_first width m

-- nothing lies below it
first_least : (f : ℕ → Bool) (i n u : ℕ) → i ≤ u → u < first_from f i n → f u ≡ false
unfolding first_from
first_least f i zero u h l = absurd (omega arith)
first_least f i (suc n) u h l = go (f i) refl l (ℕ_discrete u i) (λ k l. first_least f (suc i) n u k l)
  where
    go : (b : Bool) → f i ≡ b → u < cond b i (first_from f (suc i) n) → Dec (u ≡ i) → (suc i ≤ u → u < first_from f (suc i) n → f u ≡ false) → f u ≡ false
    go true e l d ih = absurd (omega arith)
    go false e l (yes d) ih = rw d e
    go false e l (no d) ih = ih (omega arith) l

pub smallest_least : (m u : ℕ) → u < smallest_of m → bit m u ≡ false
unfolding smallest_of
smallest_least m u l = first_least (bit m) 0 width u (omega arith) l

-- the empty mask has none, any other has one
pub smallest_none : (m : ℕ) → m ≡ 0 → smallest_of m ≡ width
smallest_none m e = rw (e, ← smallest_is 0) (trailing_of_zero width)

pub smallest_some : (m : ℕ) → smallest_of m < width → m ≡ 0 → ⊥
smallest_some m h e = omega (arith, smallest_none m e)

module _ (m : ℕ) (some : m ≡ 0 → ⊥) (few : m < 2 ^ width) where
  pub smallest_set : bit m (smallest_of m) ≡ true
  smallest_set = rw (← smallest_is m) (low_set width m (omega arith) few)

  pub smallest_few : smallest_of m < width
  smallest_few = bit_below width m (smallest_of m) few smallest_set

  -- the rest of a mask, as the code makes it: it is less
  pub rest_is : bit_and m (m - 1) ≡ rest_of m
  unfolding rest_of
  rest_is = mask_is (λ u. bit m u && not (eqb u (smallest_of m))) width (bit_and m (m - 1)) (and_lt width m (m - 1) few (omega arith))
      (λ u l. rw (← smallest_is m) (rest_bit width m u (omega arith) few))

  pub rest_less : rest_of m < m
  rest_less = rw (← rest_is) (omega (arith, and_le_r m (m - 1)))

-- the rest of the empty mask
pub rest_none : (m : ℕ) → m ≡ 0 → m ≡ rest_of m
unfolding rest_of
rest_none m e = mask_is (λ u. bit m u && not (eqb u (smallest_of m))) width m (omega arith) (λ u l. rw (e, bit_none u))

-- what the rest has
pub rest_few : (m : ℕ) → rest_of m < 2 ^ width
unfolding rest_of
rest_few m = mask_lt (λ u. bit m u && not (eqb u (smallest_of m))) width

pub rest_has : (m u : ℕ) → u < width → bit (rest_of m) u ≡ (bit m u && not (eqb u (smallest_of m)))
unfolding rest_of
rest_has m u l = bit_mask (λ u. bit m u && not (eqb u (smallest_of m))) width u l
