-- The laws of bits and masks, over every width. Assumes nothing.
use mathlib.Core.Path.{◌≡◌, refl, sym, ap, ◌∙◌}
use mathlib.Core.Bool.{Bool, true, false, cond, ◌&&◌, ◌||◌, or-false, false≢true}
use Prim.Native.Nat.{ℕ, zero, suc, ◌+◌, ◌-◌, ◌*◌, ◌/◌, ◌%◌, ◌^◌, ◌≤◌, ◌<◌, min}
use native.Mathlib.Nat.{pow-suc, pow-succ', div-div-eq-div-mul, div-eq_of_lt, lt_of_lt_of_le, div-lt_iff_lt-mul, zero-div, one-mul, div-one}
use native.Mathlib.Decide.{ℕ_discrete, dec_lt}
use native.Mathlib.Numerals.{add-one}
use native.Mathlib.Omega.{arith}
use lib.Bits.{bit_and, bit_or, and_shr, or_shr, and_mod, or_mod, and_mask, and_lt, or_lt}
use lib.Pow.{pow_pos, pow_mono, pow-lt, high, shl_exact}
use borrow.Author.Tests.{lt-ltb, le-ltb, eq-eqb, ne_eqb}
use lib.Dec.{eqb, ltb, leb-suc-suc, leb-zero, eqb-suc-suc, eqb-zero-suc, eqb-suc-zero, leb-suc-zero}
use Rattle.kinds.specs.Bits.{bit, mask_of}

-- a shift and an `and` with 1
pub bit_test : (m v : ℕ) → eqb (bit_and (m / 2 ^ v) 1) 1 ≡ bit m v
unfolding bit
bit_test m v = ap (λ (x : ℕ). eqb x 1) (and_mask (m / 2 ^ v) 1)

pub bit_yes : (m v : ℕ) → bit_and (m / 2 ^ v) 1 ≡ 1 → bit m v ≡ true
bit_yes m v h = sym (bit_test m v) ∙ eq-eqb _ _ h

pub bit_no : (m v : ℕ) → (bit_and (m / 2 ^ v) 1 ≡ 1 → ⊥) → bit m v ≡ false
bit_no m v h = sym (bit_test m v) ∙ ne_eqb _ _ h

pub bit_zero : (m : ℕ) → bit m 0 ≡ eqb (m % 2) 1
unfolding bit
bit_zero m = ap (λ (x : ℕ). eqb (x % 2) 1) (div-one m)

pub bit_suc : (m v : ℕ) → bit m (suc v) ≡ bit (m / 2) v
unfolding bit
bit_suc m v = ap (λ (x : ℕ). eqb (x % 2) 1) (ap (λ (x : ℕ). m / x) (pow-succ' 2 v) ∙ sym (div-div-eq-div-mul m 2 (2 ^ v)))

small_and : (x y : ℕ) → x < 2 → y < 2 → eqb (bit_and x y) 1 ≡ (eqb x 1 && eqb y 1)
small_and zero y hx hy = refl
small_and (suc zero) zero hx hy = refl
small_and (suc zero) (suc zero) hx hy = refl
small_and (suc zero) (suc (suc y)) hx hy = absurd (omega arith)
small_and (suc (suc x)) y hx hy = absurd (omega arith)

small_or : (x y : ℕ) → x < 2 → y < 2 → eqb (bit_or x y) 1 ≡ (eqb x 1 || eqb y 1)
small_or zero y hx hy = refl
small_or (suc zero) zero hx hy = refl
small_or (suc zero) (suc zero) hx hy = refl
small_or (suc zero) (suc (suc y)) hx hy = absurd (omega arith)
small_or (suc (suc x)) y hx hy = absurd (omega arith)

pub bit_of_and : (a b v : ℕ) → bit (bit_and a b) v ≡ (bit a v && bit b v)
unfolding bit
bit_of_and a b v =
    ap (λ (x : ℕ). eqb x 1) (ap (λ (x : ℕ). x % 2) (and_shr a b v) ∙ and_mod (a / 2 ^ v) (b / 2 ^ v) 1)
    ∙ small_and (a / 2 ^ v % 2) (b / 2 ^ v % 2) (omega arith) (omega arith)

pub bit_of_or : (a b v : ℕ) → bit (bit_or a b) v ≡ (bit a v || bit b v)
unfolding bit
bit_of_or a b v =
    ap (λ (x : ℕ). eqb x 1) (ap (λ (x : ℕ). x % 2) (or_shr a b v) ∙ or_mod (a / 2 ^ v) (b / 2 ^ v) 1)
    ∙ small_or (a / 2 ^ v % 2) (b / 2 ^ v % 2) (omega arith) (omega arith)

pub bit_none : (v : ℕ) → bit 0 v ≡ false
unfolding bit
bit_none v = ap (λ (x : ℕ). eqb (x % 2) 1) (zero-div (2 ^ v))

pub bit_pow : (v u : ℕ) → bit (2 ^ v) u ≡ eqb u v
bit_pow zero zero = bit_zero 1
bit_pow zero (suc u) = bit_suc 1 u ∙ bit_none u ∙ sym (eqb-suc-zero u)
bit_pow (suc v) zero =
    let e : 2 ^ suc v % 2 ≡ 0 = omega (arith, pow-suc 2 v) in
    bit_zero (2 ^ suc v) ∙ ap (λ (x : ℕ). eqb x 1) e ∙ sym (eqb-zero-suc v)
bit_pow (suc v) (suc u) =
    let e : 2 ^ suc v / 2 ≡ 2 ^ v = omega (arith, pow-suc 2 v) in
    bit_suc (2 ^ suc v) u ∙ ap (λ (x : ℕ). bit x u) e ∙ bit_pow v u ∙ sym (eqb-suc-suc u v)

-- 1 shifted by v, at width w
pub shl_one : (w v : ℕ) → v < w → 1 * 2 ^ v % 2 ^ w ≡ 2 ^ v
shl_one w v h = shl_exact {a = 1} 1 v w (omega arith) (omega arith) ∙ one-mul (2 ^ v)

pub bit_ones : (c u : ℕ) → bit (2 ^ c - 1) u ≡ ltb u c
bit_ones zero u = bit_none u ∙ sym (leb-suc-zero u)
bit_ones (suc c) zero =
    let e : (2 ^ suc c - 1) % 2 ≡ 1 = omega (arith, pow-suc 2 c, pow_pos c) in
    bit_zero (2 ^ suc c - 1) ∙ ap (λ (x : ℕ). eqb x 1) e ∙ sym (leb-suc-suc 0 c ∙ leb-zero c)
bit_ones (suc c) (suc u) =
    let e : (2 ^ suc c - 1) / 2 ≡ 2 ^ c - 1 = omega (arith, pow-suc 2 c, pow_pos c) in
    bit_suc (2 ^ suc c - 1) u ∙ ap (λ (x : ℕ). bit x u) e ∙ bit_ones c u ∙ sym (leb-suc-suc (suc u) c)

pub bit_above : (k m u : ℕ) → m < 2 ^ k → k ≤ u → bit m u ≡ false
unfolding bit
bit_above k m u h l = ap (λ (x : ℕ). eqb (x % 2) 1) (div-eq_of_lt (lt_of_lt_of_le h (pow_mono l)))

pub bit_below : (k m u : ℕ) → m < 2 ^ k → bit m u ≡ true → u < k
bit_below k m u h b = go (dec_lt u k)
  where
    go : Dec (u < k) → u < k
    go (yes l) = l
    go (no l) = absurd (false≢true (sym (bit_above k m u h (omega arith)) ∙ b))

same_parity : (x y : ℕ) → x < 2 → y < 2 → eqb x 1 ≡ eqb y 1 → x ≡ y
same_parity zero zero hx hy e = refl
same_parity zero (suc zero) hx hy e = cc
same_parity (suc zero) zero hx hy e = cc
same_parity (suc zero) (suc zero) hx hy e = refl
same_parity zero (suc (suc y)) hx hy e = absurd (omega arith)
same_parity (suc zero) (suc (suc y)) hx hy e = absurd (omega arith)
same_parity (suc (suc x)) y hx hy e = absurd (omega arith)

-- two numbers below 2 ^ k with the same bits there are equal
pub bit_ext : (k a b : ℕ) → a < 2 ^ k → b < 2 ^ k → ((u : ℕ) → u < k → bit a u ≡ bit b u) → a ≡ b
bit_ext zero a b ha hb e = omega arith
bit_ext (suc k) a b ha hb e =
    let half : a / 2 ≡ b / 2
    = bit_ext k (a / 2) (b / 2) (omega (arith, pow-suc 2 k)) (omega (arith, pow-suc 2 k))
    (λ (u : ℕ) l. sym (bit_suc a u) ∙ e (suc u) (omega arith) ∙ bit_suc b u) in
    let low : a % 2 ≡ b % 2 = same_parity (a % 2) (b % 2) (omega arith) (omega arith) (sym (bit_zero a) ∙ e 0 (omega arith) ∙ bit_zero b) in
    omega arith

doubled : (x k : ℕ) → x * 2 ^ suc k ≡ 2 * (x * 2 ^ k)
doubled x k = ap (λ (y : ℕ). x * y) (pow-suc 2 k) ∙ omega arith

-- a mask: its bound, its bits, and nothing else has both
pub mask_lt : (f : ℕ → Bool) (k : ℕ) → mask_of f k < 2 ^ k
unfolding mask_of
mask_lt f zero = omega arith
mask_lt f (suc k) = go (f k) (mask_lt f k)
  where
    go : (b : Bool) → mask_of f k < 2 ^ k → cond b 1 0 * 2 ^ k + mask_of f k < 2 ^ suc k
    go true h = omega (arith, pow-suc 2 k)
    go false h = omega (arith, pow-suc 2 k)

low_bit : (x m k u : ℕ) → u < k → m < 2 ^ k → bit (x * 2 ^ k + m) u ≡ bit m u
low_bit x m zero u h l = absurd (omega arith)
low_bit x m (suc k) zero h l =
    let e : (x * 2 ^ suc k + m) % 2 ≡ m % 2 = omega (arith, doubled x k) in
    bit_zero (x * 2 ^ suc k + m) ∙ ap (λ (y : ℕ). eqb y 1) e ∙ sym (bit_zero m)
low_bit x m (suc k) (suc u) h l =
    let e : (x * 2 ^ suc k + m) / 2 ≡ x * 2 ^ k + m / 2 = omega (arith, doubled x k) in
    bit_suc (x * 2 ^ suc k + m) u
    ∙ (ap (λ (y : ℕ). bit y u) e ∙ (low_bit x (m / 2) k u (omega arith) (omega (arith, pow-suc 2 k)) ∙ sym (bit_suc m u)))

pub bit_mask : (f : ℕ → Bool) (k v : ℕ) → v < k → bit (mask_of f k) v ≡ f v
unfolding bit mask_of
bit_mask f zero v h = absurd (omega arith)
bit_mask f (suc k) v h = go (ℕ_discrete v k) (λ p. bit_mask f k v p)
  where
    top_bit : (b : Bool) → eqb (cond b 1 0 % 2) 1 ≡ b
    top_bit true = refl
    top_bit false = refl

    go : Dec (v ≡ k) → (v < k → bit (mask_of f k) v ≡ f v) → bit (cond (f k) 1 0 * 2 ^ k + mask_of f k) v ≡ f v
    go (yes e) ih = rw e (ap (λ (x : ℕ). eqb (x % 2) 1) (high (cond (f k) 1 0) k (mask_lt f k)) ∙ top_bit (f k))
    go (no n) ih = low_bit (cond (f k) 1 0) (mask_of f k) k v (omega arith) (mask_lt f k) ∙ ih (omega arith)

pub mask_bit : (f : ℕ → Bool) (k u : ℕ) → bit (mask_of f k) u ≡ (ltb u k && f u)
mask_bit f k u = go (dec_lt u k)
  where
    go : Dec (u < k) → bit (mask_of f k) u ≡ (ltb u k && f u)
    go (yes l) = rw (lt-ltb u k l) (bit_mask f k u l)
    go (no l) = rw (le-ltb u k (omega arith)) (bit_above k (mask_of f k) u (mask_lt f k) (omega arith))

pub mask_is : (f : ℕ → Bool) (k m : ℕ) → m < 2 ^ k → ((u : ℕ) → u < k → bit m u ≡ f u) → m ≡ mask_of f k
mask_is f k m h e = bit_ext k m (mask_of f k) h (mask_lt f k) (λ u l. e u l ∙ sym (bit_mask f k u l))

pub mask_same : (f g : ℕ → Bool) (k : ℕ) → ((u : ℕ) → u < k → f u ≡ g u) → mask_of f k ≡ mask_of g k
mask_same f g k e = mask_is g k (mask_of f k) (mask_lt f k) (λ u l. bit_mask f k u l ∙ e u l)

-- the masks that are built by shift, `and` and `or`
pub ones_mask : (w c d : ℕ) → c ≡ min d w → 2 ^ c - 1 ≡ mask_of (λ u. ltb u d) w
ones_mask w c d e =
    mask_is (λ u. ltb u d) w (2 ^ c - 1) (omega (arith, pow_mono {i = c} {j = w} (omega arith), pow_pos c)) (λ u l. bit_ones c u ∙ same u l (dec_lt u d))
  where
    same : (u : ℕ) → u < w → Dec (u < d) → ltb u c ≡ ltb u d
    same u l (yes h) = lt-ltb u c (omega arith) ∙ sym (lt-ltb u d h)
    same u l (no h) = le-ltb u c (omega arith) ∙ sym (le-ltb u d (omega arith))

pub meet_mask : (w a b : ℕ) → a < 2 ^ w → b < 2 ^ w → bit_and a b ≡ mask_of (λ u. bit a u && bit b u) w
meet_mask w a b ha hb = mask_is (λ u. bit a u && bit b u) w (bit_and a b) (and_lt w a b ha hb) (λ u l. bit_of_and a b u)

pub put_mask : (w m v : ℕ) → m < 2 ^ w → v < w → bit_or m (1 * 2 ^ v % 2 ^ w) ≡ mask_of (λ u. bit m u || eqb u v) w
put_mask w m v h k =
    ap (λ (x : ℕ). bit_or m x) (shl_one w v k)
    ∙ mask_is (λ u. bit m u || eqb u v) w (bit_or m (2 ^ v)) (or_lt w m (2 ^ v) h (pow-lt k))
    (λ u l. bit_of_or m (2 ^ v) u ∙ ap (λ (b : Bool). bit m u || b) (bit_pow v u))

pub put_none : (w m v : ℕ) → m < 2 ^ w → w ≤ v → m ≡ mask_of (λ u. bit m u || eqb u v) w
put_none w m v h k =
    mask_is (λ u. bit m u || eqb u v) w m h (λ u l. sym (ap (λ (b : Bool). bit m u || b) (ne_eqb u v (λ e. omega arith)) ∙ or-false (bit m u)))

-- a number below 2 ^ k: nothing is left above bit k, and every number of w bits is one, where k is at least w
pub none_above : (m k : ℕ) → eqb (m / 2 ^ k) 0 ≡ ltb m (2 ^ k)
none_above m k = go (dec_lt m (2 ^ k))
  where
    go : Dec (m < 2 ^ k) → eqb (m / 2 ^ k) 0 ≡ ltb m (2 ^ k)
    go (yes h) = eq-eqb (m / 2 ^ k) 0 (div-eq_of_lt h) ∙ sym (lt-ltb m (2 ^ k) h)
    go (no h) = ne_eqb (m / 2 ^ k) 0 (λ e. h (omega (arith, (div-lt_iff_lt-mul {x = m} {y = 1} (pow_pos k)).0 (omega arith)))) ∙ sym (le-ltb m (2 ^ k) (omega arith))

pub below_width : (w m k : ℕ) → m < 2 ^ w → w ≤ k → ltb m (2 ^ k) ≡ true
below_width w m k h l = lt-ltb m (2 ^ k) (lt_of_lt_of_le h (pow_mono l))

-- one more than the largest mask of k values, where a mask has room for w
pub below_bound : (w m k : ℕ) → m < 2 ^ w → ltb m (2 ^ min k w) ≡ ltb m (2 ^ k)
below_bound w m k h = go (dec_lt k w)
  where
    go : Dec (k < w) → ltb m (2 ^ min k w) ≡ ltb m (2 ^ k)
    go (yes l) = let e : min k w ≡ k = omega arith in rw e
    go (no l) = let e : min k w ≡ w = omega arith in rw e (lt-ltb m (2 ^ w) h ∙ sym (below_width w m k h (omega arith)))

pub bound_most : (w k : ℕ) → (1 ≤ 2 ^ min k w) × (2 ^ min k w ≤ 2 ^ w)
bound_most w k = (pow_pos (min k w), pow_mono {i = min k w} {j = w} (omega arith))

-- a mask with no bit from k on
pub mask_cut : (f : ℕ → Bool) (k n : ℕ) → ((u : ℕ) → k ≤ u → f u ≡ false) → mask_of f (k + n) ≡ mask_of f k
unfolding mask_of
mask_cut f k zero h = let e : k + 0 ≡ k = omega arith in rw e
mask_cut f k (suc n) h = let e : k + suc n ≡ suc (k + n) = omega arith in rw (e, h (k + n) (omega arith), mask_of) (omega (arith, mask_cut f k n h))

-- the bit of the next number; behind the last it is lost, and not used
pub next_bit : (w k b : ℕ) → k < w → b ≡ 1 * 2 ^ k % 2 ^ w → b * 2 ^ 1 % 2 ^ w ≡ 1 * 2 ^ (k + 1) % 2 ^ w
next_bit w k b h d =
    let e : 2 ^ k * 2 ^ 1 ≡ 1 * 2 ^ suc k = omega (arith, pow-suc 2 k) in
    rw (d, shl_one w k h, add-one k) (ap (λ (x : ℕ). x % 2 ^ w) e)

-- one number more: its bit is put in where f picks it
pub mask_more : (f : ℕ → Bool) (k m : ℕ) → m ≡ mask_of f k → f k ≡ true → bit_or m (2 ^ k) ≡ mask_of f (suc k)
mask_more f k m e h =
    mask_is f (suc k) (bit_or m (2 ^ k)) (or_lt (suc k) m (2 ^ k) (omega (arith, small, pow-suc 2 k)) (pow-lt {i = k} {j = suc k} (omega arith)))
    (λ u l. bit_of_or m (2 ^ k) u ∙ (ap (λ (b : Bool). bit m u || b) (bit_pow k u) ∙ go u l (ℕ_discrete u k)))
  where
    small : m < 2 ^ k
    small = rw e (mask_lt f k)

    go : (u : ℕ) → u < suc k → Dec (u ≡ k) → (bit m u || eqb u k) ≡ f u
    go u l (yes d) = rw (d, bit_above k m k small (omega arith), eq-eqb k k refl) (sym h)
    go u l (no d) = rw (ne_eqb u k d) (or-false (bit m u) ∙ rw e (bit_mask f k u (omega arith)))

pub mask_skip : (f : ℕ → Bool) (k : ℕ) → f k ≡ false → mask_of f (suc k) ≡ mask_of f k
unfolding mask_of
mask_skip f k h = rw h (omega arith)

-- a number that is not 0 has a bit
pub some_bit : (k x : ℕ) → x < 2 ^ k → (x ≡ 0 → ⊥) → (v : ℕ) × (v < k) × (bit x v ≡ true)
some_bit zero x h n = absurd (n (omega arith))
some_bit (suc k) x h n = go (ℕ_discrete (x % 2) 1) (λ l m. some_bit k (x / 2) l m)
  where
    go : Dec (x % 2 ≡ 1) → (x / 2 < 2 ^ k → (x / 2 ≡ 0 → ⊥) → (v : ℕ) × (v < k) × (bit (x / 2) v ≡ true)) → (v : ℕ) × (v < suc k) × (bit x v ≡ true)
    go (yes e) rec = (0, omega arith, bit_zero x ∙ eq-eqb (x % 2) 1 e)
    go (no m) rec =
        let r = rec (omega (arith, pow-suc 2 k)) (λ e. n (omega arith)) in
        (suc r.0, omega (arith, r.1), bit_suc x r.0 ∙ r.2)
