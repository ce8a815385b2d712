-- Laws of decimal numbers: a number's digits read back as the number, and what a text reads as tells what it is. Assumes nothing.
use mathlib.Core.Path.{◌≡◌, refl, ap, sym, ◌∙◌}
use mathlib.Core.Logic.{◌⊎◌, inl, inr, ⊎_elim, ◌↔◌}
use mathlib.Core.Bool.{Bool, true, false, cond, ◌&&◌, and-false, false≢true}
use mathlib.Core.List.{List, [], ◌∷◌, ◌++◌, append_assoc, append-nil}
use Prim.Native.Nat.{ℕ, zero, suc, ◌+◌, ◌-◌, ◌*◌, ◌/◌, ◌%◌, ◌^◌, ◌≤◌, ◌<◌}
use native.Mathlib.Omega.{arith}
use native.Mathlib.Decide.{dec_lt}
use native.Mathlib.Nat.{pow-suc}
use lib.Dec.{leb, eqb}
use lib.ListN.{length, length-append}
use borrow.Author.Tests.{lt-ltb, le-ltb, le-leb, lt-leb, eq-eqb, ne_eqb, leb-true, eqb-true}
use Rattle.meaning.specs.Lists.{all}
use Rattle.rules.proofs.Checks.{both, or_cases, never}
use Rattle.text.specs.Bytes.{tab, nought, is_digit}
use Rattle.text.specs.Numbers.{decimal_in, decimal, digits, past, value, plain, field_end, Field, number, malformed, outside, read_number, tabbed, read_field}

within_small : (f n : ℕ) → n < 10 → decimal_in f n ≡ (nought + n) ∷ []
unfolding decimal_in
within_small zero n h = refl
within_small (suc f) n h = rw (lt-ltb n 10 h, decimal_in)

within_step : (f n : ℕ) → 10 ≤ n → decimal_in (suc f) n ≡ decimal_in f (n / 10) ++ (nought + n % 10) ∷ []
unfolding decimal_in
within_step f n h = rw (le-ltb n 10 h, decimal_in)

fuel : (f g n : ℕ) → n ≤ f → n ≤ g → decimal_in f n ≡ decimal_in g n
fuel zero g n hf hg = within_small zero n (omega arith) ∙ sym (within_small g n (omega arith))
fuel (suc f) zero n hf hg = within_small (suc f) n (omega arith) ∙ sym (within_small zero n (omega arith))
fuel (suc f) (suc g) n hf hg = go (dec_lt n 10) (λ a b. fuel f g (n / 10) a b)
  where
    go : Dec (n < 10) → (n / 10 ≤ f → n / 10 ≤ g → decimal_in f (n / 10) ≡ decimal_in g (n / 10)) → decimal_in (suc f) n ≡ decimal_in (suc g) n
    go (yes h) rec = within_small (suc f) n h ∙ sym (within_small (suc g) n h)
    go (no h) rec = rw (within_step f n (omega arith), within_step g n (omega arith), rec (omega arith) (omega arith))

-- one digit more
pub decimal_small : (n : ℕ) → n < 10 → decimal n ≡ (nought + n) ∷ []
unfolding decimal
decimal_small n h = within_small n n h

pub decimal_step : (n : ℕ) → 10 ≤ n → decimal n ≡ decimal (n / 10) ++ (nought + n % 10) ∷ []
unfolding decimal
decimal_step zero h = absurd (let z : suc 0 ≤ 0 = omega arith in omega arith)
decimal_step (suc n) h = within_step n (suc n) h ∙ ap (λ (l : List ℕ). l ++ (nought + suc n % 10) ∷ []) (fuel n (suc n / 10) (suc n / 10) (omega arith) (omega arith))

-- a number below 10 ^ (k + 1) has at most k + 1 digits
pub decimal_length : (k n : ℕ) → n < 10 ^ suc k → length (decimal n) ≤ suc k
decimal_length zero n h = rw (decimal_small n h) (omega arith)
decimal_length (suc k) n h = go (dec_lt n 10) (λ l. decimal_length k (n / 10) l)
  where
    go : Dec (n < 10) → (n / 10 < 10 ^ suc k → length (decimal (n / 10)) ≤ suc k) → length (decimal n) ≤ suc (suc k)
    go (yes l) rec = rw (decimal_small n l) (omega arith)
    go (no l) rec =
        let p : 10 ^ suc (suc k) ≡ 10 ^ suc k * 10 = pow-suc 10 (suc k) in
        let q : length (decimal (n / 10)) ≤ suc k = rec (omega arith) in
        rw (decimal_step n (omega arith), length-append) (omega arith)

-- a field has its digits and what ends it
pub field_length : (n b : ℕ) (s : List ℕ) → length (decimal n ++ b ∷ s) ≡ length (decimal n) + suc (length s)
field_length n b s = length-append (decimal n) (b ∷ s)

-- induction along the digits
by_digits : (P : ℕ → Type 0) → ((n : ℕ) → n < 10 → P n) → ((n : ℕ) → 10 ≤ n → P (n / 10) → P n) → (f n : ℕ) → n ≤ f → P n
by_digits P small step zero n h = small n (omega arith)
by_digits P small step (suc f) n h = go (dec_lt n 10) (λ a. by_digits P small step f (n / 10) a)
  where
    go : Dec (n < 10) → (n / 10 ≤ f → P (n / 10)) → P n
    go (yes l) rec = small n l
    go (no l) rec = step n (omega arith) (rec (omega arith))

value_append : (a : ℕ) (s t : List ℕ) → value a (s ++ t) ≡ value (value a s) t
unfolding value
value_append a [] t = refl
value_append a (d ∷ s) t = value_append (a * 10 + (d - nought)) s t

value_one : (a m : ℕ) → value a ((nought + m) ∷ []) ≡ a * 10 + m
unfolding value
value_one a m = omega arith

pub value_decimal : (n : ℕ) → value 0 (decimal n) ≡ n
value_decimal n = by_digits (λ (m : ℕ). value 0 (decimal m) ≡ m) small step n n (omega arith)
  where
    small : (m : ℕ) → m < 10 → value 0 (decimal m) ≡ m
    small m h = rw (decimal_small m h, value_one) (omega arith)

    step : (m : ℕ) → 10 ≤ m → value 0 (decimal (m / 10)) ≡ m / 10 → value 0 (decimal m) ≡ m
    step m h e = rw (decimal_step m h, value_append, e, value_one) (omega arith)

-- a list of digits
abbrev pub AllDigits : List ℕ → Type 0
AllDigits [] = Unit
AllDigits (d ∷ ds) = (nought ≤ d) × (d ≤ 57) × AllDigits ds

all_append : (s t : List ℕ) → AllDigits s → AllDigits t → AllDigits (s ++ t)
all_append [] t hs ht = ht
all_append (d ∷ s) t hs ht = (hs.0, hs.1, all_append s t hs.2 ht)

pub decimal_all : (n : ℕ) → AllDigits (decimal n)
decimal_all n = by_digits (λ (m : ℕ). AllDigits (decimal m)) small step n n (omega arith)
  where
    small : (m : ℕ) → m < 10 → AllDigits (decimal m)
    small m h = rw (decimal_small m h) (omega arith)

    step : (m : ℕ) → 10 ≤ m → AllDigits (decimal (m / 10)) → AllDigits (decimal m)
    step m h e = rw (decimal_step m h) (all_append (decimal (m / 10)) ((nought + m % 10) ∷ []) e (omega arith))

-- the text begins with no digit
abbrev pub NoDigit : List ℕ → Type 0
NoDigit [] = Unit
NoDigit (b ∷ s) = is_digit b ≡ false

digit_is : (d : ℕ) → nought ≤ d → d ≤ 57 → is_digit d ≡ true
digit_is d a b = rw (le-leb nought d a, le-leb d 57 b)

pub is_digit_lem : (d : ℕ) → is_digit d ≡ true → (nought ≤ d) × (d ≤ 57)
is_digit_lem d e = let w = both (leb nought d) (leb d 57) e in (leb-true nought d w.0, leb-true d 57 w.1)

pub digits_only : (ds : List ℕ) → all is_digit ds ≡ true → AllDigits ds
digits_only [] h = tt
digits_only (d ∷ ds) h =
    let w : (is_digit d ≡ true) × (all is_digit ds ≡ true) = both (is_digit d) (all is_digit ds) h in
    let x = is_digit_lem d w.0 in
    (x.0, x.1, digits_only ds w.1)

pub digits_of : (ds r : List ℕ) → AllDigits ds → NoDigit r → digits (ds ++ r) ≡ ds
unfolding digits
digits_of [] [] h n = refl
digits_of [] (b ∷ r) h n = rw n
digits_of (d ∷ ds) r h n = rw (digit_is d h.0 h.1, digits_of ds r h.2 n)

pub past_of : (ds r : List ℕ) → AllDigits ds → NoDigit r → past (ds ++ r) ≡ r
unfolding past
past_of [] [] h n = refl
past_of [] (b ∷ r) h n = rw n
past_of (d ∷ ds) r h n = rw (digit_is d h.0 h.1) (past_of ds r h.2 n)

-- the two parts make the whole, and the first is digits
pub digits_past : (s : List ℕ) → digits s ++ past s ≡ s
unfolding digits past
digits_past [] = refl
digits_past (b ∷ s) = go (is_digit b) refl (digits_past s)
  where
    go : (t : Bool) → is_digit b ≡ t → digits s ++ past s ≡ s → cond (is_digit b) (b ∷ digits s) [] ++ cond (is_digit b) (past s) (b ∷ s) ≡ b ∷ s
    go true e h = rw e (ap (λ (l : List ℕ). b ∷ l) h)
    go false e h = rw e

digits_all : (s : List ℕ) → AllDigits (digits s)
unfolding digits
digits_all [] = tt
digits_all (b ∷ s) = go (is_digit b) refl (digits_all s)
  where
    go : (t : Bool) → is_digit b ≡ t → AllDigits (digits s) → AllDigits (cond (is_digit b) (b ∷ digits s) [])
    go true e h = let w = is_digit_lem b e in rw e (w.0, w.1, h)
    go false e h = rw e tt

-- a first digit that is not zero
abbrev Lead : List ℕ → Type 0
Lead [] = ⊥
Lead (d ∷ ds) = d ≡ nought → ⊥

lead_append : (s t : List ℕ) → Lead s → Lead (s ++ t)
lead_append [] t h = absurd h
lead_append (d ∷ s) t h = h

decimal_lead : (n : ℕ) → 1 ≤ n → Lead (decimal n)
decimal_lead n = by_digits (λ (m : ℕ). 1 ≤ m → Lead (decimal m)) small step n n (omega arith)
  where
    small : (m : ℕ) → m < 10 → 1 ≤ m → Lead (decimal m)
    small m h l = rw (decimal_small m h) (omega arith)

    step : (m : ℕ) → 10 ≤ m → (1 ≤ m / 10 → Lead (decimal (m / 10))) → 1 ≤ m → Lead (decimal m)
    step m h e l = rw (decimal_step m h) (lead_append (decimal (m / 10)) _ (e (omega arith)))

plain_lead : (ds : List ℕ) → Lead ds → plain ds ≡ true
unfolding plain
plain_lead [] h = absurd h
plain_lead (d ∷ []) h = refl
plain_lead (d ∷ e ∷ ds) h = rw (ne_eqb d nought h)

plain_decimal : (n : ℕ) → plain (decimal n) ≡ true
plain_decimal n = go (dec_lt n 1)
  where
    go : Dec (n < 1) → plain (decimal n) ≡ true
    go (yes h) = rw (decimal_small n (omega arith)) (unfold plain in refl)
    go (no h) = plain_lead (decimal n) (decimal_lead n (omega arith))

decimal_value : (m : ℕ) (ds : List ℕ) → 1 ≤ m → AllDigits ds → decimal (value m ds) ≡ decimal m ++ ds
unfolding value
decimal_value m [] h a = sym (append-nil (decimal m))
decimal_value m (d ∷ ds) h a =
    decimal_value (m * 10 + (d - nought)) ds (omega arith) a.2
    ∙ rw (decimal_step (m * 10 + (d - nought)) (omega arith), quot, rest, append_assoc)
  where
    quot : (m * 10 + (d - nought)) / 10 ≡ m
    quot = let h1 : d ≤ 57 = a.1 in omega arith

    rest : nought + (m * 10 + (d - nought)) % 10 ≡ d
    rest = let h0 : nought ≤ d = a.0 in let h1 : d ≤ 57 = a.1 in omega arith

decimal_plain : (ds : List ℕ) → plain ds ≡ true → AllDigits ds → decimal (value 0 ds) ≡ ds
unfolding value plain
decimal_plain [] p a = absurd (false≢true p)
decimal_plain (d ∷ []) p a =
    let h0 : nought ≤ d = a.0 in
    let h1 : d ≤ 57 = a.1 in
    let e : nought + (0 * 10 + (d - nought)) ≡ d = omega arith in
    decimal_small (0 * 10 + (d - nought)) (omega arith) ∙ rw e
decimal_plain (d ∷ e ∷ ds) p a =
    let h0 : nought ≤ d = a.0 in
    let h1 : d ≤ 57 = a.1 in
    let n : d ≡ nought → ⊥ = λ q. absurd (false≢true (rw (eq-eqb d nought q) at p)) in
    let x : nought + (0 * 10 + (d - nought)) ≡ d = omega arith in
    decimal_value (0 * 10 + (d - nought)) (e ∷ ds) (omega arith) a.2
    ∙ rw (decimal_small (0 * 10 + (d - nought)) (omega arith), x)

pub end_no_digit : (r : List ℕ) → field_end r ≡ true → NoDigit r
unfolding field_end
end_no_digit [] e = tt
end_no_digit (b ∷ r) e =
    or_cases (eqb b 9) (eqb b 10) e
    (λ q. let h : b ≡ 9 = eqb-true b 9 q in rw (lt-leb nought b (omega arith)))
    (λ q. let h : b ≡ 10 = eqb-true b 10 q in rw (lt-leb nought b (omega arith)))

-- a number is told by its digits, whatever follows them
pub decimal_one : (r : List ℕ) (m n : ℕ) → field_end r ≡ true → decimal m ++ r ≡ decimal n ++ r → m ≡ n
decimal_one r m n e d = sym (told m) ∙ (ap (λ (l : List ℕ). value 0 (digits l)) d ∙ told n)
  where
    told : (k : ℕ) → value 0 (digits (decimal k ++ r)) ≡ k
    told k = rw (digits_of (decimal k) r (decimal_all k) (end_no_digit r e), value_decimal k)

-- a number, written, reads as itself if it is in range
read_written : (lo hi n : ℕ) (r : List ℕ) → field_end r ≡ true → read_number lo hi (decimal n ++ r) ≡ cond (leb lo n && leb n hi) (number n r) outside
unfolding read_number
read_written lo hi n r e =
    rw (digits_of (decimal n) r (decimal_all n) (end_no_digit r e), past_of (decimal n) r (decimal_all n) (end_no_digit r e), plain_decimal n, e, value_decimal n)

pub read_decimal : (lo hi n : ℕ) (r : List ℕ) → lo ≤ n → n ≤ hi → field_end r ≡ true → read_number lo hi (decimal n ++ r) ≡ number n r
read_decimal lo hi n r l h e = rw (read_written lo hi n r e, le-leb lo n l, le-leb n hi h)

read_outside : (lo hi n : ℕ) (r : List ℕ) → (n < lo) ⊎ (hi < n) → field_end r ≡ true → read_number lo hi (decimal n ++ r) ≡ outside
read_outside lo hi n r (inl h) e = rw (read_written lo hi n r e, lt-leb lo n h)
read_outside lo hi n r (inr h) e = rw (read_written lo hi n r e, lt-leb n hi h, and-false (leb lo n))

-- what a text is, told by what it reads as
pub record Numbered (lo hi : ℕ) (s : List ℕ) (n : ℕ) (r : List ℕ) : Type 0 where
  pub text : s ≡ decimal n ++ r
  pub low : lo ≤ n
  pub high : n ≤ hi
  pub ends : field_end r ≡ true

abbrev ReadAs : ℕ → ℕ → List ℕ → Field → Type 0
ReadAs lo hi s (number n r) = Numbered lo hi s n r
ReadAs lo hi s malformed = (n : ℕ) (r : List ℕ) → s ≡ decimal n ++ r → field_end r ≡ true → ⊥
ReadAs lo hi s outside = (n : ℕ) × (r : List ℕ) × (s ≡ decimal n ++ r) × (field_end r ≡ true) × ((n < lo) ⊎ (hi < n))

written_as : (lo hi n : ℕ) (r : List ℕ) → field_end r ≡ true → ReadAs lo hi (decimal n ++ r) (read_number lo hi (decimal n ++ r))
written_as lo hi n r e = go (dec_lt n lo) (dec_lt hi n)
  where
    go : Dec (n < lo) → Dec (hi < n) → ReadAs lo hi (decimal n ++ r) (read_number lo hi (decimal n ++ r))
    go (yes h) d = rw (read_outside lo hi n r (inl h) e) (n, r, refl, e, inl h)
    go (no h) (yes k) = rw (read_outside lo hi n r (inr k) e) (n, r, refl, e, inr k)
    go (no h) (no k) =
        rw (read_decimal lo hi n r (omega arith) (omega arith) e)
        (record { text = refl; low = omega arith; high = omega arith; ends = e })

never_malformed : (lo hi n : ℕ) (r : List ℕ) → field_end r ≡ true → read_number lo hi (decimal n ++ r) ≡ malformed → ⊥
never_malformed lo hi n r e m = let w : ReadAs lo hi (decimal n ++ r) malformed = rw m at (written_as lo hi n r e) in w n r refl e

abbrev Written : List ℕ → Type 0
Written s = (n : ℕ) × (r : List ℕ) × (s ≡ decimal n ++ r) × (field_end r ≡ true)

written_or : (lo hi : ℕ) (s : List ℕ) → Written s ⊎ (read_number lo hi s ≡ malformed)
unfolding read_number
written_or lo hi s = go (plain (digits s) && field_end (past s)) refl
  where
    go : (t : Bool) → (plain (digits s) && field_end (past s)) ≡ t → Written s ⊎ (read_number lo hi s ≡ malformed)
    go true p =
        let w : (plain (digits s) ≡ true) × (field_end (past s) ≡ true) = both _ _ p in
        inl (value 0 (digits s), past s, sym (digits_past s) ∙ rw (decimal_plain (digits s) w.0 (digits_all s)), w.1)
    go false p = inr (rw p)

read_as : (lo hi : ℕ) (s : List ℕ) → ReadAs lo hi s (read_number lo hi s)
read_as lo hi s =
    ⊎_elim
    (λ w. rw w.2 (written_as lo hi w.0 w.1 w.3))
    (λ m. rw m (λ n r t e. never_malformed lo hi n r e (rw t at m)))
    (written_or lo hi s)

pub number_read : (lo hi : ℕ) (s : List ℕ) (n : ℕ) (r : List ℕ) → read_number lo hi s ≡ number n r → Numbered lo hi s n r
number_read lo hi s n r e = rw e at (read_as lo hi s)

-- MALFORMED AND OUT OF RANGE, whatever the digit count
pub malformed_exactly : (lo hi : ℕ) (s : List ℕ) → (read_number lo hi s ≡ malformed) ↔ ((n : ℕ) (r : List ℕ) → s ≡ decimal n ++ r → field_end r ≡ true → ⊥)
malformed_exactly lo hi s =
    (λ e. rw e at (read_as lo hi s), λ none. ⊎_elim (λ w. absurd (none w.0 w.1 w.2 w.3)) (λ m. m) (written_or lo hi s))

pub outside_exactly : (lo hi : ℕ) (s : List ℕ) → (read_number lo hi s ≡ outside) ↔ ((n : ℕ) × (r : List ℕ) × (s ≡ decimal n ++ r) × (field_end r ≡ true) × ((n < lo) ⊎ (hi < n)))
outside_exactly lo hi s =
    (λ e. rw e at (read_as lo hi s), λ o. ap (read_number lo hi) o.2 ∙ read_outside lo hi o.0 o.1 o.4 o.3)

-- a field that is not the last
pub field_decimal : (lo hi n : ℕ) (r : List ℕ) → lo ≤ n → n ≤ hi → read_field lo hi (decimal n ++ tab ∷ r) ≡ number n r
unfolding tabbed field_end
field_decimal lo hi n r l h = rw (read_decimal lo hi n (tab ∷ r) l h refl)

pub record Fielded (lo hi : ℕ) (s : List ℕ) (n : ℕ) (r : List ℕ) : Type 0 where
  pub text : s ≡ decimal n ++ tab ∷ r
  pub low : lo ≤ n
  pub high : n ≤ hi

tabbed_read : (x : Field) (n : ℕ) (r : List ℕ) → tabbed x ≡ number n r → x ≡ number n (tab ∷ r)
unfolding tabbed
tabbed_read (number m []) n r e = never cc
tabbed_read (number m (b ∷ s)) n r e = go (eqb b tab) refl
  where
    go : (t : Bool) → eqb b tab ≡ t → number m (b ∷ s) ≡ number n (tab ∷ r)
    go true h = let x : b ≡ tab = eqb-true b tab h in let y : number m s ≡ number n r = rw h at e in cc
    go false h = let x : malformed ≡ number n r = rw h at e in never cc
tabbed_read malformed n r e = never cc
tabbed_read outside n r e = never cc

pub field_read : (lo hi : ℕ) (s : List ℕ) (n : ℕ) (r : List ℕ) → read_field lo hi s ≡ number n r → Fielded lo hi s n r
field_read lo hi s n r e =
    let h : Numbered lo hi s n (tab ∷ r) = number_read lo hi s n (tab ∷ r) (tabbed_read (read_number lo hi s) n r e) in
    record { text = h.text; low = h.low; high = h.high }
