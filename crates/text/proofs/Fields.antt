-- Laws that join the reader, which takes a line from its front, with the tests of the line's fields: each field is one step. Assumes nothing.
use mathlib.Core.Path.{◌≡◌, refl, ap, sym, ◌∙◌}
use mathlib.Core.Bool.{Bool, true, false, cond, ◌&&◌, and-false}
use mathlib.Core.List.{List, [], ◌∷◌, ◌++◌}
use Prim.Native.Nat.{ℕ, suc, ◌+◌, ◌-◌, ◌≤◌, ◌<◌}
use native.Mathlib.Omega.{arith}
use lib.Dec.{leb, eqb}
use lib.ListN.{length, get_or, drop, length-drop, get_or-eq_default}
use lib.Seq.{drop-cons}
use borrow.Author.Tests.{eq-eqb, ne_eqb, leb-true, eqb-true, eqb-false}
use Rattle.std.specs.Prelude.{Err}
use Rattle.meaning.specs.Lists.{all, any}
use Rattle.rules.proofs.Checks.{both, never}
use Rattle.text.specs.Bytes.{tab, feed, is_digit, is_small}
use Rattle.text.specs.Numbers.{digits, past, value, plain, field_end, Field, number, malformed, outside, read_number, tabbed, read_field}
use Rattle.text.specs.Lines.{Judged, other, strip, on_strip, on_field, ending, close}
use Rattle.text.specs.Fields.{IsLine, fields, field, is_word, Test, test, judged, is_number, number_test, last_tests}
use Rattle.text.specs.declared.lines.Fault.TheVariants.{Form, Range}
use Rattle.text.proofs.Decimals.{digits_only, digits_of, past_of, end_no_digit}

-- no byte of a field is a tab or a line feed
abbrev InField : List ℕ → Type 0
InField [] = Unit
InField (b ∷ f) = (b ≡ tab → ⊥) × (b ≡ feed → ⊥) × InField f

-- A LINE IS ITS FIRST FIELD and what ends that
data Ends : List ℕ → Type 0 where
  none : Ends []
  fed : Ends (feed ∷ [])
  tabs : {t : List ℕ} → IsLine t → Ends (tab ∷ t)

data Front : List ℕ → Type 0 where
  ended : (f : List ℕ) {r : List ℕ} → InField f → Ends r → Front (f ++ r)

front_more : (b : ℕ) {s : List ℕ} → (b ≡ tab → ⊥) → (b ≡ feed → ⊥) → Front s → Front (b ∷ s)
front_more b n m (ended f h e) = ended (b ∷ f) (n, m, h) e

has_front : (s : List ℕ) → IsLine s → Front s
has_front [] h = ended [] tt none
has_front (b ∷ s) h = go (eqb b tab) refl (eqb b feed) refl (has_front s h.1)
  where
    go : (t : Bool) → eqb b tab ≡ t → (u : Bool) → eqb b feed ≡ u → Front s → Front (b ∷ s)
    go true e u d g = rw (eqb-true b tab e) (ended [] tt (tabs h.1))
    go false e true d g = let x : b ≡ feed = eqb-true b feed d in rw (x, h.0 x) (ended [] tt fed)
    go false e false d g = front_more b (eqb-false b tab e) (eqb-false b feed d) g

fields_front : (f r : List ℕ) → InField f → Ends r → fields (f ++ r) ≡ f ∷ drop 1 (fields r)
unfolding fields
fields_front [] r h none = refl
fields_front [] r h fed = refl
fields_front [] r h (tabs l) = refl
fields_front (b ∷ f) r h e = rw (ne_eqb b feed h.1, ne_eqb b tab h.0, fields_front f r h.2 e)

feeds_front : (f r : List ℕ) → InField f → any (eqb feed) (f ++ r) ≡ any (eqb feed) r
feeds_front [] r h = refl
feeds_front (b ∷ f) r h = rw (ne_eqb feed b (λ e. h.1 (sym e))) (feeds_front f r h.2)

-- s is what a line l has from its field k on
pub record FromField (l : List ℕ) (k : ℕ) (s : List ℕ) : Type 0 where
  pub line : IsLine s
  pub parts : drop k (fields l) ≡ fields s
  pub feeds : any (eqb feed) l ≡ any (eqb feed) s

-- what follows field k of a line: nothing, its line feed, or a tab and further fields
data Behind (l : List ℕ) (k : ℕ) : List ℕ → Type 0 where
  cut : length (fields l) ≡ suc k → any (eqb feed) l ≡ false → Behind l k []
  whole : length (fields l) ≡ suc k → any (eqb feed) l ≡ true → Behind l k (feed ∷ [])
  more : {t : List ℕ} → FromField l (suc k) t → Behind l k (tab ∷ t)

-- so from any of its fields on, a line is that field and what follows it
data Parted (l : List ℕ) (k : ℕ) : List ℕ → Type 0 where
  split : {r : List ℕ} → k < length (fields l) → InField (field k l) → Behind l k r → Parted l k (field k l ++ r)

drop_front : {A : Type 0} (n : ℕ) (xs : List A) (x : A) (ys : List A) (d : A) → drop n xs ≡ x ∷ ys → (get_or xs n d ≡ x) × (drop (suc n) xs ≡ ys) × (length xs ≡ suc n + length ys)
drop_front n xs x ys d e =
    let l : length xs - n ≡ suc (length ys) = sym (length-drop n xs) ∙ ap length e in
    let c : get_or xs n d ∷ drop (suc n) xs ≡ x ∷ ys = sym (drop-cons xs n d (omega arith)) ∙ e in
    (cc, cc, omega arith)

behind : (l : List ℕ) (k : ℕ) {r : List ℕ} → Ends r → drop (suc k) (fields l) ≡ drop 1 (fields r) → length (fields l) ≡ suc k + length (drop 1 (fields r))
    → any (eqb feed) l ≡ any (eqb feed) r → Behind l k r
unfolding fields
behind l k none d n c = cut (omega arith) c
behind l k fed d n c = whole (omega arith) c
behind l k (tabs t) d n c = more (record { line = t; parts = d; feeds = c })

module _ {l : List ℕ} {k : ℕ} where
  front_parted : {s : List ℕ} → Front s → FromField l k s → Parted l k s
  front_parted (ended f {r = r} h e) p =
      let (g, d, n) = drop_front k (fields l) f (drop 1 (fields r)) [] (p.parts ∙ fields_front f r h e) in
      rw (← g) (split (omega arith) (rw (← g) at h) (behind l k e d n (p.feeds ∙ feeds_front f r h)))

  parted : {s : List ℕ} → FromField l k s → Parted l k s
  parted {s} p = front_parted (has_front s p.line) p

  parted_there : {s : List ℕ} → Parted l k s → k < length (fields l)
  parted_there (split n h b) = n

  behind_ends : {r : List ℕ} → Behind l k r → field_end r ≡ true
  unfolding field_end
  behind_ends (cut n c) = refl
  behind_ends (whole n c) = refl
  behind_ends (more p) = refl

-- a field read as a number, whatever ends it
unended : (f r : List ℕ) → InField f → all is_digit f ≡ false → field_end (past (f ++ r)) ≡ false
unfolding past field_end
unended [] r h n = never cc
unended (b ∷ f) r h n = go (is_digit b) refl (λ e. unended f r h.2 e)
  where
    go : (t : Bool) → is_digit b ≡ t → (all is_digit f ≡ false → field_end (past (f ++ r)) ≡ false) → field_end (cond (is_digit b) (past (f ++ r)) (b ∷ (f ++ r))) ≡ false
    go true e rec = rw e (rec (rw e at n))
    go false e rec = rw (e, ne_eqb b tab h.0, ne_eqb b feed h.1)

abbrev ranged : ℕ → ℕ → List ℕ → Bool
ranged lo hi f = leb lo (value 0 f) && leb (value 0 f) hi

number_front : (lo hi : ℕ) (f r : List ℕ) → InField f → field_end r ≡ true → read_number lo hi (f ++ r) ≡ cond (is_number f) (cond (ranged lo hi f) (number (value 0 f) r) outside) malformed
unfolding read_number
number_front lo hi f r h e = go (all is_digit f) refl
  where
    go : (t : Bool) → all is_digit f ≡ t → read_number lo hi (f ++ r) ≡ cond (is_number f) (cond (ranged lo hi f) (number (value 0 f) r) outside) malformed
    go true d =
        rw (digits_of f r (digits_only f d) (end_no_digit r e), past_of f r (digits_only f d) (end_no_digit r e), e, d)
    go false d = rw (unended f r h d, d, and-false (plain (digits (f ++ r))), and-false (plain f))

module _ {A : Type 0} {l : List ℕ} {k : ℕ} (lo hi : ℕ) (g : ℕ → List ℕ → Judged A) (ts : List Test) (a : A) (next : (r : List ℕ) → Behind l k r → g (value 0 (field k l)) r ≡ judged ts a) where
  number_tells : (x y : Bool) {r : List ℕ} → Behind l k r → on_field (cond x (cond y (number (value 0 (field k l)) r) outside) malformed) g ≡ judged (test Form x ∷ test Range y ∷ ts) a
  unfolding judged
  number_tells true true {r = r} b = next r b
  number_tells true false b = refl
  number_tells false y b = refl

  number_parted : {s : List ℕ} → Parted l k s → on_field (read_number lo hi s) g ≡ judged (number_test lo hi (field k l) ts) a
  number_parted (split {r = r} n h b) =
      rw (number_front lo hi (field k l) r h (behind_ends b)) (number_tells (is_number (field k l)) (ranged lo hi (field k l)) b)

-- a field that is missing is no number
missing : {A : Type 0} (l : List ℕ) (k lo hi : ℕ) (ts : List Test) (a : A) → length (fields l) ≤ k → Err Form ≡ judged (number_test lo hi (field k l) ts) a
unfolding judged plain
missing l k lo hi ts a n = rw (get_or-eq_default (fields l) [] {n = k} n)

-- A NUMBER FIELD before another
tabbed_on : {A : Type 0} (x : Field) (g : ℕ → List ℕ → Judged A) → on_field (tabbed x) g ≡ on_field x (λ n r. on_field (tabbed (number n r)) g)
unfolding tabbed
tabbed_on (number n r) g = refl
tabbed_on malformed g = refl
tabbed_on outside g = refl

pub field_step : {A : Type 0} {l : List ℕ} {k : ℕ} {s : List ℕ} → FromField l k s → (lo hi lo2 hi2 : ℕ) (g : ℕ → List ℕ → Judged A) (ts : List Test) (a : A)
    → ((t : List ℕ) → FromField l (suc k) t → g (value 0 (field k l)) t ≡ judged (number_test lo2 hi2 (field (suc k) l) ts) a)
    → on_field (read_field lo hi s) g ≡ judged (number_test lo hi (field k l) (number_test lo2 hi2 (field (suc k) l) ts)) a
unfolding tabbed
field_step {l = l} {k = k} {s = s} p lo hi lo2 hi2 g ts a next =
    tabbed_on (read_number lo hi s) g ∙ number_parted lo hi _ (number_test lo2 hi2 (field (suc k) l) ts) a go (parted p)
  where
    go : (r : List ℕ) → Behind l k r → on_field (tabbed (number (value 0 (field k l)) r)) g ≡ judged (number_test lo2 hi2 (field (suc k) l) ts) a
    go r (cut n c) = missing l (suc k) lo2 hi2 ts a (omega arith)
    go r (whole n c) = missing l (suc k) lo2 hi2 ts a (omega arith)
    go r (more {t = t} q) = next t q

-- THE LAST NUMBER FIELD
close_more : {A : Type 0} (o : Bool) (a : A) (t : List ℕ) → close o a (tab ∷ t) ≡ Err Form
unfolding ending
close_more o a [] = refl
close_more o a (c ∷ t) = refl

close_behind : {A : Type 0} {l : List ℕ} {k : ℕ} {r : List ℕ} (o : Bool) (a : A) → Behind l k r → close o a r ≡ judged (last_tests (suc k) o l) a
unfolding judged ending
close_behind {l = l} {k = k} true a (cut n c) = rw (eq-eqb (length (fields l)) (suc k) n, c)
close_behind {l = l} {k = k} false a (cut n c) = rw (eq-eqb (length (fields l)) (suc k) n)
close_behind {l = l} {k = k} true a (whole n c) = rw (eq-eqb (length (fields l)) (suc k) n, c)
close_behind {l = l} {k = k} false a (whole n c) = rw (eq-eqb (length (fields l)) (suc k) n)
close_behind {l = l} {k = k} o a (more {t = t} q) =
    let n : suc k < length (fields l) = parted_there (parted q) in
    rw (close_more o a t, ne_eqb (length (fields l)) (suc k) (λ e. omega arith))

pub last_step : {A : Type 0} {l : List ℕ} {k : ℕ} {s : List ℕ} → FromField l k s → (lo hi : ℕ) (o : Bool) (g : ℕ → List ℕ → Judged A) (a : A)
    → ((r : List ℕ) → g (value 0 (field k l)) r ≡ close o a r)
    → on_field (read_number lo hi s) g ≡ judged (number_test lo hi (field k l) (last_tests (suc k) o l)) a
last_step {l = l} {k = k} p lo hi o g a next =
    number_parted lo hi g (last_tests (suc k) o l) a (λ r b. next r ∙ close_behind o a b) (parted p)

-- A WORD, which is field 0, and its tab
not_small : (b c : ℕ) → b ≤ feed → is_small c ≡ true → eqb b c ≡ false
not_small b c h s =
    let w : 97 ≤ c = leb-true 97 c (both (leb 97 c) (leb c 122) s).0 in ne_eqb b c (λ e. omega arith)

word_front : (w f : List ℕ) {l : List ℕ} {k : ℕ} {r : List ℕ} → all is_small w ≡ true → InField f → Behind l k r → strip (w ++ tab ∷ []) (f ++ r) ≡ cond (is_word w f) (strip (tab ∷ []) r) other
unfolding strip is_word
word_front [] [] s h b = refl
word_front [] (d ∷ f) s h b = rw (ne_eqb d tab h.0)
word_front (c ∷ w) [] s h (cut n e) = refl
word_front (c ∷ w) [] s h (whole n e) = rw (not_small feed c (omega arith) (both (is_small c) (all is_small w) s).0)
word_front (c ∷ w) [] s h (more q) = rw (not_small tab c (omega arith) (both (is_small c) (all is_small w) s).0)
word_front (c ∷ w) (d ∷ f) {r = r} s h b = go (eqb d c) (word_front w f (both (is_small c) (all is_small w) s).1 h.2 b)
  where
    go : (t : Bool) → strip (w ++ tab ∷ []) (f ++ r) ≡ cond (is_word w f) (strip (tab ∷ []) r) other
        → cond t (strip (w ++ tab ∷ []) (f ++ r)) other ≡ cond (t && is_word w f) (strip (tab ∷ []) r) other
    go true e = e
    go false e = refl

-- x is what the reader says of a line by its word, and y what the tests say; a line of one field has none of the words with their tabs
pub record Worded {A : Type 0} (l : List ℕ) (x y : Judged A) : Type 0 where
  pub same : x ≡ y
  pub alone : length (fields l) ≤ 1 → y ≡ Err Form

pub no_word : {A : Type 0} (l : List ℕ) → Worded {A = A} l (Err Form) (Err Form)
no_word l = record { same = refl; alone = λ n. refl }

pub word_step : {A : Type 0} {l : List ℕ} {x y : Judged A} → IsLine l → (w : List ℕ) (g : List ℕ → Judged A) (lo hi : ℕ) (ts : List Test) (a : A) → all is_small w ≡ true
    → ((t : List ℕ) → FromField l 1 t → g t ≡ judged (number_test lo hi (field 1 l) ts) a) → Worded l x y
    → Worded l (on_strip (strip (w ++ tab ∷ []) l) g x) (cond (is_word w (field 0 l)) (judged (number_test lo hi (field 1 l) ts) a) y)
unfolding strip
word_step {l = l} {x = x} {y = y} h w g lo hi ts a s next k =
    record { same = go (parted (record { line = h; parts = refl; feeds = refl })); alone = λ n. lone n (is_word w (field 0 l)) }
  where
    lone : length (fields l) ≤ 1 → (t : Bool) → cond t (judged (number_test lo hi (field 1 l) ts) a) y ≡ Err Form
    lone n true = sym (missing l 1 lo hi ts a n)
    lone n false = k.alone n

    tell : (t : Bool) {r : List ℕ} → Behind l 0 r → on_strip (cond t (strip (tab ∷ []) r) other) g x ≡ cond t (judged (number_test lo hi (field 1 l) ts) a) y
    tell false b = k.same
    tell true (cut n c) = k.same ∙ (k.alone (omega arith) ∙ sym (lone (omega arith) true))
    tell true (whole n c) = k.same ∙ (k.alone (omega arith) ∙ sym (lone (omega arith) true))
    tell true (more {t = t} q) = next t q

    go : {s : List ℕ} → Parted l 0 s → on_strip (strip (w ++ tab ∷ []) s) g x ≡ cond (is_word w (field 0 l)) (judged (number_test lo hi (field 1 l) ts) a) y
    go (split n i b) = rw (word_front w (field 0 l) s i b) (tell (is_word w (field 0 l)) b)

-- the only word that a line may have
pub only_word : {A : Type 0} {l : List ℕ} → IsLine l → (w : List ℕ) (g : List ℕ → Judged A) (lo hi : ℕ) (ts : List Test) (a : A) → all is_small w ≡ true
    → ((t : List ℕ) → FromField l 1 t → g t ≡ judged (number_test lo hi (field 1 l) ts) a)
    → on_strip (strip (w ++ tab ∷ []) l) g (Err Form) ≡ judged (test Form (is_word w (field 0 l)) ∷ number_test lo hi (field 1 l) ts) a
unfolding judged
only_word {l = l} h w g lo hi ts a s next = (word_step h w g lo hi ts a s next (no_word l)).same
