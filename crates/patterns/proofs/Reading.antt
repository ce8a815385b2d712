-- The reading of a line: it goes ahead, the depth of the definition is enough, and its letters are those of the text. Assumes nothing.
use mathlib.Core.Path.{◌≡◌, refl, sym, ap, ◌∙◌}
use mathlib.Core.Bool.{Bool, true, false, cond, ◌||◌}
use mathlib.Core.List.{List, ◌∷◌, ◌++◌, append_assoc}
use Prim.Native.Nat.{ℕ, zero, suc, ◌+◌, ◌-◌, ◌*◌, ◌≤◌, ◌<◌}
use native.Mathlib.Omega.{arith}
use native.Mathlib.Numerals.{add-one}
use native.Mathlib.Decide.{dec_lt}
use lib.ListN.{length, get_or, drop, get_or-eq_default}
use lib.Seq.{drop-cons}
use lib.Dec.{eqb, leb}
use borrow.Author.Tests.{eqb-true, eq-eqb, ne_eqb, leb-true}
use Rattle.patterns.specs.Pattern.{Pattern, Letter, Then, Or, letters}
use Rattle.patterns.specs.Line.{Reader, item, branch, group, Parsed, Good, Wrong, and_then, is_letter, letters_of, suffix, step, within, parse}
use Rattle.rules.proofs.Checks.{or_cases, both}

-- a byte that is not 0 is there
pub there : (s : List ℕ) (e b : ℕ) → get_or s e 0 ≡ b → 0 < b → e < length s
there s e b h k = go (dec_lt e (length s))
  where
    go : Dec (e < length s) → e < length s
    go (yes l) = l
    go (no l) = let z = get_or-eq_default s 0 {n = e} (omega arith) in absurd (omega arith)

pub letter_there : (s : List ℕ) (e : ℕ) → is_letter (get_or s e 0) ≡ true → e < length s
unfolding is_letter
letter_there s e h = let l = leb-true 97 (get_or s e 0) (both (leb 97 (get_or s e 0)) _ h).0 in there s e (get_or s e 0) refl (omega arith)

pub byte_there : (s : List ℕ) (e b : ℕ) → 0 < b → eqb (get_or s e 0) b ≡ true → e < length s
byte_there s e b k h = there s e b (eqb-true (get_or s e 0) b h) k

starts_there : (s : List ℕ) (e : ℕ) → (is_letter (get_or s e 0) || eqb (get_or s e 0) 40) ≡ true → e < length s
starts_there s e h = or_cases (is_letter (get_or s e 0)) (eqb (get_or s e 0) 40) h (λ k. letter_there s e k) (λ k. byte_there s e 40 (omega arith) k)

-- what was read ends ahead of at, within the text
pub data Ahead (s : List ℕ) (at : ℕ) : Parsed → Type 0 where
  ahead : {p : Pattern} {e : ℕ} → at < e → e ≤ length s → Ahead s at (Good p e)
  wrong : Ahead s at Wrong

ahead_cond : (s : List ℕ) (at : ℕ) (b : Bool) (x y : Parsed) → (b ≡ true → Ahead s at x) → (b ≡ false → Ahead s at y) → Ahead s at (cond b x y)
ahead_cond s at true x y h k = h refl
ahead_cond s at false x y h k = k refl

ahead_then : (s : List ℕ) (at from : ℕ) (r : Parsed) (f : Pattern → ℕ → Parsed) → Ahead s from r → ((p : Pattern) (e : ℕ) → from < e → e ≤ length s → Ahead s at (f p e)) → Ahead s at (and_then r f)
ahead_then s at from r f (ahead p q) h = h _ _ p q
ahead_then s at from r f wrong h = wrong

ahead_suffix : (s : List ℕ) (at : ℕ) (p : Pattern) (e : ℕ) → at < e → e ≤ length s → Ahead s at (suffix (get_or s e 0) p e)
unfolding suffix
ahead_suffix s at p e h k =
    ahead_cond s at (eqb (get_or s e 0) 42) _ _ (λ l. let m = byte_there s e 42 (omega arith) l in ahead (omega arith) (omega arith)) (λ _.
    ahead_cond s at (eqb (get_or s e 0) 43) _ _ (λ l. let m = byte_there s e 43 (omega arith) l in ahead (omega arith) (omega arith)) (λ _.
    ahead_cond s at (eqb (get_or s e 0) 63) _ _ (λ l. let m = byte_there s e 63 (omega arith) l in ahead (omega arith) (omega arith)) (λ _. ahead h k)))

within_ahead : (n : ℕ) (w : Reader) (s : List ℕ) (at d : ℕ) → Ahead s at (within n w s at d)
unfolding within step
within_ahead zero w s at d = wrong
within_ahead (suc n) item s at d =
    ahead_cond s at (is_letter (get_or s at 0)) _ _ (λ h. let l = letter_there s at h in ahead_suffix s at (Letter (get_or s at 0 - 97)) (at + 1) (omega arith) (omega arith)) (λ _.
    ahead_cond s at (eqb (get_or s at 0) 40) _ _ (λ h. let l = byte_there s at 40 (omega arith) h in
    ahead_cond s at (eqb d 0) _ _ (λ _. wrong) (λ _.
    ahead_then s at (at + 1) _ _ (within_ahead n group s (at + 1) (d - 1)) (λ p e a b.
    ahead_cond s at (eqb (get_or s e 0) 41) _ _ (λ k. let m = byte_there s e 41 (omega arith) k in ahead_suffix s at p (e + 1) (omega arith) (omega arith)) (λ _. wrong)))) (λ _. wrong))
within_ahead (suc n) branch s at d =
    ahead_then s at at _ _ (within_ahead n item s at d) (λ p e a b.
    ahead_cond s at (is_letter (get_or s e 0) || eqb (get_or s e 0) 40) _ _ (λ _.
    ahead_then s at e _ _ (within_ahead n branch s e d) (λ q f g h. ahead (omega arith) h)) (λ _. ahead a b))
within_ahead (suc n) group s at d =
    ahead_then s at at _ _ (within_ahead n branch s at d) (λ p e a b.
    ahead_cond s at (eqb (get_or s e 0) 124) _ _ (λ _.
    ahead_then s at (e + 1) _ _ (within_ahead n group s (e + 1) d) (λ q f g h. ahead (omega arith) h)) (λ _. ahead a b))

cond_eq : (b : Bool) (x y x' y' : Parsed) → (b ≡ true → x ≡ x') → (b ≡ false → y ≡ y') → cond b x y ≡ cond b x' y'
cond_eq true x y x' y' h k = h refl
cond_eq false x y x' y' h k = k refl

then_eq : (s : List ℕ) (at : ℕ) (r r' : Parsed) (f g : Pattern → ℕ → Parsed) → r ≡ r' → Ahead s at r → ((p : Pattern) (e : ℕ) → at < e → e ≤ length s → f p e ≡ g p e)
    → and_then r f ≡ and_then r' g
then_eq s at r r' f g p q h = go r q ∙ ap (λ (x : Parsed). and_then x g) p
  where
    go : (x : Parsed) → Ahead s at x → and_then x f ≡ and_then x g
    go x (ahead k l) = h _ _ k l
    go x wrong = refl

abbrev rank : Reader → ℕ
rank item = 0
rank branch = 1
rank group = 2

-- three steps for each byte that is left are enough
stable : (n : ℕ) (w : Reader) (s : List ℕ) (at d : ℕ) → (length s - at) * 3 + rank w < n → within (suc n) w s at d ≡ within n w s at d
unfolding within step
stable zero w s at d h = absurd (omega arith)
stable (suc n) item s at d h =
    cond_eq (is_letter (get_or s at 0)) _ _ _ _ (λ _. refl) (λ _.
    cond_eq (eqb (get_or s at 0) 40) _ _ _ _ (λ k. let l = byte_there s at 40 (omega arith) k in
    cond_eq (eqb d 0) _ _ _ _ (λ _. refl) (λ _.
    then_eq s (at + 1) _ _ _ _ (stable n group s (at + 1) (d - 1) (omega arith)) (within_ahead (suc n) group s (at + 1) (d - 1)) (λ p e a b. refl))) (λ _. refl))
stable (suc n) branch s at d h =
    then_eq s at _ _ _ _ (stable n item s at d (omega arith)) (within_ahead (suc n) item s at d) (λ p e a b.
    cond_eq (is_letter (get_or s e 0) || eqb (get_or s e 0) 40) _ _ _ _ (λ k. let l = starts_there s e k in
    ap (λ (x : Parsed). and_then x (λ q f. Good (Then p q) f)) (stable n branch s e d (omega arith))) (λ _. refl))
stable (suc n) group s at d h =
    then_eq s at _ _ _ _ (stable n branch s at d (omega arith)) (within_ahead (suc n) branch s at d) (λ p e a b.
    cond_eq (eqb (get_or s e 0) 124) _ _ _ _ (λ k. let l = byte_there s e 124 (omega arith) k in
    ap (λ (x : Parsed). and_then x (λ q f. Good (Or p q) f)) (stable n group s (e + 1) d (omega arith))) (λ _. refl))

-- each reading is one step over the readings
pub parse_step : (w : Reader) (s : List ℕ) (at d : ℕ) → parse w s at d ≡ step (λ (w' : Reader) (at' d' : ℕ). parse w' s at' d') w s at d
unfolding parse within
parse_step item s at d = sym (stable (length s * 3 + 3) item s at d (omega arith))
parse_step branch s at d = sym (stable (length s * 3 + 3) branch s at d (omega arith))
parse_step group s at d = sym (stable (length s * 3 + 3) group s at d (omega arith))

of_ahead : (s : List ℕ) (at : ℕ) (r : Parsed) → Ahead s at r → (p : Pattern) (e : ℕ) → r ≡ Good p e → (at < e) × (e ≤ length s)
of_ahead s at r (ahead {e = x} a b) p e h = let z : x ≡ e = cc in (rw (← z) a, rw (← z) b)
of_ahead s at r wrong p e h = let z : ◌≡◌ {A = ℕ} 0 1 = cc in absurd (omega arith)

pub read_ahead : (w : Reader) (s : List ℕ) (at d : ℕ) (p : Pattern) (e : ℕ) → parse w s at d ≡ Good p e → (at < e) × (e ≤ length s)
unfolding parse
read_ahead w s at d p e h = of_ahead s at _ (within_ahead (length s * 3 + 3) w s at d) p e h

-- the letters of what is read are those of the text there
pub data Lettered (s : List ℕ) (at : ℕ) : Parsed → Type 0 where
  lettered : {p : Pattern} {e : ℕ} → letters_of (drop at s) ≡ letters p ++ letters_of (drop e s) → Lettered s at (Good p e)
  unlettered : Lettered s at Wrong

lettered_cond : (s : List ℕ) (at : ℕ) (b : Bool) (x y : Parsed) → (b ≡ true → Lettered s at x) → (b ≡ false → Lettered s at y) → Lettered s at (cond b x y)
lettered_cond s at true x y h k = h refl
lettered_cond s at false x y h k = k refl

lettered_then : (s : List ℕ) (at from : ℕ) (r : Parsed) (f : Pattern → ℕ → Parsed) → Lettered s from r
    → ((p : Pattern) (e : ℕ) → letters_of (drop from s) ≡ letters p ++ letters_of (drop e s) → Lettered s at (f p e)) → Lettered s at (and_then r f)
lettered_then s at from r f (lettered p) h = h _ _ p
lettered_then s at from r f unlettered h = unlettered

pub byte_here : (s : List ℕ) (e : ℕ) → e < length s → drop e s ≡ get_or s e 0 ∷ drop (e + 1) s
byte_here s e h = rw (add-one e) (drop-cons s e 0 h)

pub skip : (s : List ℕ) (e b : ℕ) → 0 < b → is_letter b ≡ false → eqb (get_or s e 0) b ≡ true → letters_of (drop e s) ≡ letters_of (drop (e + 1) s)
unfolding letters_of
skip s e b k n h = rw (byte_here s e (byte_there s e b k h), eqb-true (get_or s e 0) b h, n)

lettered_suffix : (s : List ℕ) (at : ℕ) (p : Pattern) (e : ℕ) → letters_of (drop at s) ≡ letters p ++ letters_of (drop e s) → Lettered s at (suffix (get_or s e 0) p e)
unfolding suffix is_letter
lettered_suffix s at p e h =
    lettered_cond s at (eqb (get_or s e 0) 42) _ _ (λ l. lettered (h ∙ ap (λ (x : List ℕ). letters p ++ x) (skip s e 42 (omega arith) refl l))) (λ _.
    lettered_cond s at (eqb (get_or s e 0) 43) _ _ (λ l. lettered (h ∙ ap (λ (x : List ℕ). letters p ++ x) (skip s e 43 (omega arith) refl l))) (λ _.
    lettered_cond s at (eqb (get_or s e 0) 63) _ _ (λ l. lettered (h ∙ ap (λ (x : List ℕ). letters p ++ x) (skip s e 63 (omega arith) refl l))) (λ _. lettered h)))

two_parts : (s : List ℕ) (at e f : ℕ) (p q : Pattern) → letters_of (drop at s) ≡ letters p ++ letters_of (drop e s) → letters_of (drop e s) ≡ letters q ++ letters_of (drop f s)
    → letters_of (drop at s) ≡ letters p ++ letters q ++ letters_of (drop f s)
two_parts s at e f p q h k = h ∙ ap (λ (x : List ℕ). letters p ++ x) k ∙ sym (append_assoc (letters p) (letters q) (letters_of (drop f s)))

within_lettered : (n : ℕ) (w : Reader) (s : List ℕ) (at d : ℕ) → Lettered s at (within n w s at d)
unfolding within step letters_of is_letter
within_lettered zero w s at d = unlettered
within_lettered (suc n) item s at d =
    lettered_cond s at (is_letter (get_or s at 0)) _ _ (λ h. lettered_suffix s at (Letter (get_or s at 0 - 97)) (at + 1) (first h)) (λ _.
    lettered_cond s at (eqb (get_or s at 0) 40) _ _ (λ h.
    lettered_cond s at (eqb d 0) _ _ (λ _. unlettered) (λ _.
    lettered_then s at (at + 1) _ _ (within_lettered n group s (at + 1) (d - 1)) (λ p e a.
    lettered_cond s at (eqb (get_or s e 0) 41) _ _ (λ k. lettered_suffix s at p (e + 1)
    (skip s at 40 (omega arith) refl h ∙ a ∙ ap (λ (x : List ℕ). letters p ++ x) (skip s e 41 (omega arith) refl k))) (λ _. unlettered)))) (λ _. unlettered))
  where
    first : is_letter (get_or s at 0) ≡ true → letters_of (drop at s) ≡ (get_or s at 0 - 97) ∷ letters_of (drop (at + 1) s)
    first h = rw (byte_here s at (letter_there s at h)) (ap (λ (b : Bool). cond b ((get_or s at 0 - 97) ∷ letters_of (drop (at + 1) s)) (letters_of (drop (at + 1) s))) h)
within_lettered (suc n) branch s at d =
    lettered_then s at at _ _ (within_lettered n item s at d) (λ p e a.
    lettered_cond s at (is_letter (get_or s e 0) || eqb (get_or s e 0) 40) _ _ (λ _.
    lettered_then s at e _ _ (within_lettered n branch s e d) (λ q f b. lettered (two_parts s at e f p q a b))) (λ _. lettered a))
within_lettered (suc n) group s at d =
    lettered_then s at at _ _ (within_lettered n branch s at d) (λ p e a.
    lettered_cond s at (eqb (get_or s e 0) 124) _ _ (λ k.
    lettered_then s at (e + 1) _ _ (within_lettered n group s (e + 1) d) (λ q f b. lettered (two_parts s at e f p q a (skip s e 124 (omega arith) refl k ∙ b)))) (λ _. lettered a))

of_lettered : (s : List ℕ) (at : ℕ) (r : Parsed) → Lettered s at r → (p : Pattern) (e : ℕ) → r ≡ Good p e → letters_of (drop at s) ≡ letters p ++ letters_of (drop e s)
of_lettered s at r (lettered {p = x} {e = y} a) p e h =
    let z : y ≡ e = cc in
    let u : x ≡ p = cc in
    rw (← z, ← u) a
of_lettered s at r unlettered p e h = let z : ◌≡◌ {A = ℕ} 0 1 = cc in absurd (omega arith)

pub read_letters : (w : Reader) (s : List ℕ) (at d : ℕ) (p : Pattern) (e : ℕ) → parse w s at d ≡ Good p e → letters_of (drop at s) ≡ letters p ++ letters_of (drop e s)
unfolding parse
read_letters w s at d p e h = of_lettered s at _ (within_lettered (length s * 3 + 3) w s at d) p e h

-- the equations of the readers, over plain variables
module _ (s : List ℕ) (at d : ℕ) where
  pub eq_closed : (p : Pattern) (e : ℕ) → is_letter (get_or s at 0) ≡ false → get_or s at 0 ≡ 40 → (d ≡ 0 → ⊥) → parse group s (at + 1) (d - 1) ≡ Good p e → get_or s e 0 ≡ 41
      → parse item s at d ≡ suffix (get_or s (e + 1) 0) p (e + 1)
  unfolding step
  eq_closed p e h o n g c = parse_step item s at d ∙ rw (h, eq-eqb (get_or s at 0) 40 o, ne_eqb d 0 n, g, eq-eqb (get_or s e 0) 41 c)

  pub eq_open : (p : Pattern) (e : ℕ) → is_letter (get_or s at 0) ≡ false → get_or s at 0 ≡ 40 → (d ≡ 0 → ⊥) → parse group s (at + 1) (d - 1) ≡ Good p e → (get_or s e 0 ≡ 41 → ⊥)
      → parse item s at d ≡ Wrong
  unfolding step
  eq_open p e h o n g c = parse_step item s at d ∙ rw (h, eq-eqb (get_or s at 0) 40 o, ne_eqb d 0 n, g, ne_eqb (get_or s e 0) 41 c)

  module _ (p : Pattern) (e : ℕ) (g : parse item s at d ≡ Good p e) where
    pub eq_branch_end : (is_letter (get_or s e 0) || eqb (get_or s e 0) 40) ≡ false → parse branch s at d ≡ Good p e
    unfolding step
    eq_branch_end h = parse_step branch s at d ∙ rw (g, h)

    pub eq_branch_join : (q : Pattern) (f : ℕ) → (is_letter (get_or s e 0) || eqb (get_or s e 0) 40) ≡ true → parse branch s e d ≡ Good q f → parse branch s at d ≡ Good (Then p q) f
    unfolding step
    eq_branch_join q f h b = parse_step branch s at d ∙ rw (g, h, b)

    pub eq_branch_broken : (is_letter (get_or s e 0) || eqb (get_or s e 0) 40) ≡ true → parse branch s e d ≡ Wrong → parse branch s at d ≡ Wrong
    unfolding step
    eq_branch_broken h b = parse_step branch s at d ∙ rw (g, h, b)

  module _ (p : Pattern) (e : ℕ) (g : parse branch s at d ≡ Good p e) where
    pub eq_group_end : (get_or s e 0 ≡ 124 → ⊥) → parse group s at d ≡ Good p e
    unfolding step
    eq_group_end h = parse_step group s at d ∙ rw (g, ne_eqb (get_or s e 0) 124 h)

    pub eq_group_join : (q : Pattern) (f : ℕ) → get_or s e 0 ≡ 124 → parse group s (e + 1) d ≡ Good q f → parse group s at d ≡ Good (Or p q) f
    unfolding step
    eq_group_join q f h b = parse_step group s at d ∙ rw (g, eq-eqb (get_or s e 0) 124 h, b)

    pub eq_group_broken : get_or s e 0 ≡ 124 → parse group s (e + 1) d ≡ Wrong → parse group s at d ≡ Wrong
    unfolding step
    eq_group_broken h b = parse_step group s at d ∙ rw (g, eq-eqb (get_or s e 0) 124 h, b)
