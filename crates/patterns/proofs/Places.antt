-- Patterns over places: what a match is, one letter at a time. Assumes nothing.
use mathlib.Core.Path.{◌≡◌, refl, sym, ◌∙◌}
use mathlib.Core.Bool.{true, cond, false≢true}
use mathlib.Core.Logic.{⊎_elim}
use mathlib.Core.List.{List, [], ◌∷◌, ◌++◌, nil≢cons, cons≢nil}
use Prim.Native.Nat.{ℕ, suc, ◌+◌, ◌≤◌, ◌<◌}
use native.Mathlib.Omega.{arith}
use lib.Bits.{bit_or}
use lib.ListN.{length, length-append}
use native.Mathlib.Numerals.{add-one}
use native.Mathlib.Nat.{add_assoc}
use Rattle.kinds.specs.Bits.{bit}
use Rattle.kinds.proofs.Bits.{bit_none}
use Rattle.patterns.specs.Pattern.{Pattern, Letter, Then, Or, More, Perhaps, Matches, letter, then, left, right, once, again, none, some, letters, numbered}
use Rattle.patterns.specs.Places.{null, first, last, follow}
use Rattle.patterns.proofs.Members.{has_or, or_has_left, or_has_right, has_cond, cond_has, has_pow, pow_has}
use Rattle.rules.proofs.Checks.{or_cases, or_left, or_right, and_goes, both}

-- place i has just read its letter, and w goes on to the end of the pattern
pub data After : Pattern → ℕ → List ℕ → Type 0 where
  here : {i : ℕ} → After (Letter i) i []
  early : {p q : Pattern} {i : ℕ} {a b : List ℕ} → After p i a → Matches q b → After (Then p q) i (a ++ b)
  late : {p q : Pattern} {i : ℕ} {a : List ℕ} → After q i a → After (Then p q) i a
  inleft : {p q : Pattern} {i : ℕ} {a : List ℕ} → After p i a → After (Or p q) i a
  inright : {p q : Pattern} {i : ℕ} {a : List ℕ} → After q i a → After (Or p q) i a
  ending : {p : Pattern} {i : ℕ} {a : List ℕ} → After p i a → After (More p) i a
  going : {p : Pattern} {i : ℕ} {a b : List ℕ} → After p i a → Matches (More p) b → After (More p) i (a ++ b)
  inside : {p : Pattern} {i : ℕ} {a : List ℕ} → After p i a → After (Perhaps p) i a

-- a pattern matches the empty word exactly if it is null
pub match_null : {r : Pattern} {u : List ℕ} → Matches r u → u ≡ [] → null r ≡ true
unfolding null
match_null letter e = absurd (cons≢nil e)
match_null (then {a = []} m n) e = and_goes _ _ true (match_null m refl) (match_null n e)
match_null (then {a = x ∷ a} m n) e = absurd (cons≢nil e)
match_null (left {p} {q} m) e = or_left (null p) (null q) (match_null m e)
match_null (right {p} {q} m) e = or_right (null p) (null q) (match_null m e)
match_null (once m) e = match_null m e
match_null (again {a = []} m n) e = match_null m refl
match_null (again {a = x ∷ a} m n) e = absurd (cons≢nil e)
match_null none e = refl
match_null (some m) e = refl

pub null_match : (r : Pattern) → null r ≡ true → Matches r []
unfolding null
null_match (Letter i) h = absurd (false≢true h)
null_match (Then p q) h = then (null_match p (both (null p) (null q) h).0) (null_match q (both (null p) (null q) h).1)
null_match (Or p q) h = or_cases (null p) (null q) h (λ k. left (null_match p k)) (λ k. right (null_match q k))
null_match (More p) h = once (null_match p h)
null_match (Perhaps p) h = none

-- nothing is left after place i exactly if it is a last place
pub after_last : {r : Pattern} {i : ℕ} {u : List ℕ} → After r i u → u ≡ [] → bit (last r) i ≡ true
unfolding last
after_last (here {i}) e = pow_has i
after_last (early {p} {q} {i} {a = []} m n) e = or_has_right (last q) (cond (null q) (last p) 0) i (cond_has (null q) (last p) i (match_null n e) (after_last m refl))
after_last (early {a = x ∷ a} m n) e = absurd (cons≢nil e)
after_last (late {p} {q} {i} m) e = or_has_left (last q) (cond (null q) (last p) 0) i (after_last m e)
after_last (inleft {p} {q} {i} m) e = or_has_left (last p) (last q) i (after_last m e)
after_last (inright {p} {q} {i} m) e = or_has_right (last p) (last q) i (after_last m e)
after_last (ending m) e = after_last m e
after_last (going {a = []} m n) e = after_last m refl
after_last (going {a = x ∷ a} m n) e = absurd (cons≢nil e)
after_last (inside m) e = after_last m e

pub last_after : (r : Pattern) (i : ℕ) → bit (last r) i ≡ true → After r i []
unfolding last
last_after (Letter j) i h = rw (has_pow j i h) here
last_after (Then p q) i h =
    ⊎_elim (λ k. late (last_after q i k)) (λ k. let c = has_cond (null q) (last p) i k in early (last_after p i c.1) (null_match q c.0))
    (has_or (last q) (cond (null q) (last p) 0) i h)
last_after (Or p q) i h = ⊎_elim (λ k. inleft (last_after p i k)) (λ k. inright (last_after q i k)) (has_or (last p) (last q) i h)
last_after (More p) i h = ending (last_after p i h)
last_after (Perhaps p) i h = inside (last_after p i h)

-- a match of j and w: j is a first place, and w goes on after it
pub match_first : {r : Pattern} {u : List ℕ} (j : ℕ) (w : List ℕ) → Matches r u → u ≡ j ∷ w → (bit (first r) j ≡ true) × After r j w
unfolding first
match_first j w (letter {v}) e =
    let h : v ≡ j = cc in
    let k : [] ≡ w = cc in
    (rw (← h) (pow_has v), rw (← h, ← k) here)
match_first j w (then {p} {q} {a = []} m n) e =
    let s = match_first j w n e in
    (or_has_right (first p) (cond (null p) (first q) 0) j (cond_has (null p) (first q) j (match_null m refl) s.0), late s.1)
match_first j w (then {p} {q} {a = x ∷ a} {b} m n) e =
    let h : x ≡ j = cc in
    let k : a ++ b ≡ w = cc in
    let s = match_first x a m refl in
    (rw (← h) (or_has_left (first p) (cond (null p) (first q) 0) x s.0), rw (← h, ← k) (early s.1 n))
match_first j w (left {p} {q} m) e = let s = match_first j w m e in (or_has_left (first p) (first q) j s.0, inleft s.1)
match_first j w (right {p} {q} m) e = let s = match_first j w m e in (or_has_right (first p) (first q) j s.0, inright s.1)
match_first j w (once m) e = let s = match_first j w m e in (s.0, ending s.1)
match_first j w (again {a = []} m n) e = match_first j w n e
match_first j w (again {p} {a = x ∷ a} {b} m n) e =
    let h : x ≡ j = cc in
    let k : a ++ b ≡ w = cc in
    let s = match_first x a m refl in
    (rw (← h) s.0, rw (← h, ← k) (going s.1 n))
match_first j w none e = absurd (nil≢cons e)
match_first j w (some m) e = let s = match_first j w m e in (s.0, inside s.1)

-- what goes on after place i with j and w: j can follow i, and w goes on after it
pub after_next : {r : Pattern} {i : ℕ} {u : List ℕ} (j : ℕ) (w : List ℕ) → After r i u → u ≡ j ∷ w → (bit (follow r i) j ≡ true) × After r j w
unfolding follow first
after_next j w here e = absurd (nil≢cons e)
after_next j w (early {p} {q} {i} {a = []} m n) e =
    let s = match_first j w n e in
    (or_has_right (bit_or (follow p i) (follow q i)) (cond (bit (last p) i) (first q) 0) j (cond_has (bit (last p) i) (first q) j (after_last m refl) s.0), late s.1)
after_next j w (early {p} {q} {i} {a = x ∷ a} {b} m n) e =
    let h : x ≡ j = cc in
    let k : a ++ b ≡ w = cc in
    let s = after_next x a m refl in
    (rw (← h) (or_has_left (bit_or (follow p i) (follow q i)) (cond (bit (last p) i) (first q) 0) x (or_has_left (follow p i) (follow q i) x s.0)), rw (← h, ← k) (early s.1 n))
after_next j w (late {p} {q} {i} m) e =
    let s = after_next j w m e in
    (or_has_left (bit_or (follow p i) (follow q i)) (cond (bit (last p) i) (first q) 0) j (or_has_right (follow p i) (follow q i) j s.0), late s.1)
after_next j w (inleft {p} {q} {i} m) e = let s = after_next j w m e in (or_has_left (follow p i) (follow q i) j s.0, inleft s.1)
after_next j w (inright {p} {q} {i} m) e = let s = after_next j w m e in (or_has_right (follow p i) (follow q i) j s.0, inright s.1)
after_next j w (ending {p} {i} m) e = let s = after_next j w m e in (or_has_left (follow p i) (cond (bit (last p) i) (first p) 0) j s.0, ending s.1)
after_next j w (going {p} {i} {a = []} m n) e =
    let s = match_first j w n e in
    (or_has_right (follow p i) (cond (bit (last p) i) (first p) 0) j (cond_has (bit (last p) i) (first p) j (after_last m refl) s.0), s.1)
after_next j w (going {p} {i} {a = x ∷ a} {b} m n) e =
    let h : x ≡ j = cc in
    let k : a ++ b ≡ w = cc in
    let s = after_next x a m refl in
    (rw (← h) (or_has_left (follow p i) (cond (bit (last p) i) (first p) 0) x s.0), rw (← h, ← k) (going s.1 n))
after_next j w (inside m) e = let s = after_next j w m e in (s.0, inside s.1)

-- the places of a pattern over places are those from lo up to hi, each once, in order
pub data Spread : ℕ → Pattern → ℕ → Type 0 where
  one : {i : ℕ} → Spread i (Letter i) (suc i)
  two : {p q : Pattern} {a b c : ℕ} → Spread a p b → Spread b q c → Spread a (Then p q) c
  beside : {p q : Pattern} {a b c : ℕ} → Spread a p b → Spread b q c → Spread a (Or p q) c
  many : {p : Pattern} {a b : ℕ} → Spread a p b → Spread a (More p) b
  maybe : {p : Pattern} {a b : ℕ} → Spread a p b → Spread a (Perhaps p) b

pub spread_le : {a b : ℕ} {r : Pattern} → Spread a r b → a ≤ b
spread_le one = omega arith
spread_le (two s t) = let h = spread_le s in let k = spread_le t in omega arith
spread_le (beside s t) = let h = spread_le s in let k = spread_le t in omega arith
spread_le (many s) = spread_le s
spread_le (maybe s) = spread_le s

pub record Inside (a j b : ℕ) : Type 0 where
  pub low : a ≤ j
  pub high : j < b

pub after_inside : {a b j : ℕ} {r : Pattern} {w : List ℕ} → Spread a r b → After r j w → Inside a j b
after_inside one here = record { low = omega arith; high = omega arith }
after_inside (two s t) (early m n) = let h = after_inside s m in let k = spread_le t in record { low = h.low; high = omega arith }
after_inside (two s t) (late m) = let h = after_inside t m in let k = spread_le s in record { low = omega arith; high = h.high }
after_inside (beside s t) (inleft m) = let h = after_inside s m in let k = spread_le t in record { low = h.low; high = omega arith }
after_inside (beside s t) (inright m) = let h = after_inside t m in let k = spread_le s in record { low = omega arith; high = h.high }
after_inside (many s) (ending m) = after_inside s m
after_inside (many s) (going m n) = after_inside s m
after_inside (maybe s) (inside m) = after_inside s m

pub first_inside : {a b : ℕ} {r : Pattern} (j : ℕ) → Spread a r b → bit (first r) j ≡ true → Inside a j b
unfolding first
first_inside j (one {i}) h = let e = has_pow i j h in record { low = omega arith; high = omega arith }
first_inside j (two {p} {q} {a} {b} {c} s t) h =
    ⊎_elim (λ k. let x = first_inside j s k in let y = spread_le t in let z : Inside a j c = record { low = x.low; high = omega arith } in z)
    (λ k. let x = first_inside j t (has_cond (null p) (first q) j k).1 in let y = spread_le s in let z : Inside a j c = record { low = omega arith; high = x.high } in z)
    (has_or (first p) (cond (null p) (first q) 0) j h)
first_inside j (beside {p} {q} {a} {b} {c} s t) h =
    ⊎_elim (λ k. let x = first_inside j s k in let y = spread_le t in let z : Inside a j c = record { low = x.low; high = omega arith } in z)
    (λ k. let x = first_inside j t k in let y = spread_le s in let z : Inside a j c = record { low = omega arith; high = x.high } in z)
    (has_or (first p) (first q) j h)
first_inside j (many s) h = first_inside j s h
first_inside j (maybe s) h = first_inside j s h

pub follow_inside : {a b : ℕ} {r : Pattern} (i j : ℕ) → Spread a r b → bit (follow r i) j ≡ true → Inside a j b
unfolding follow
follow_inside i j one h = absurd (false≢true (sym (bit_none j) ∙ h))
follow_inside i j (two {p} {q} {a} {b} {c} s t) h =
    ⊎_elim
    (λ k. ⊎_elim
    (λ l. let x = follow_inside i j s l in let y = spread_le t in let z : Inside a j c = record { low = x.low; high = omega arith } in z)
    (λ l. let x = follow_inside i j t l in let y = spread_le s in let z : Inside a j c = record { low = omega arith; high = x.high } in z)
    (has_or (follow p i) (follow q i) j k))
    (λ k. let x = first_inside j t (has_cond (bit (last p) i) (first q) j k).1 in let y = spread_le s in let z : Inside a j c = record { low = omega arith; high = x.high } in z)
    (has_or (bit_or (follow p i) (follow q i)) (cond (bit (last p) i) (first q) 0) j h)
follow_inside i j (beside {p} {q} {a} {b} {c} s t) h =
    ⊎_elim (λ k. let x = follow_inside i j s k in let y = spread_le t in let z : Inside a j c = record { low = x.low; high = omega arith } in z)
    (λ k. let x = follow_inside i j t k in let y = spread_le s in let z : Inside a j c = record { low = omega arith; high = x.high } in z)
    (has_or (follow p i) (follow q i) j h)
follow_inside i j (many {p} s) h =
    ⊎_elim (λ k. follow_inside i j s k) (λ k. first_inside j s (has_cond (bit (last p) i) (first p) j k).1)
    (has_or (follow p i) (cond (bit (last p) i) (first p) 0) j h)
follow_inside i j (maybe s) h = follow_inside i j s h

-- a place is in one part of the pattern only
apart : (a b c j : ℕ) → Inside a j b → Inside b j c → ⊥
apart a b c j h k = omega arith

-- and back: a first place and what goes on after it are a match
pub first_match : {a b : ℕ} {r : Pattern} {w : List ℕ} (j : ℕ) → Spread a r b → bit (first r) j ≡ true → After r j w → Matches r (j ∷ w)
unfolding first
first_match j one h here = letter
first_match j (two {p} {q} {a} {b} {c} s t) h (early m n) =
    ⊎_elim (λ k. then (first_match j s k m) n)
    (λ k. absurd (apart a b c j (after_inside s m) (first_inside j t (has_cond (null p) (first q) j k).1)))
    (has_or (first p) (cond (null p) (first q) 0) j h)
first_match j (two {p} {q} {a} {b} {c} s t) h (late m) =
    ⊎_elim (λ k. absurd (apart a b c j (first_inside j s k) (after_inside t m)))
    (λ k. let x = has_cond (null p) (first q) j k in then (null_match p x.0) (first_match j t x.1 m))
    (has_or (first p) (cond (null p) (first q) 0) j h)
first_match j (beside {p} {q} {a} {b} {c} s t) h (inleft m) =
    ⊎_elim (λ k. left (first_match j s k m)) (λ k. absurd (apart a b c j (after_inside s m) (first_inside j t k))) (has_or (first p) (first q) j h)
first_match j (beside {p} {q} {a} {b} {c} s t) h (inright m) =
    ⊎_elim (λ k. absurd (apart a b c j (first_inside j s k) (after_inside t m))) (λ k. right (first_match j t k m)) (has_or (first p) (first q) j h)
first_match j (many s) h (ending m) = once (first_match j s h m)
first_match j (many s) h (going m n) = again (first_match j s h m) n
first_match j (maybe s) h (inside m) = some (first_match j s h m)

-- and back: a place that can follow i, and what goes on after it, go on after i
pub follow_after : {a b : ℕ} {r : Pattern} {w : List ℕ} (i j : ℕ) → Spread a r b → bit (follow r i) j ≡ true → After r j w → After r i (j ∷ w)
unfolding follow
follow_after i j one h m = absurd (false≢true (sym (bit_none j) ∙ h))
follow_after i j (two {p} {q} {a} {b} {c} s t) h (early m n) =
    ⊎_elim
    (λ k. ⊎_elim (λ l. early (follow_after i j s l m) n) (λ l. absurd (apart a b c j (after_inside s m) (follow_inside i j t l))) (has_or (follow p i) (follow q i) j k))
    (λ k. absurd (apart a b c j (after_inside s m) (first_inside j t (has_cond (bit (last p) i) (first q) j k).1)))
    (has_or (bit_or (follow p i) (follow q i)) (cond (bit (last p) i) (first q) 0) j h)
follow_after i j (two {p} {q} {a} {b} {c} s t) h (late m) =
    ⊎_elim
    (λ k. ⊎_elim (λ l. absurd (apart a b c j (follow_inside i j s l) (after_inside t m))) (λ l. late (follow_after i j t l m)) (has_or (follow p i) (follow q i) j k))
    (λ k. let x = has_cond (bit (last p) i) (first q) j k in early (last_after p i x.0) (first_match j t x.1 m))
    (has_or (bit_or (follow p i) (follow q i)) (cond (bit (last p) i) (first q) 0) j h)
follow_after i j (beside {p} {q} {a} {b} {c} s t) h (inleft m) =
    ⊎_elim (λ k. inleft (follow_after i j s k m)) (λ k. absurd (apart a b c j (after_inside s m) (follow_inside i j t k))) (has_or (follow p i) (follow q i) j h)
follow_after i j (beside {p} {q} {a} {b} {c} s t) h (inright m) =
    ⊎_elim (λ k. absurd (apart a b c j (follow_inside i j s k) (after_inside t m))) (λ k. inright (follow_after i j t k m)) (has_or (follow p i) (follow q i) j h)
follow_after i j (many {p} s) h (ending m) =
    ⊎_elim (λ k. ending (follow_after i j s k m))
    (λ k. let x = has_cond (bit (last p) i) (first p) j k in going (last_after p i x.0) (once (first_match j s x.1 m)))
    (has_or (follow p i) (cond (bit (last p) i) (first p) 0) j h)
follow_after i j (many {p} s) h (going m n) =
    ⊎_elim (λ k. going (follow_after i j s k m) n)
    (λ k. let x = has_cond (bit (last p) i) (first p) j k in going (last_after p i x.0) (again (first_match j s x.1 m) n))
    (has_or (follow p i) (cond (bit (last p) i) (first p) 0) j h)
follow_after i j (maybe s) h (inside m) = inside (follow_after i j s h m)

-- a numbered pattern is spread
pub spread : (k : ℕ) (p : Pattern) → Spread k (numbered k p) (k + length (letters p))
spread k (Letter v) = rw (add-one k) one
spread k (Then p q) = rw (length-append, ← (add_assoc k (length (letters p)) (length (letters q)))) (two (spread k p) (spread (k + length (letters p)) q))
spread k (Or p q) = rw (length-append, ← (add_assoc k (length (letters p)) (length (letters q)))) (beside (spread k p) (spread (k + length (letters p)) q))
spread k (More p) = many (spread k p)
spread k (Perhaps p) = maybe (spread k p)
