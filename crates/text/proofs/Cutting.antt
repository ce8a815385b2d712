-- Laws of a text cut into lines. Assumes nothing.
use mathlib.Core.Path.{◌≡◌, refl, ap, sym, ◌∙◌}
use mathlib.Core.Bool.{Bool, true, false}
use mathlib.Core.List.{List, [], ◌∷◌, ◌++◌}
use Prim.Native.Nat.{ℕ, zero, suc, ◌+◌, ◌-◌, ◌≤◌, ◌<◌}
use native.Mathlib.Omega.{arith}
use lib.ListN.{length, get_or, take, drop, length-drop, take-append-drop}
use lib.Dec.{eqb}
use lib.Seq.{drop-cons, get_or-drop, drop-length, drop-drop, take_all}
use borrow.Author.Tests.{ne_eqb, eqb-false}
use Rattle.text.specs.Bytes.{feed}
use Rattle.text.specs.Lines.{onto, lines, LineAt}
use Rattle.text.specs.Fields.{IsLine}

-- a text with one line feed, at its end
pub data OneLine : List ℕ → Type 0 where
  stop : OneLine (feed ∷ [])
  more : {b : ℕ} {l : List ℕ} → (b ≡ 10 → ⊥) → OneLine l → OneLine (b ∷ l)

pub lines_one : (l s : List ℕ) → OneLine l → lines (l ++ s) ≡ l ∷ lines s
unfolding lines
lines_one l s stop = refl
lines_one l s (more {b = b} {l = t} n o) = rw (ne_eqb b feed n, lines_one t s o)

-- line_end
one_from : (s : List ℕ) (a n : ℕ) → a + n < length s → ((k : ℕ) → a ≤ k → k < a + n → get_or s k 0 ≡ feed → ⊥) → get_or s (a + n) 0 ≡ feed → OneLine (take (suc n) (drop a s))
one_from s a zero h f e =
    let z : a + 0 ≡ a = omega arith in
    let b : get_or s a 0 ≡ feed = rw z at e in
    rw (drop-cons s a 0 (omega arith), b) stop
one_from s a (suc n) h f e =
    let z : a + suc n ≡ suc a + n = omega arith in
    rw (drop-cons s a 0 (omega arith))
    (more (f a (omega arith) (omega arith)) (one_from s (suc a) n (omega arith) (λ k l m. f k (omega arith) (omega arith)) (rw z at e)))

pub line_feed_at : (s : List ℕ) (a i : ℕ) → a ≤ i → i < length s → ((k : ℕ) → a ≤ k → k < i → get_or s k 0 ≡ feed → ⊥) → get_or s i 0 ≡ feed → LineAt s a (i + 1)
line_feed_at s a i l h f e =
    let z : a + (i - a) ≡ i = omega arith in
    let o : OneLine (take (suc (i - a)) (drop a s)) = one_from s a (i - a) (omega arith) (λ k x y. f k x (omega arith)) (rw z e) in
    let n : i + 1 - a ≡ suc (i - a) = omega arith in
    let m : a + suc (i - a) ≡ i + 1 = omega arith in
    let d : drop (suc (i - a)) (drop a s) ≡ drop (i + 1) s = drop-drop (suc (i - a)) a s ∙ ap (λ (j : ℕ). drop j s) m in
    record {
      low = omega arith;
      high = omega arith;
      cuts = rw n (ap lines (sym (take-append-drop (suc (i - a)) (drop a s))) ∙ lines_one (take (suc (i - a)) (drop a s)) (drop (suc (i - a)) (drop a s)) o ∙ ap (λ (r : List ℕ). take (suc (i - a)) (drop a s) ∷ lines r) d);
    }

lines_last : (l : List ℕ) → 1 ≤ length l → ((k : ℕ) → k < length l → get_or l k 0 ≡ feed → ⊥) → lines l ≡ l ∷ []
unfolding lines
lines_last [] h f = absurd (omega arith)
lines_last (b ∷ []) h f = rw (ne_eqb b feed (f 0 (omega arith)))
lines_last (b ∷ c ∷ l) h f = rw (ne_eqb b feed (f 0 (omega arith)), lines_last (c ∷ l) (omega arith) (λ k x. f (suc k) (omega arith)))

pub line_feed_none : (s : List ℕ) (a i : ℕ) → a < length s → i ≡ length s → ((k : ℕ) → a ≤ k → k < i → get_or s k 0 ≡ feed → ⊥) → LineAt s a i
unfolding lines
line_feed_none s a i h e f =
    let n : length (drop a s) ≡ length s - a = length-drop a s in
    record {
      low = omega arith;
      high = omega arith;
      cuts = rw (e, drop-length s, take_all (length s - a) (drop a s) (omega arith)) (lines_last (drop a s) (omega arith) (λ k x y. f (a + k) (omega arith) (omega arith) (sym (get_or-drop a s k 0) ∙ y)));
    }

-- there are at most as many lines as bytes
onto_length : (b : ℕ) (t : Bool) (ls : List (List ℕ)) → length (onto b t ls) ≤ suc (length ls)
onto_length b true ls = omega arith
onto_length b false [] = omega arith
onto_length b false (l ∷ ls) = omega arith

pub lines_length : (s : List ℕ) → length (lines s) ≤ length s
unfolding lines
lines_length [] = omega arith
lines_length (b ∷ s) = omega (arith, onto_length b (eqb b feed) (lines s), lines_length s)

-- every line of a text is a line
abbrev AllLines : List (List ℕ) → Type 0
AllLines [] = Unit
AllLines (l ∷ ls) = IsLine l × AllLines ls

onto_are : (b : ℕ) (t : Bool) (ls : List (List ℕ)) → eqb b feed ≡ t → AllLines ls → AllLines (onto b t ls)
onto_are b true ls e h = ((λ x. refl, tt), h)
onto_are b false [] e h = ((λ x. refl, tt), tt)
onto_are b false (l ∷ ls) e h = ((λ x. absurd (eqb-false b feed e x), h.0), h.1)

lines_are : (s : List ℕ) → AllLines (lines s)
unfolding lines
lines_are [] = tt
lines_are (b ∷ s) = onto_are b (eqb b feed) (lines s) refl (lines_are s)

one_of : (before : List (List ℕ)) (l : List ℕ) (after : List (List ℕ)) → AllLines (before ++ l ∷ after) → IsLine l
one_of [] l after h = h.0
one_of (b ∷ before) l after h = one_of before l after h.1

pub line_is : (s : List ℕ) (before : List (List ℕ)) (l : List ℕ) (after : List (List ℕ)) → lines s ≡ before ++ l ∷ after → IsLine l
line_is s before l after e = one_of before l after (rw e at (lines_are s))
