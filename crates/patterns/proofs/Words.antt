-- The automaton on sets of letter places accepts exactly the words that the pattern matches. Assumes nothing.
use mathlib.Core.Path.{◌≡◌, refl, sym, ap, ap₂, ◌∙◌, subst}
use mathlib.Core.Bool.{Bool, true, false, cond, not, false≢true}
use mathlib.Core.Logic.{⊎_elim, ◌↔◌}
use mathlib.Core.List.{List, [], ◌∷◌, ◌++◌, map, map-append, nil≢cons, cons≢nil}
use Prim.Native.Nat.{ℕ, zero, suc, ◌+◌, ◌^◌, ◌<◌}
use native.Mathlib.Omega.{arith}
use native.Mathlib.Decide.{ℕ_discrete, dec_lt}
use native.Mathlib.Nat.{add_assoc, zero-add, lt_of_le_of_lt}
use lib.Bits.{bit_and, bit_or, and_le_l}
use lib.Dec.{eqb}
use lib.ListN.{length, get_or, length-append, get_or-append}
use lib.Seq.{get_or-append-add}
use borrow.Author.Tests.{eqb-true, eq-eqb, ne_eqb, eqb-false, not-true}
use Rattle.kinds.specs.Bits.{bit, mask_of}
use Rattle.kinds.proofs.Bits.{some_bit, bit_of_and, bit_none, bit_mask, mask_lt, bit_above}
use Rattle.patterns.specs.Pattern.{Pattern, Letter, Then, Or, More, Perhaps, Matches, letter, then, left, right, once, again, none, some, letters, numbered}
use Rattle.patterns.specs.Places.{first, last, follow, places_of, unions, onward, ends}
use Rattle.patterns.proofs.Places.{After, spread, after_inside, match_null, null_match, match_first, first_match, after_next, follow_after, after_last, last_after}
use Rattle.numbering.specs.Numbering.{runs}
use Rattle.patterns.proofs.Members.{has_or, or_has_left, or_has_right, has_cond, cond_has, no_bits}
use Rattle.rules.proofs.Checks.{and_goes, both}

-- each letter renamed
abbrev renamed : (ℕ → ℕ) → Pattern → Pattern
renamed f (Letter v) = Letter (f v)
renamed f (Then p q) = Then (renamed f p) (renamed f q)
renamed f (Or p q) = Or (renamed f p) (renamed f q)
renamed f (More p) = More (renamed f p)
renamed f (Perhaps p) = Perhaps (renamed f p)

rename : (f : ℕ → ℕ) {r : Pattern} {u : List ℕ} → Matches r u → Matches (renamed f r) (map f u)
rename f letter = letter
rename f (then {a = a} {b} m n) = rw (map-append f a b) (then (rename f m) (rename f n))
rename f (left m) = left (rename f m)
rename f (right m) = right (rename f m)
rename f (once m) = once (rename f m)
rename f (again {a = a} {b} m n) = rw (map-append f a b) (again (rename f m) (rename f n))
rename f none = none
rename f (some m) = some (rename f m)

-- a match of r that is w once its letters are renamed
record Source (f : ℕ → ℕ) (r : Pattern) (w : List ℕ) : Type 0 where
  pub word : List ℕ
  pub match : Matches r word
  pub same : map f word ≡ w

source_then : (f : ℕ → ℕ) {p q : Pattern} {a b : List ℕ} → Source f p a → Source f q b → Source f (Then p q) (a ++ b)
source_then f s t = record { word = s.word ++ t.word; match = then s.match t.match; same = map-append f s.word t.word ∙ ap₂ (λ (a b : List ℕ). a ++ b) s.same t.same }

source_again : (f : ℕ → ℕ) {p : Pattern} {a b : List ℕ} → Source f p a → Source f (More p) b → Source f (More p) (a ++ b)
source_again f s t = record { word = s.word ++ t.word; match = again s.match t.match; same = map-append f s.word t.word ∙ ap₂ (λ (a b : List ℕ). a ++ b) s.same t.same }

source_more : (f : ℕ → ℕ) {p p' : Pattern} {w : List ℕ} → ((a : List ℕ) → Matches p' a → Source f p a) → Matches (More p') w → Source f (More p) w
source_more f g (once m) = let s = g _ m in record { word = s.word; match = once s.match; same = s.same }
source_more f g (again m n) = source_again f (g _ m) (source_more f g n)

source : (f : ℕ → ℕ) (r : Pattern) {w : List ℕ} → Matches (renamed f r) w → Source f r w
source f (Letter i) letter = record { word = i ∷ []; match = letter; same = refl }
source f (Then p q) (then m n) = source_then f (source f p m) (source f q n)
source f (Or p q) (left m) = let s = source f p m in record { word = s.word; match = left s.match; same = s.same }
source f (Or p q) (right m) = let s = source f q m in record { word = s.word; match = right s.match; same = s.same }
source f (More p) m = source_more f (λ a n. source f p n) m
source f (Perhaps p) none = record { word = []; match = none; same = refl }
source f (Perhaps p) (some m) = let s = source f p m in record { word = s.word; match = some s.match; same = s.same }

two_parts : (f : ℕ → ℕ) (k : ℕ) (a b : List ℕ) → ((n : ℕ) → n < length (a ++ b) → f (k + n) ≡ get_or (a ++ b) n 0)
    → ((n : ℕ) → n < length a → f (k + n) ≡ get_or a n 0) × ((n : ℕ) → n < length b → f (k + length a + n) ≡ get_or b n 0)
two_parts f k a b h = (
  λ n l. h n (simp length-append (omega arith)) ∙ get_or-append a b 0 n l,
  λ n l. ap f (add_assoc k (length a) n) ∙ h (length a + n) (simp length-append (omega arith)) ∙ get_or-append-add a b n 0,
)

-- numbering and reading the letters back
back : (f : ℕ → ℕ) (k : ℕ) (p : Pattern) → ((n : ℕ) → n < length (letters p) → f (k + n) ≡ get_or (letters p) n 0) → renamed f (numbered k p) ≡ p
back f k (Letter v) h = ap Letter (sym (ap f (omega arith)) ∙ h 0 (omega arith))
back f k (Then p q) h = let t = two_parts f k (letters p) (letters q) h in ap₂ Then (back f k p t.0) (back f (k + length (letters p)) q t.1)
back f k (Or p q) h = let t = two_parts f k (letters p) (letters q) h in ap₂ Or (back f k p t.0) (back f (k + length (letters p)) q t.1)
back f k (More p) h = ap More (back f k p h)
back f k (Perhaps p) h = ap Perhaps (back f k p h)

module _ (p : Pattern) where
  abbrev pub letter_at : ℕ → ℕ
  letter_at i = get_or (letters p) i 0

  -- the words of a pattern are those of the pattern over places, with its letters read
  to_places : (w : List ℕ) → Matches p w → Source letter_at (numbered 0 p) w
  to_places w m = source letter_at (numbered 0 p) (rw (back letter_at 0 p (λ n l. ap letter_at (zero-add n))) m)

  of_places : (w : List ℕ) → Source letter_at (numbered 0 p) w → Matches p w
  of_places w s =
      subst (λ (x : List ℕ). Matches p x) s.same
      (subst (λ (x : Pattern). Matches x (map letter_at s.word)) (back letter_at 0 p (λ n l. ap letter_at (zero-add n))) (rename letter_at s.match))

-- the places of a letter
places_has : (ls : List ℕ) (v j : ℕ) → bit (places_of ls v) j ≡ true → (j < length ls) × (get_or ls j 0 ≡ v)
unfolding places_of
places_has ls v j h = go (dec_lt j (length ls))
  where
    go : Dec (j < length ls) → (j < length ls) × (get_or ls j 0 ≡ v)
    go (yes l) = (l, eqb-true (get_or ls j 0) v (sym (bit_mask (λ i. eqb (get_or ls i 0) v) (length ls) j l) ∙ h))
    go (no l) =
        absurd (false≢true (sym (bit_above (length ls) (mask_of (λ i. eqb (get_or ls i 0) v) (length ls)) j (mask_lt _ (length ls)) (omega arith)) ∙ h))

has_places : (ls : List ℕ) (v j : ℕ) → j < length ls → get_or ls j 0 ≡ v → bit (places_of ls v) j ≡ true
unfolding places_of
has_places ls v j h k = bit_mask (λ i. eqb (get_or ls i 0) v) (length ls) j h ∙ eq-eqb (get_or ls j 0) v k

-- the members of a union
pub record Member (f : ℕ → ℕ) (c k j : ℕ) : Type 0 where
  pub which : ℕ
  pub below : which < k
  pub chosen : bit c which ≡ true
  pub has : bit (f which) j ≡ true

pub unions_has : (f : ℕ → ℕ) (c k j : ℕ) → bit (unions f c k) j ≡ true → Member f c k j
unfolding unions
unions_has f c zero j h = absurd (false≢true (sym (bit_none j) ∙ h))
unions_has f c (suc k) j h =
    ⊎_elim
    (λ l. let x = has_cond (bit c k) (f k) j l in let z : Member f c (suc k) j = record { which = k; below = omega arith; chosen = x.0; has = x.1 } in z)
    (λ l. let x = unions_has f c k j l in let b = x.below in let z : Member f c (suc k) j = record { which = x.which; below = omega arith; chosen = x.chosen; has = x.has } in z)
    (has_or (cond (bit c k) (f k) 0) (unions f c k) j h)

pub has_unions : (f : ℕ → ℕ) (c k j i : ℕ) → i < k → bit c i ≡ true → bit (f i) j ≡ true → bit (unions f c k) j ≡ true
unfolding unions
has_unions f c zero j i l h g = absurd (omega arith)
has_unions f c (suc k) j i l h g = go (ℕ_discrete i k) (λ m. has_unions f c k j i m h g)
  where
    go : Dec (i ≡ k) → (i < k → bit (unions f c k) j ≡ true) → bit (bit_or (cond (bit c k) (f k) 0) (unions f c k)) j ≡ true
    go (yes e) rec = or_has_left (cond (bit c k) (f k) 0) (unions f c k) j (cond_has (bit c k) (f k) j (rw e at h) (rw e at g))
    go (no e) rec = or_has_right (cond (bit c k) (f k) 0) (unions f c k) j (rec (omega arith))

-- one step of a run
run_on : (next : ℕ → ℕ → ℕ) (final : ℕ → Bool) (c v : ℕ) (w : List ℕ) → runs next final c (v ∷ w) ≡ true → (next c v ≡ 0 → ⊥) × (runs next final (next c v) w ≡ true)
run_on next final c v w h = go (eqb (next c v) 0) refl h
  where
    go : (b : Bool) → eqb (next c v) 0 ≡ b → cond b false (runs next final (next c v) w) ≡ true → (next c v ≡ 0 → ⊥) × (runs next final (next c v) w ≡ true)
    go true e h = absurd (false≢true h)
    go false e h = (eqb-false (next c v) 0 e, h)

on_run : (next : ℕ → ℕ → ℕ) (final : ℕ → Bool) (c v : ℕ) (w : List ℕ) → (next c v ≡ 0 → ⊥) → runs next final (next c v) w ≡ true → runs next final c (v ∷ w) ≡ true
on_run next final c v w n h = rw (ne_eqb (next c v) 0 n) h

module _ (p : Pattern) where
  -- the members of the next set
  pub onward_set : (c v j : ℕ) → (c ≡ 0 → ⊥) → bit (onward p c v) j ≡ true
      → (get_or (letters p) j 0 ≡ v) × Member (follow (numbered 0 p)) c (length (letters p)) j
  unfolding onward
  onward_set c v j n h =
      let e = sym (bit_of_and (places_of (letters p) v) (cond (eqb c 0) (first (numbered 0 p)) (unions (follow (numbered 0 p)) c (length (letters p)))) j) ∙ h in
      let a = (both (bit (places_of (letters p) v) j) _ e).0 in
      let b = (both (bit (places_of (letters p) v) j) _ e).1 in
      ((places_has (letters p) v j a).1, unions_has (follow (numbered 0 p)) c (length (letters p)) j (rw (ne_eqb c 0 n) at b))

  pub set_onward : (c v j i : ℕ) → (c ≡ 0 → ⊥) → j < length (letters p) → get_or (letters p) j 0 ≡ v → i < length (letters p) → bit c i ≡ true
      → bit (follow (numbered 0 p) i) j ≡ true → bit (onward p c v) j ≡ true
  unfolding onward
  set_onward c v j i n h l k a b =
      bit_of_and (places_of (letters p) v) (cond (eqb c 0) (first (numbered 0 p)) (unions (follow (numbered 0 p)) c (length (letters p)))) j
      ∙ and_goes (bit (places_of (letters p) v) j) _ true (has_places (letters p) v j h l)
      (rw (ne_eqb c 0 n) (has_unions (follow (numbered 0 p)) c (length (letters p)) j i k a b))

  pub onward_start : (v j : ℕ) → bit (onward p 0 v) j ≡ true → (get_or (letters p) j 0 ≡ v) × (bit (first (numbered 0 p)) j ≡ true)
  unfolding onward
  onward_start v j h =
      let e = sym (bit_of_and (places_of (letters p) v) (first (numbered 0 p)) j) ∙ h in
      ((places_has (letters p) v j (both (bit (places_of (letters p) v) j) _ e).0).1, (both (bit (places_of (letters p) v) j) _ e).1)

  pub start_onward : (v j : ℕ) → j < length (letters p) → get_or (letters p) j 0 ≡ v → bit (first (numbered 0 p)) j ≡ true → bit (onward p 0 v) j ≡ true
  unfolding onward
  start_onward v j h l b =
      bit_of_and (places_of (letters p) v) (first (numbered 0 p)) j ∙ and_goes (bit (places_of (letters p) v) j) _ true (has_places (letters p) v j h l) b

  pub onward_lt : (c v : ℕ) → onward p c v < 2 ^ length (letters p)
  unfolding onward places_of
  onward_lt c v = lt_of_le_of_lt (and_le_l (places_of (letters p) v) (cond (eqb c 0) (first (numbered 0 p)) (unions (follow (numbered 0 p)) c (length (letters p))))) (mask_lt _ (length (letters p)))

  -- some place of the set c goes on to the end by the word w
  record Goes (c : ℕ) (w : List ℕ) : Type 0 where
    pub place : ℕ
    pub member : bit c place ≡ true
    pub rest : List ℕ
    pub after : After (numbered 0 p) place rest
    pub same : map (letter_at p) rest ≡ w

  pub place_lt : (i : ℕ) (u : List ℕ) → After (numbered 0 p) i u → i < length (letters p)
  place_lt i u m = let h = after_inside (spread 0 p) m in omega arith

  set_goes : (c : ℕ) (w : List ℕ) → (c ≡ 0 → ⊥) → c < 2 ^ length (letters p) → runs (onward p) (ends p) c w ≡ true → Goes c w
  unfolding ends
  set_goes c [] n l h =
      let e : not (eqb (bit_and c (last (numbered 0 p))) 0) ≡ true = rw (ne_eqb c 0 n) at h in
      let b = some_bit (length (letters p)) (bit_and c (last (numbered 0 p))) (lt_of_le_of_lt (and_le_l c (last (numbered 0 p))) l)
      (eqb-false (bit_and c (last (numbered 0 p))) 0 (not-true (eqb (bit_and c (last (numbered 0 p))) 0) e)) in
      let d = sym (bit_of_and c (last (numbered 0 p)) b.0) ∙ b.2 in
      record { place = b.0; member = (both (bit c b.0) _ d).0; rest = []; after = last_after (numbered 0 p) b.0 (both (bit c b.0) _ d).1; same = refl }
  set_goes c (v ∷ w) n l h =
      let s = run_on (onward p) (ends p) c v w h in
      let g = set_goes (onward p c v) w s.0 (onward_lt c v) s.1 in
      let o = onward_set c v g.place n g.member in
      record {
        place = o.1.which;
        member = o.1.chosen;
        rest = g.place ∷ g.rest;
        after = follow_after o.1.which g.place (spread 0 p) o.1.has g.after;
        same = ap₂ (λ (x : ℕ) (xs : List ℕ). x ∷ xs) o.0 g.same;
      }

  goes_set : (c i : ℕ) (w u : List ℕ) → (c ≡ 0 → ⊥) → bit c i ≡ true → After (numbered 0 p) i u → map (letter_at p) u ≡ w → runs (onward p) (ends p) c w ≡ true
  unfolding ends
  goes_set c i [] [] n h m e =
      rw (
        ne_eqb c 0 n,
        ne_eqb (bit_and c (last (numbered 0 p))) 0
            (no_bits (bit_and c (last (numbered 0 p))) i (bit_of_and c (last (numbered 0 p)) i ∙ and_goes (bit c i) _ true h (after_last m refl))),
      )
  goes_set c i [] (j ∷ u) n h m e = absurd (cons≢nil e)
  goes_set c i (v ∷ w) [] n h m e = absurd (nil≢cons e)
  goes_set c i (v ∷ w) (j ∷ u) n h m e =
      let ev : get_or (letters p) j 0 ≡ v = cc in
      let ew : map (letter_at p) u ≡ w = cc in
      let s = after_next j u m refl in
      let b = set_onward c v j i n (place_lt j u s.1) ev (place_lt i (j ∷ u) m) h s.0 in
      on_run (onward p) (ends p) c v w (no_bits (onward p c v) j b) (goes_set (onward p c v) j w u (no_bits (onward p c v) j b) b s.1 ew)

  -- from the empty prefix: the words that the pattern over places matches, with its letters read
  start_source : (w : List ℕ) → runs (onward p) (ends p) 0 w ≡ true → Source (letter_at p) (numbered 0 p) w
  unfolding ends
  start_source [] h = record { word = []; match = null_match (numbered 0 p) h; same = refl }
  start_source (v ∷ w) h =
      let s = run_on (onward p) (ends p) 0 v w h in
      let g = set_goes (onward p 0 v) w s.0 (onward_lt 0 v) s.1 in
      let o = onward_start v g.place g.member in
      record {
        word = g.place ∷ g.rest;
        match = first_match g.place (spread 0 p) o.1 g.after;
        same = ap₂ (λ (x : ℕ) (xs : List ℕ). x ∷ xs) o.0 g.same;
      }

  source_start : (w u : List ℕ) → Matches (numbered 0 p) u → map (letter_at p) u ≡ w → runs (onward p) (ends p) 0 w ≡ true
  unfolding ends
  source_start [] [] m e = match_null m refl
  source_start [] (j ∷ u) m e = absurd (cons≢nil e)
  source_start (v ∷ w) [] m e = absurd (nil≢cons e)
  source_start (v ∷ w) (j ∷ u) m e =
      let ev : get_or (letters p) j 0 ≡ v = cc in
      let ew : map (letter_at p) u ≡ w = cc in
      let s = match_first j u m refl in
      let b = start_onward v j (place_lt j u s.1) ev s.0 in
      on_run (onward p) (ends p) 0 v w (no_bits (onward p 0 v) j b) (goes_set (onward p 0 v) j w u (no_bits (onward p 0 v) j b) b s.1 ew)

  -- THE THEOREM: the automaton on sets of letter places accepts exactly the words that the pattern matches
  pub accepts_matches : (w : List ℕ) → (runs (onward p) (ends p) 0 w ≡ true) ↔ Matches p w
  accepts_matches w = (
    λ h. of_places p w (start_source w h),
    λ m. let s = to_places p w m in source_start w s.word s.match s.same,
  )
