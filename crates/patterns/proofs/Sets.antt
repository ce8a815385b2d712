-- The configuration after a prefix is the set of the letter places that could have read its last letter. Assumes nothing.
use mathlib.Core.Path.{◌≡◌, refl, sym, ap, ap₂, ◌∙◌, subst}
use mathlib.Core.Bool.{true, cond, false≢true}
use mathlib.Core.Logic.{◌↔◌}
use mathlib.Core.List.{List, [], ◌∷◌, ◌++◌, map, map-append, append-nil, append_assoc}
use Prim.Native.Nat.{ℕ, ◌≤◌, ◌<◌}
use native.Mathlib.Omega.{arith}
use native.Mathlib.Decide.{ℕ_discrete, dec_lt}
use lib.Dec.{eqb}
use lib.ListN.{get_or}
use borrow.Author.Tests.{eq-eqb, ne_eqb}
use Rattle.kinds.specs.Bits.{bit}
use Rattle.kinds.proofs.Bits.{bit_none}
use Rattle.patterns.specs.Pattern.{Pattern, Letter, Then, Or, More, Perhaps, Matches, letter, then, left, once, none, letters, numbered, CouldRead}
use Rattle.patterns.specs.Places.{follow, onward}
use Rattle.patterns.proofs.Places.{After, here, early, late, inleft, inright, ending, inside, Spread, one, two, beside, many, maybe, spread, first_inside, follow_inside, match_first, first_match, after_next, follow_after}
use Rattle.numbering.specs.Numbering.{reaches}
use Rattle.patterns.proofs.Words.{letter_at, place_lt, onward_set, set_onward, onward_start, start_onward}
use Rattle.patterns.proofs.Members.{no_bits}

-- every pattern matches a word, and every place of it can be gone on from
some_word : (r : Pattern) → (u : List ℕ) × Matches r u
some_word (Letter i) = (i ∷ [], letter)
some_word (Then p q) = let a = some_word p in let b = some_word q in (a.0 ++ b.0, then a.1 b.1)
some_word (Or p q) = let a = some_word p in (a.0, left a.1)
some_word (More p) = let a = some_word p in (a.0, once a.1)
some_word (Perhaps p) = ([], none)

finish : {a b : ℕ} {r : Pattern} (i : ℕ) → Spread a r b → a ≤ i → i < b → (u : List ℕ) × After r i u
finish i (one {i = j}) h k = let e : i ≡ j = omega arith in ([], rw e here)
finish i (two {p} {q} {b = b} s t) h k = go (dec_lt i b) (λ l. finish i s h l) (λ l. finish i t l k)
  where
    go : Dec (i < b) → (i < b → (u : List ℕ) × After p i u) → (b ≤ i → (u : List ℕ) × After q i u) → (u : List ℕ) × After (Then p q) i u
    go (yes l) f g = let x = f l in let y = some_word q in (x.0 ++ y.0, early x.1 y.1)
    go (no l) f g = let x = g (omega arith) in (x.0, late x.1)
finish i (beside {p} {q} {b = b} s t) h k = go (dec_lt i b) (λ l. finish i s h l) (λ l. finish i t l k)
  where
    go : Dec (i < b) → (i < b → (u : List ℕ) × After p i u) → (b ≤ i → (u : List ℕ) × After q i u) → (u : List ℕ) × After (Or p q) i u
    go (yes l) f g = let x = f l in (x.0, inleft x.1)
    go (no l) f g = let x = g (omega arith) in (x.0, inright x.1)
finish i (many s) h k = let x = finish i s h k in (x.0, ending x.1)
finish i (maybe s) h k = let x = finish i s h k in (x.0, inside x.1)

-- what goes on after a place may be exchanged
swap_after : {a b x : ℕ} {r : Pattern} (before : List ℕ) (i : ℕ) (rest rest' : List ℕ) → Spread a r b → After r x (before ++ (i ∷ rest)) → After r i rest'
    → After r x (before ++ (i ∷ rest'))
swap_after {x = x} [] i rest rest' s m n = follow_after x i s (after_next i rest m refl).0 n
swap_after {x = x} (y ∷ before) i rest rest' s m n =
    let k = after_next y (before ++ (i ∷ rest)) m refl in
    follow_after x y s k.0 (swap_after before i rest rest' s k.1 n)

swap_match : {a b : ℕ} {r : Pattern} (before : List ℕ) (i : ℕ) (rest rest' : List ℕ) → Spread a r b → Matches r (before ++ (i ∷ rest)) → After r i rest'
    → Matches r (before ++ (i ∷ rest'))
swap_match [] i rest rest' s m n = first_match i s (match_first i rest m refl).0 n
swap_match (y ∷ before) i rest rest' s m n =
    let k = match_first y (before ++ (i ∷ rest)) m refl in
    first_match y s k.0 (swap_after before i rest rest' s k.1 n)

module _ (p : Pattern) where
  could_first : (v j : ℕ) → bit (onward p 0 v) j ≡ true → CouldRead p (v ∷ []) j
  could_first v j h =
      let o = onward_start p v j h in
      let f = first_inside j (spread 0 p) o.1 in
      let u = finish j (spread 0 p) f.low f.high in
      record { before = []; rest = u.0; match = first_match j (spread 0 p) o.1 u.1; same = ap (λ (x : ℕ). x ∷ []) o.0 }

  could_next : (w : List ℕ) (v i j : ℕ) → CouldRead p w i → bit (follow (numbered 0 p) i) j ≡ true → get_or (letters p) j 0 ≡ v → CouldRead p (w ++ (v ∷ [])) j
  could_next w v i j c h e =
      let f = follow_inside i j (spread 0 p) h in
      let u = finish j (spread 0 p) f.low f.high in
      let m = swap_match c.before i c.rest (j ∷ u.0) (spread 0 p) c.match (follow_after i j (spread 0 p) h u.1) in
      record {
        before = c.before ++ (i ∷ []);
        rest = u.0;
        match = rw (append_assoc c.before (i ∷ []) (j ∷ u.0)) m;
        same = map-append (letter_at p) (c.before ++ (i ∷ [])) (j ∷ []) ∙ ap₂ (λ (a b : List ℕ). a ++ b) c.same (ap (λ (x : ℕ). x ∷ []) e);
      }

  set_could : (c j : ℕ) (w₀ w : List ℕ) → (c ≡ 0 → ⊥) → ((i : ℕ) → bit c i ≡ true → CouldRead p w₀ i) → bit (reaches (onward p) c w) j ≡ true → CouldRead p (w₀ ++ w) j
  set_could c j w₀ [] n g h = rw (append-nil w₀) (g j h)
  set_could c j w₀ (v ∷ w) n g h = go (ℕ_discrete (onward p c v) 0) h (λ m k. set_could (onward p c v) j (w₀ ++ (v ∷ [])) w m members k)
    where
      members : (i : ℕ) → bit (onward p c v) i ≡ true → CouldRead p (w₀ ++ (v ∷ [])) i
      members i k = let o = onward_set p c v i n k in could_next w₀ v o.1.which i (g o.1.which o.1.chosen) o.1.has o.0

      go : Dec (onward p c v ≡ 0) → bit (cond (eqb (onward p c v) 0) 0 (reaches (onward p) (onward p c v) w)) j ≡ true
          → ((onward p c v ≡ 0 → ⊥) → bit (reaches (onward p) (onward p c v) w) j ≡ true → CouldRead p (w₀ ++ (v ∷ []) ++ w) j) → CouldRead p (w₀ ++ (v ∷ w)) j
      go (yes e) h rec = absurd (false≢true (sym (bit_none j) ∙ (rw (eq-eqb (onward p c v) 0 e) at h)))
      go (no m) h rec = rw (append_assoc w₀ (v ∷ []) w) at (rec m (rw (ne_eqb (onward p c v) 0 m) at h))

  reach_set : (c x : ℕ) (b : List ℕ) (i : ℕ) (rest : List ℕ) → (c ≡ 0 → ⊥) → bit c x ≡ true → After (numbered 0 p) x (b ++ (i ∷ rest))
      → bit (reaches (onward p) c (map (letter_at p) (b ++ (i ∷ [])))) i ≡ true
  reach_set c x [] i rest n h m =
      let s = after_next i rest m refl in
      let k = set_onward p c (letter_at p i) i x n (place_lt p i rest s.1) refl (place_lt p x (i ∷ rest) m) h s.0 in
      rw (ne_eqb (onward p c (letter_at p i)) 0 (no_bits (onward p c (letter_at p i)) i k)) k
  reach_set c x (y ∷ b) i rest n h m =
      let s = after_next y (b ++ (i ∷ rest)) m refl in
      let k = set_onward p c (letter_at p y) y x n (place_lt p y (b ++ (i ∷ rest)) s.1) refl (place_lt p x (y ∷ (b ++ (i ∷ rest))) m) h s.0 in
      rw (ne_eqb (onward p c (letter_at p y)) 0 (no_bits (onward p c (letter_at p y)) y k))
      (reach_set (onward p c (letter_at p y)) y b i rest (no_bits (onward p c (letter_at p y)) y k) k s.1)

  reach_start : (b : List ℕ) (i : ℕ) (rest : List ℕ) → Matches (numbered 0 p) (b ++ (i ∷ rest)) → bit (reaches (onward p) 0 (map (letter_at p) (b ++ (i ∷ [])))) i ≡ true
  reach_start [] i rest m =
      let s = match_first i rest m refl in
      let k = start_onward p (letter_at p i) i (place_lt p i rest s.1) refl s.0 in
      rw (ne_eqb (onward p 0 (letter_at p i)) 0 (no_bits (onward p 0 (letter_at p i)) i k)) k
  reach_start (y ∷ b) i rest m =
      let s = match_first y (b ++ (i ∷ rest)) m refl in
      let k = start_onward p (letter_at p y) y (place_lt p y (b ++ (i ∷ rest)) s.1) refl s.0 in
      rw (ne_eqb (onward p 0 (letter_at p y)) 0 (no_bits (onward p 0 (letter_at p y)) y k))
      (reach_set (onward p 0 (letter_at p y)) y b i rest (no_bits (onward p 0 (letter_at p y)) y k) k s.1)

  -- THE STATES ARE THOSE ASKED FOR
  pub set_is : (v : ℕ) (w : List ℕ) (i : ℕ) → (bit (reaches (onward p) 0 (v ∷ w)) i ≡ true) ↔ CouldRead p (v ∷ w) i
  set_is v w i = (fwd, λ c. subst (λ (x : List ℕ). bit (reaches (onward p) 0 x) i ≡ true) c.same (reach_start c.before i c.rest c.match))
    where
      fwd : bit (reaches (onward p) 0 (v ∷ w)) i ≡ true → CouldRead p (v ∷ w) i
      fwd h = go (ℕ_discrete (onward p 0 v) 0)
        where
          go : Dec (onward p 0 v ≡ 0) → CouldRead p (v ∷ w) i
          go (yes e) = absurd (false≢true (sym (bit_none i) ∙ (rw (eq-eqb (onward p 0 v) 0 e) at h)))
          go (no m) = set_could (onward p 0 v) i (v ∷ []) w m (λ j k. could_first v j k) (rw (ne_eqb (onward p 0 v) 0 m) at h)
