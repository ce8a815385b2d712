-- What is in the list of rosters, and the least of some numbers.
use mathlib.Core.Path.{◌≡◌, refl, sym, ap, ◌∙◌, subst}
use mathlib.Core.Bool.{Bool, true, false≢true, and-eq-true_iff}
use mathlib.Core.Logic.{◌⊎◌, inl, inr, ◌↔◌}
use mathlib.Core.List.Memᴰ
use mathlib.Core.List.{List, [], ◌∷◌, map}
use mathlib.Core.List.Memᴰ.{cases_cons as cases}
use mathlib.Core.List.Memᴰ.{eq_of_singleton}
use mathlib.Core.List.Memᴰ.{head}
use mathlib.Core.List.Memᴰ.{not-nil}
use mathlib.Core.List.Memᴰ.{tail}
use mathlib.Core.List.{Memᴰ as In}
use Prim.Native.Nat.{ℕ, zero, suc, ◌+◌, ◌≤◌, ◌<◌, min}
use native.Mathlib.Omega.{arith}
use native.Mathlib.Decide.{dec_le}
use lib.ListN.{length, get_or}
use borrow.Author.Tests.{leb-true, le-leb, ltb-true, lt-ltb}
use Rattle.kinds.specs.Bits.{bit}
use Rattle.meaning.specs.Meaning.{Rules, target, cost, has_arc, Place, places, takes, accepted, fits, allowed, words, rosters, least, answer}
use Rattle.meaning.specs.Lists.{from, those}
use Rattle.meaning.specs.Bounds.{top}
use Rattle.meaning.proofs.Lists.{those_in, in_those, each_in, in_each, from_in, in_from}

-- every value of the word is below vs
abbrev pub Below : ℕ → List ℕ → Type 0
Below vs [] = Unit {0}
Below vs (v ∷ w) = (v < vs) × Below vs w

pub below_at : (vs i : ℕ) (w : List ℕ) → Below vs w → i < length w → get_or w i 0 < vs
below_at vs i [] b h = absurd (omega arith)
below_at vs zero (x ∷ w) b h = b.0
below_at vs (suc i) (x ∷ w) b h = below_at vs i w b.1 (omega arith)

-- a word below vs, named by its first value and its rest
below_of : (vs x : ℕ) (z w : List ℕ) → x ∷ z ≡ w → x < vs → Below vs z → Below vs w
below_of vs x z w e h b = subst (λ (l : List ℕ). Below vs l) e (h, b)

-- a word of the list of words has its length and its values below vs
pub words_in : (vs n : ℕ) (w : List ℕ) → In w (words vs n) → (length w ≡ n) × Below vs w
words_in vs zero w m = let e : [] ≡ w = sym (eq_of_singleton m) in (sym (ap length e), rw (← e) tt)
words_in vs (suc n) w m =
    let r = each_in (λ v. map (λ w. v ∷ w) (words vs n)) (from 0 vs) m in
    let k = Memᴰ.of_map (λ w. r.0 ∷ w) (words vs n) r.2 in
    let z = words_in vs n k.0 k.1 in
    (sym (ap length k.2) ∙ ap suc z.0, below_of vs r.0 k.0 w k.2 (omega (arith, (from_in 0 vs r.1).1)) z.1)

-- every word of values below vs is in the list of words of its length
pub in_words : (vs : ℕ) (w : List ℕ) → Below vs w → In w (words vs (length w))
in_words vs [] b = head refl
in_words vs (v ∷ w) b =
    in_each (λ v. map (λ w. v ∷ w) (words vs (length w))) (in_from 0 vs v (omega arith) (omega arith)) (Memᴰ.map (λ w. v ∷ w) (in_words vs w b.1))

-- one step of an allowed roster
pub record Goes (r : Rules) (q c : ℕ) (p : Place) (v : ℕ) (ps : List Place) (w : List ℕ) : Type 0 where
  pub chosen : bit p.mask v ≡ true
  pub within : c + cost r.arcs q v ≤ min p.limit top
  pub arc : target r.arcs q v < r.arcs.states
  pub rest : allowed r (target r.arcs q v) (c + cost r.arcs q v) ps w ≡ true

-- a roster is allowed exactly if it takes its first step and its rest is allowed from there
pub goes : (r : Rules) (q c : ℕ) (p : Place) (v : ℕ) (ps : List Place) (w : List ℕ) → (allowed r q c (p ∷ ps) (v ∷ w) ≡ true) ↔ Goes r q c p v ps w
goes r q c p v ps w = (fwd, bwd)
  where
    bwd : Goes r q c p v ps w → allowed r q c (p ∷ ps) (v ∷ w) ≡ true
    bwd g =
        let b = (and-eq-true_iff (fits r.arcs (target r.arcs q v) (c + cost r.arcs q v) ps w) _).0 g.rest in
        rw (g.chosen, le-leb _ _ g.within, lt-ltb _ _ g.arc, b.0, b.1)

    fwd : allowed r q c (p ∷ ps) (v ∷ w) ≡ true → Goes r q c p v ps w
    fwd h =
        let a = (and-eq-true_iff (fits r.arcs q c (p ∷ ps) (v ∷ w)) (accepted r q (v ∷ w))).0 h in
        let b = (and-eq-true_iff (takes p (c + cost r.arcs q v) v) _).0 a.0 in
        let d = (and-eq-true_iff (bit p.mask v) _).0 b.0 in
        let e = (and-eq-true_iff (has_arc r.arcs q v) _).0 a.1 in
        record { chosen = d.0; within = leb-true _ _ d.1; arc = ltb-true _ _ e.0; rest = rw (b.1, e.1) }

-- an allowed roster has a value for each place
pub allowed_length : (r : Rules) (q c : ℕ) (ps : List Place) (w : List ℕ) → allowed r q c ps w ≡ true → length w ≡ length ps
allowed_length r q c [] [] h = refl
allowed_length r q c [] (v ∷ w) h = absurd (false≢true h)
allowed_length r q c (p ∷ ps) [] h = absurd (false≢true h)
allowed_length r q c (p ∷ ps) (v ∷ w) h =
    ap suc (allowed_length r (target r.arcs q v) (c + cost r.arcs q v) ps w ((goes r q c p v ps w).0 h).rest)

-- of the words of n values, those that f picks
pub picked_in : (f : List ℕ → Bool) (vs n : ℕ) (w : List ℕ) → In w (those f (words vs n)) ↔ ((length w ≡ n) × Below vs w × (f w ≡ true))
picked_in f vs n w = (fwd, bwd)
  where
    fwd : In w (those f (words vs n)) → (length w ≡ n) × Below vs w × (f w ≡ true)
    fwd m =
        let t = those_in f (words vs n) m in
        let k = words_in vs n w t.0 in
        (k.0, k.1, t.1)

    bwd : (length w ≡ n) × Below vs w × (f w ≡ true) → In w (those f (words vs n))
    bwd t = in_those f (rw t.0 at (in_words vs w t.1)) t.2

-- a word is in the list exactly if it has the places' length, its values are below V, and it is allowed
pub roster_in : (r : Rules) (q c : ℕ) (ps : List Place) (w : List ℕ)
    → In w (rosters r q c ps) ↔ ((length w ≡ length ps) × Below r.arcs.values w × (allowed r q c ps w ≡ true))
unfolding rosters
roster_in r q c ps w = picked_in (allowed r q c ps) r.arcs.values (length ps) w

-- there are as many places as masks
pub length_places : (ms ls : List ℕ) → length ms ≡ length ls → length (places ms ls) ≡ length ms
unfolding places
length_places [] ls e = refl
length_places (m ∷ ms) [] e = absurd (omega arith)
length_places (m ∷ ms) (l ∷ ls) e = ap suc (length_places ms ls (omega arith))

-- the least of some numbers is one of them
pub least_in : (xs : List ℕ) → answer xs ≡ 0 → In (least xs) xs
least_in [] h = absurd (omega arith)
least_in (x ∷ []) h = head refl
least_in (x ∷ (y ∷ ys)) h = go (dec_le x (least (y ∷ ys))) (least_in (y ∷ ys) refl)
  where
    go : Dec (x ≤ least (y ∷ ys)) → In (least (y ∷ ys)) (y ∷ ys) → In (min x (least (y ∷ ys))) (x ∷ (y ∷ ys))
    go (yes h) m = let e : min x (least (y ∷ ys)) ≡ x = omega arith in head e
    go (no h) m = let e : min x (least (y ∷ ys)) ≡ least (y ∷ ys) = omega arith in tail (Memᴰ.cast e m)

-- the least of some numbers is at most each of them
pub least_le : (y : ℕ) (xs : List ℕ) → In y xs → least xs ≤ y
least_le y [] m = absurd (not-nil m)
least_le y (x ∷ []) m = omega (arith, eq_of_singleton m)
least_le y (x ∷ (z ∷ zs)) m = go (cases m) (λ k. least_le y (z ∷ zs) k)
  where
    go : (y ≡ x) ⊎ In y (z ∷ zs) → (In y (z ∷ zs) → least (z ∷ zs) ≤ y) → min x (least (z ∷ zs)) ≤ y
    go (inl e) rec = omega arith
    go (inr k) rec = omega (arith, rec k)

-- a list sent through f is empty exactly if it was
pub answer_map : {A B : Type 0} (f : A → B) (xs : List A) → answer (map f xs) ≡ answer xs
answer_map f [] = refl
answer_map f (x ∷ xs) = refl
