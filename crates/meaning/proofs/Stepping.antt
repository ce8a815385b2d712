-- Picking from lists, and the rosters by their first value. Assumes nothing.
use mathlib.Core.Path.{◌≡◌, refl, ap, ◌∙◌}
use mathlib.Core.Bool.{Bool, true, false, cond, ◌&&◌}
use mathlib.Core.List.{List, [], ◌∷◌, ◌++◌, map}
use Prim.Native.Nat.{ℕ, zero, suc, ◌+◌, ◌≤◌, ◌<◌}
use native.Mathlib.Omega.{arith}
use native.Mathlib.Decide.{ℕ_discrete}
use lib.ListN.{length, take}
use Rattle.meaning.specs.Meaning.{Rules, target, cost, has_arc, Place, takes, allowed, words, rosters}
use Rattle.meaning.specs.Lists.{from, each, those}

-- picking from lists
those_join : {A : Type 0} (f : A → Bool) (xs ys : List A) → those f (xs ++ ys) ≡ those f xs ++ those f ys
those_join f [] ys = refl
those_join {A} f (x ∷ xs) ys = go (f x) (those_join f xs ys)
  where
    go : (b : Bool) → those f (xs ++ ys) ≡ those f xs ++ those f ys
        → cond b (x ∷ those f (xs ++ ys)) (those f (xs ++ ys)) ≡ cond b (x ∷ those f xs) (those f xs) ++ those f ys
    go true h = ap (λ (l : List A). x ∷ l) h
    go false h = h

those_and : {A : Type 0} (b : Bool) (f g : A → Bool) (xs : List A) → ((x : A) → g x ≡ (b && f x)) → those g xs ≡ cond b (those f xs) []
those_and {A} b f g [] h = go b
  where
    go : (b : Bool) → ◌≡◌ {A = List A} [] (cond b [] [])
    go true = refl
    go false = refl
those_and {A} b f g (x ∷ xs) h = rw (h x, those_and b f g xs h) (go b (f x))
  where
    go : (b d : Bool) → cond (b && d) (x ∷ cond b (those f xs) []) (cond b (those f xs) []) ≡ cond b (cond d (x ∷ those f xs) (those f xs)) []
    go true d = refl
    go false d = refl

pub those_map : {A B : Type 0} (f : B → Bool) (h : A → B) (xs : List A) → those f (map h xs) ≡ map h (those (λ x. f (h x)) xs)
those_map f h [] = refl
those_map {A} {B} f h (x ∷ xs) = rw (those_map f h xs) (go (f (h x)))
  where
    go : (b : Bool) → cond b (h x ∷ map h (those (λ x. f (h x)) xs)) (map h (those (λ x. f (h x)) xs)) ≡ map h (cond b (x ∷ those (λ x. f (h x)) xs) (those (λ x. f (h x)) xs))
    go true = refl
    go false = refl

pub those_each : {A B : Type 0} (f : B → Bool) (g h : A → List B) (xs : List A) → ((x : A) → those f (g x) ≡ h x) → those f (each g xs) ≡ each h xs
those_each f g h [] e = refl
those_each f g h (x ∷ xs) e = those_join f (g x) (each g xs) ∙ rw (e x, those_each f g h xs e)

-- the rosters, by their first value
abbrev pub stepping : Rules → ℕ → ℕ → Place → ℕ → Bool
stepping r q c p v = takes p (c + cost r.arcs q v) v && has_arc r.arcs q v

unfoldable pub taken_first : Rules → ℕ → ℕ → Place → List Place → ℕ → List (List ℕ)
taken_first r q c p ps v = map (λ w. v ∷ w) (cond (stepping r q c p v) (rosters r (target r.arcs q v) (c + cost r.arcs q v) ps) [])

pub rosters_by : (r : Rules) (q c : ℕ) (p : Place) (ps : List Place) → rosters r q c (p ∷ ps) ≡ each (taken_first r q c p ps) (from 0 r.arcs.values)
unfolding rosters taken_first
rosters_by r q c p ps =
    those_each (allowed r q c (p ∷ ps)) (λ v. map (λ w. v ∷ w) (words r.arcs.values (length ps))) (taken_first r q c p ps) (from 0 r.arcs.values)
    (λ v. those_map (allowed r q c (p ∷ ps)) (λ w. v ∷ w) (words r.arcs.values (length ps))
    ∙ ap (map (λ w. v ∷ w)) (those_and (stepping r q c p v) (allowed r (target r.arcs q v) (c + cost r.arcs q v) ps) (λ w. allowed r q c (p ∷ ps) (v ∷ w)) (words r.arcs.values (length ps))
    (λ w. mixed (takes p (c + cost r.arcs q v) v) _ (has_arc r.arcs q v) _)))
  where
    mixed : (a b d e : Bool) → ((a && b) && (d && e)) ≡ ((a && d) && (b && e))
    mixed true true true e = refl
    mixed true true false e = refl
    mixed true false true e = refl
    mixed true false false e = refl
    mixed false b d e = refl

-- the first of several lists
pub each_none : {A : Type 0} (h : ℕ → List A) (i n : ℕ) → ((u : ℕ) → i ≤ u → u < i + n → h u ≡ []) → each h (from i n) ≡ []
each_none h i zero e = refl
each_none h i (suc n) e = rw (e i (omega arith) (omega arith), each_none h (suc i) n (λ u a b. e u (omega arith) (omega arith)))

pub each_first : {A : Type 0} (h : ℕ → List A) (i n v : ℕ) {x : A} {xs : List A} → i ≤ v → v < i + n → ((u : ℕ) → i ≤ u → u < v → h u ≡ []) → h v ≡ x ∷ xs
    → take 1 (each h (from i n)) ≡ x ∷ []
each_first h i zero v a b e f = absurd (omega arith)
each_first {A} h i (suc n) v {x} {xs} a b e f = go (ℕ_discrete v i) (λ p. each_first h (suc i) n v p (omega arith) (λ u k l. e u (omega arith) l) f)
  where
    go : Dec (v ≡ i) → (suc i ≤ v → take 1 (each h (from (suc i) n)) ≡ x ∷ []) → take 1 (h i ++ each h (from (suc i) n)) ≡ x ∷ []
    go (yes d) rec = rw (← d, f)
    go (no d) rec = rw (e i (omega arith) (omega arith)) (rec (omega arith))
