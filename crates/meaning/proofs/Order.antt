-- The list of rosters rises strictly in the paper's order.
use mathlib.Core.Path.{◌≡◌, refl, subst}
use mathlib.Core.Bool.{Bool, true, false, cond}
use mathlib.Core.Logic.{◌⊎◌, inl, inr, ⊎_elim}
use mathlib.Core.List.Memᴰ
use mathlib.Core.List.{List, [], ◌∷◌, ◌++◌, map}
use mathlib.Core.List.Memᴰ.{append_cases}
use mathlib.Core.List.Memᴰ.{head}
use mathlib.Core.List.Memᴰ.{not-nil}
use mathlib.Core.List.Memᴰ.{tail}
use mathlib.Core.List.{Memᴰ as In}
use Prim.Native.Nat.{ℕ, zero, suc, ◌<◌}
use lib.ListN.{length}
use Rattle.meaning.specs.Meaning.{Rules, Place, allowed, words, rosters}
use Rattle.meaning.specs.Lists.{from, each, those}
use Rattle.meaning.proofs.Lists.{those_in, each_in, from_in}

-- w comes before z, compared place by place, smaller value first
abbrev pub Sooner : List ℕ → List ℕ → Type 0
Sooner [] z = ⊥
Sooner (x ∷ w) [] = ⊥
Sooner (x ∷ w) (y ∷ z) = (x < y) ⊎ ((x ≡ y) × Sooner w z)

-- each word comes before all that follow it in the list
abbrev pub Rising : List (List ℕ) → Type 0
Rising [] = Unit {0}
Rising (w ∷ ws) = ((z : List ℕ) → In z ws → Sooner w z) × Rising ws

-- those of a rising list rise
pub rising_those : (f : List ℕ → Bool) (ws : List (List ℕ)) → Rising ws → Rising (those f ws)
rising_those f [] h = tt
rising_those f (w ∷ ws) h = go (f w) (rising_those f ws h.1)
  where
    go : (b : Bool) → Rising (those f ws) → Rising (cond b (w ∷ those f ws) (those f ws))
    go true k = (λ z m. h.0 z (those_in f ws m).0, k)
    go false k = k

-- two rising lists rise together if the first comes before the second
rising_append : (xs ys : List (List ℕ)) → Rising xs → Rising ys → ((x y : List ℕ) → In x xs → In y ys → Sooner x y) → Rising (xs ++ ys)
rising_append [] ys h k s = k
rising_append (x ∷ xs) ys h k s =
    (λ z m. ⊎_elim (λ i. h.0 z i) (λ i. s x z (head refl) i) (append_cases xs m), rising_append xs ys h.1 k (λ a b i j. s a b (tail i) j))

-- one value put before each word of a rising list
rising_map : (v : ℕ) (ws : List (List ℕ)) → Rising ws → Rising (map (λ w. v ∷ w) ws)
rising_map v [] h = tt
rising_map v (w ∷ ws) h = (later, rising_map v ws h.1)
  where
    later : (z : List ℕ) → In z (map (λ w. v ∷ w) ws) → Sooner (v ∷ w) z
    later z m =
        let k = Memᴰ.of_map (λ w. v ∷ w) ws m in
        subst (λ (x : List ℕ). Sooner (v ∷ w) x) k.2 (inr (refl, h.0 k.0 k.1))

-- each value in turn put before each word of a rising list
rising_each : (ws : List (List ℕ)) (i n : ℕ) → Rising ws → Rising (each (λ v. map (λ w. v ∷ w) ws) (from i n))
rising_each ws i zero h = tt
rising_each ws i (suc n) h =
    rising_append (map (λ w. i ∷ w) ws) (each (λ v. map (λ w. v ∷ w) ws) (from (suc i) n)) (rising_map i ws h) (rising_each ws (suc i) n h) later
  where
    later : (x y : List ℕ) → In x (map (λ w. i ∷ w) ws) → In y (each (λ v. map (λ w. v ∷ w) ws) (from (suc i) n)) → Sooner x y
    later x y m k =
        let a = Memᴰ.of_map (λ w. i ∷ w) ws m in
        let b = each_in (λ v. map (λ w. v ∷ w) ws) (from (suc i) n) k in
        let d = Memᴰ.of_map (λ w. b.0 ∷ w) ws b.2 in
        let s : Sooner (i ∷ a.0) (b.0 ∷ d.0) = inl (from_in (suc i) n b.1).0 in
        subst (λ (z : List ℕ). Sooner z y) a.2 (subst (λ (z : List ℕ). Sooner (i ∷ a.0) z) d.2 s)

-- the list of words rises
pub rising_words : (vs n : ℕ) → Rising (words vs n)
rising_words vs zero = (λ z m. absurd (not-nil m), tt)
rising_words vs (suc n) = rising_each (words vs n) 0 vs (rising_words vs n)

-- the list of rosters rises
pub rising : (r : Rules) (q c : ℕ) (ps : List Place) → Rising (rosters r q c ps)
unfolding rosters
rising r q c ps = rising_those (allowed r q c ps) (words r.arcs.values (length ps)) (rising_words r.arcs.values (length ps))
