-- What a filter tells: a mask for each place, 0 or 11, and a least cost of at most 366,000. Assumes nothing.
use mathlib.Core.Path.{◌≡◌, refl}
use mathlib.Core.Bool.{Bool, true, false, cond, and-eq-true_iff, false≢true}
use mathlib.Core.Logic.{inl, inr, ◌⊎◌}
use mathlib.Core.List.{List, [], ◌∷◌, map}
use Prim.Native.Nat.{ℕ, ◌+◌, ◌≤◌, min}
use native.Mathlib.Omega.{arith}
use lib.Dec.{leb}
use lib.ListN.{length}
use borrow.Author.Tests.{leb-true}
use Rattle.kinds.specs.Bits.{bit}
use Rattle.meaning.specs.Bounds.{top}
use Rattle.meaning.specs.Lists.{those}
use Rattle.meaning.specs.Meaning.{Arcs, Rules, target, cost, total, Place, takes, fits, allowed, words, rosters, least, answer, verdict_of}
use Rattle.meaning.proofs.Kept.{kept_length}

pub verdict_long : (r : Rules) (q c : ℕ) (ps : List Place) → length (verdict_of r q c ps).masks ≡ length ps
unfolding verdict_of
verdict_long r q c ps = kept_length r.arcs.values (length ps) (rosters r q c ps)

pub verdict_answers : (r : Rules) (q c : ℕ) (ps : List Place) → ((verdict_of r q c ps).answered ≡ 0) ⊎ ((verdict_of r q c ps).answered ≡ 11)
unfolding verdict_of
verdict_answers r q c ps = either (rosters r q c ps)
  where
    either : (ws : List (List ℕ)) → (answer ws ≡ 0) ⊎ (answer ws ≡ 11)
    either [] = inr refl
    either (w ∷ ws) = inl refl

-- the least cost is at most the top, since no place takes a roster above it
total_top : (a : Arcs) (q c : ℕ) (ps : List Place) (w : List ℕ) → c ≤ top → fits a q c ps w ≡ true → total a q c w ≤ top
total_top a q c ps [] h e = h
total_top a q c [] (v ∷ w) h e = absurd (false≢true e)
total_top a q c (p ∷ ps) (v ∷ w) h e =
    let b = (and-eq-true_iff (takes p (c + cost a q v) v) _).0 e in
    let t = (and-eq-true_iff (bit p.mask v) (leb (c + cost a q v) (min p.limit top))).0 b.0 in
    total_top a (target a q v) (c + cost a q v) ps w (omega (arith, leb-true (c + cost a q v) (min p.limit top) t.1)) b.1

least_first : (b x : ℕ) (xs : List ℕ) → x ≤ b → least (x ∷ xs) ≤ b
least_first b x [] h = h
least_first b x (y ∷ ys) h = omega arith

least_those : (b : ℕ) (f : List ℕ → ℕ) (p : List ℕ → Bool) → ((w : List ℕ) → p w ≡ true → f w ≤ b) → (ws : List (List ℕ)) → least (map f (those p ws)) ≤ b
least_those b f p g [] = omega arith
least_those b f p g (w ∷ ws) = go (p w) refl (least_those b f p g ws)
  where
    go : (t : Bool) → p w ≡ t → least (map f (those p ws)) ≤ b → least (map f (cond t (w ∷ those p ws) (those p ws))) ≤ b
    go true e r = least_first b (f w) (map f (those p ws)) (g w e)
    go false e r = r

pub verdict_cheap : (r : Rules) (q c : ℕ) (ps : List Place) → c ≤ top → (verdict_of r q c ps).cheapest ≤ top
unfolding verdict_of rosters
verdict_cheap r q c ps h =
    least_those top (total r.arcs q c) (allowed r q c ps) (λ w e. total_top r.arcs q c ps w h ((and-eq-true_iff (fits r.arcs q c ps w) _).0 e).0) (words r.arcs.values (length ps))
