-- A decision takes from the list the rosters that do not meet it, and changes nothing else.
use mathlib.Core.Path.{◌≡◌, refl, sym, ap, ◌∙◌}
use mathlib.Core.Bool.{Bool, true, ◌&&◌, and_assoc, and_comm}
use mathlib.Core.List.{List, [], ◌∷◌}
use Prim.Native.Nat.{ℕ, zero, suc, ◌+◌, ◌≤◌, ◌<◌, min}
use native.Mathlib.Omega.{arith}
use native.Mathlib.Decide.{dec_le}
use lib.Bits.{bit_and}
use lib.Dec.{leb}
use lib.ListN.{length, get_or, take}
use borrow.Author.Tests.{le-leb, lt-leb}
use Rattle.kinds.specs.Bits.{bit}
use Rattle.kinds.proofs.Bits.{bit_of_and}
use Rattle.meaning.specs.Meaning.{Arcs, Rules, target, cost, total, Place, place, takes, accepted, fits, allowed, words, rosters, Decision, Keep, Limit, change, decide, decides}
use Rattle.meaning.specs.Lists.{those, all}
use Rattle.meaning.specs.Bounds.{top}
use Rattle.meaning.proofs.Lists.{those_those, those_same}

-- f holds of the running cost and the value at place i (if the roster has that place)
abbrev pub holds : Arcs → (ℕ → ℕ → Bool) → ℕ → ℕ → ℕ → List ℕ → Bool
holds a f i q c [] = true
holds a f zero q c (v ∷ w) = f (c + cost a q v) v
holds a f (suc i) q c (v ∷ w) = holds a f i (target a q v) (c + cost a q v) w

-- the roster meets the decision
abbrev pub meets : Arcs → ℕ → ℕ → Decision → List ℕ → Bool
meets a q c (Keep i m) w = holds a (λ s v. bit m v) i q c w
meets a q c (Limit i l) w = holds a (λ s v. leb s l) i q c w

-- a roster meets a keep if its value at that place is in the mask
pub keep_meets : (a : Arcs) (q c i m : ℕ) (w : List ℕ) → i < length w → meets a q c (Keep i m) w ≡ bit m (get_or w i 0)
keep_meets a q c i m [] h = absurd (omega arith)
keep_meets a q c zero m (v ∷ w) h = refl
keep_meets a q c (suc i) m (v ∷ w) h = keep_meets a (target a q v) (c + cost a q v) i m w (omega arith)

-- a roster meets a limit if its running cost up to and including that place is within it
pub limit_meets : (a : Arcs) (q c i l : ℕ) (w : List ℕ) → i < length w → meets a q c (Limit i l) w ≡ leb (total a q c (take (suc i) w)) l
limit_meets a q c i l [] h = absurd (omega arith)
limit_meets a q c zero l (v ∷ w) h = refl
limit_meets a q c (suc i) l (v ∷ w) h = limit_meets a (target a q v) (c + cost a q v) i l w (omega arith)

-- a change at one place leaves the length
pub length_change : {A : Type 0} (f : A → A) (i : ℕ) (xs : List A) → length (change f i xs) ≡ length xs
length_change f i [] = refl
length_change f zero (x ∷ xs) = refl
length_change f (suc i) (x ∷ xs) = ap suc (length_change f i xs)

-- the last two of three conditions change places
and_swap : (a b d : Bool) → (a && b && d) ≡ (a && d && b)
and_swap a b d = and_assoc a b d ∙ ap (λ (x : Bool). a && x) (and_comm b d) ∙ sym (and_assoc a d b)

-- within the smaller of two limits: within both
leb_min : (c a b t : ℕ) → leb c (min (min a b) t) ≡ (leb c (min a t) && leb c b)
leb_min c a b t = go (dec_le c (min a t)) (dec_le c b)
  where
    go : Dec (c ≤ min a t) → Dec (c ≤ b) → leb c (min (min a b) t) ≡ (leb c (min a t) && leb c b)
    go (yes h) (yes k) = le-leb c (min (min a b) t) (omega arith) ∙ sym (rw (le-leb _ _ h, le-leb _ _ k))
    go (yes h) (no k) = lt-leb c (min (min a b) t) (omega arith) ∙ sym (rw (le-leb _ _ h, lt-leb c b (omega arith)))
    go (no h) k = lt-leb c (min (min a b) t) (omega arith) ∙ sym (rw (lt-leb c (min a t) (omega arith)))

-- g makes a place take what it took, where f holds
module _ (r : Rules) (g : Place → Place) (f : ℕ → ℕ → Bool) (narrows : (p : Place) (c v : ℕ) → takes (g p) c v ≡ (takes p c v && f c v)) where
  -- a roster fits the changed places exactly if it fitted, and f holds at place i
  fits_change : (i q c : ℕ) (ps : List Place) (w : List ℕ) → fits r.arcs q c (change g i ps) w ≡ (fits r.arcs q c ps w && holds r.arcs f i q c w)
  fits_change i q c [] [] = refl
  fits_change i q c [] (v ∷ w) = refl
  fits_change zero q c (p ∷ ps) [] = refl
  fits_change (suc i) q c (p ∷ ps) [] = refl
  fits_change zero q c (p ∷ ps) (v ∷ w) =
      rw (narrows p (c + cost r.arcs q v) v) (and_swap (takes p (c + cost r.arcs q v) v) (f (c + cost r.arcs q v) v) _)
  fits_change (suc i) q c (p ∷ ps) (v ∷ w) =
      rw (fits_change i (target r.arcs q v) (c + cost r.arcs q v) ps w) (simp and_assoc)

  -- the rosters of the changed places are those of which f holds at place i
  rosters_change : (i q c : ℕ) (ps : List Place) → rosters r q c (change g i ps) ≡ those (holds r.arcs f i q c) (rosters r q c ps)
  unfolding rosters
  rosters_change i q c ps =
      rw (length_change g i ps) (those_same _ _ (words r.arcs.values (length ps)) (λ w m.
      rw (fits_change i q c ps w) (and_swap (fits r.arcs q c ps w) (holds r.arcs f i q c w) (accepted r q w))))
      ∙ sym (those_those (holds r.arcs f i q c) (allowed r q c ps) (words r.arcs.values (length ps)))

module _ (r : Rules) (q c : ℕ) where
  -- one decision leaves the rosters that meet it
  pub narrow : (ps : List Place) (d : Decision) → rosters r q c (decide ps d) ≡ those (meets r.arcs q c d) (rosters r q c ps)
  unfolding decide
  narrow ps (Keep i m) =
      rosters_change r (λ p. place (bit_and p.mask m) p.limit) (λ s v. bit m v)
      (λ p s v. rw (bit_of_and p.mask m v) (and_swap (bit p.mask v) (bit m v) (leb s (min p.limit top)))) i q c ps
  narrow ps (Limit i l) =
      rosters_change r (λ p. place p.mask (min p.limit l)) (λ s v. leb s l)
      (λ p s v. rw (leb_min s p.limit l top) (sym (and_assoc (bit p.mask v) (leb s (min p.limit top)) (leb s l)))) i q c ps

  -- decisions leave the rosters that meet them all
  pub narrows : (ps : List Place) (ds : List Decision) → rosters r q c (decides ps ds) ≡ those (λ w. all (λ d. meets r.arcs q c d w) ds) (rosters r q c ps)
  unfolding decides
  narrows ps [] = sym (those_all (rosters r q c ps))
    where
      those_all : (ws : List (List ℕ)) → those (λ w. true) ws ≡ ws
      those_all [] = refl
      those_all (w ∷ ws) = ap (λ (l : List (List ℕ)). w ∷ l) (those_all ws)
  narrows ps (d ∷ ds) = narrows (decide ps d) ds ∙ ap (those (λ w. all (λ d. meets r.arcs q c d w) ds)) (narrow ps d) ∙ those_those _ _ (rosters r q c ps)
