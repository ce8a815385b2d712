-- The kept masks: their bits, their bound, and that nothing else has both; the first roster of a kept value; what no roster leaves.
use mathlib.Core.Path.{◌≡◌, refl, sym, ap, ◌∙◌}
use mathlib.Core.Bool.{Bool, true, false, cond, ◌||◌, false≢true}
use mathlib.Core.List.{List, [], ◌∷◌}
use Prim.Native.Nat.{ℕ, ◌^◌, ◌<◌}
use native.Mathlib.Nat.{zero-add}
use native.Mathlib.Decide.{dec_lt}
use native.Mathlib.Omega.{arith}
use lib.ListN.{length, get_or, take, replicate, length-replicate, get_or-replicate, get_or-eq_default}
use lib.Pow.{pow_pos}
use lib.Seq.{ext_get_or}
use Rattle.kinds.specs.Bits.{bit}
use Rattle.kinds.proofs.Bits.{bit_none, bit_below, bit_mask, mask_lt, mask_is}
use Rattle.meaning.specs.Meaning.{Rules, Place, rosters, has, kept_at, kept, first, answer, verdict, verdict_on, verdict_of}
use Rattle.meaning.specs.Lists.{those, any}
use Rattle.meaning.proofs.Lists.{length_from, at_from}

-- the kept mask of a place has the values that some roster has there
pub kept_bit : (vs : ℕ) (ws : List (List ℕ)) (i v : ℕ) → v < vs → bit (kept_at vs ws i) v ≡ any (has i v) ws
unfolding kept_at
kept_bit vs ws i v h = bit_mask (λ v. any (has i v) ws) vs v h

-- the kept mask of a place has no bit at or above vs
pub kept_lt : (vs : ℕ) (ws : List (List ℕ)) (i : ℕ) → kept_at vs ws i < 2 ^ vs
unfolding kept_at
kept_lt vs ws i = mask_lt (λ v. any (has i v) ws) vs

-- there are as many kept masks as places
pub kept_length : (vs n : ℕ) (ws : List (List ℕ)) → length (kept vs n ws) ≡ n
unfolding kept
kept_length vs n ws = length_from (kept_at vs ws) 0 n

-- the kept mask at i is that of place i
pub kept_at_lem : (vs n : ℕ) (ws : List (List ℕ)) (i : ℕ) → i < n → get_or (kept vs n ws) i 0 ≡ kept_at vs ws i
unfolding kept
kept_at_lem vs n ws i h = at_from (kept_at vs ws) 0 n i h ∙ ap (kept_at vs ws) (zero-add i)

-- a value is in the kept mask at i exactly if some roster has it there
pub kept_has : (vs n : ℕ) (ws : List (List ℕ)) (i v : ℕ) → i < n → v < vs → bit (get_or (kept vs n ws) i 0) v ≡ any (has i v) ws
kept_has vs n ws i v h k = ap (λ (x : ℕ). bit x v) (kept_at_lem vs n ws i h) ∙ kept_bit vs ws i v k

-- what is in a kept mask is one of the values, at one of the places
pub kept_inside : (vs n : ℕ) (ws : List (List ℕ)) (i v : ℕ) → bit (get_or (kept vs n ws) i 0) v ≡ true → (i < n) × (v < vs)
kept_inside vs n ws i v e = go (dec_lt i n)
  where
    go : Dec (i < n) → (i < n) × (v < vs)
    go (yes h) = (h, bit_below vs (kept_at vs ws i) v (kept_lt vs ws i) (rw (kept_at_lem vs n ws i h) at e))
    go (no h) =
        absurd (false≢true (sym (bit_none v) ∙ rw (get_or-eq_default (kept vs n ws) 0 {n = i} (omega (arith, kept_length vs n ws))) at e))

-- n masks below 2 ^ vs whose bits are the values that some roster has there are the kept masks
pub kept_unique : (vs n : ℕ) (ws : List (List ℕ)) (ms : List ℕ) → length ms ≡ n
    → ((i : ℕ) → i < n → get_or ms i 0 < 2 ^ vs)
    → ((i v : ℕ) → i < n → v < vs → bit (get_or ms i 0) v ≡ any (has i v) ws)
    → ms ≡ kept vs n ws
unfolding kept_at
kept_unique vs n ws ms e below right =
    ext_get_or 0 ms (kept vs n ws) (e ∙ sym (kept_length vs n ws)) (λ i h. same i (omega arith))
  where
    same : (i : ℕ) → i < n → get_or ms i 0 ≡ get_or (kept vs n ws) i 0
    same i h = mask_is (λ v. any (has i v) ws) vs (get_or ms i 0) (below i h) (λ v k. right i v h k) ∙ sym (kept_at_lem vs n ws i h)

-- a kept value has a first roster, and any other value has none
pub kept_first : (vs n : ℕ) (ws : List (List ℕ)) (i v : ℕ) → i < n → v < vs → answer (first i v ws) ≡ cond (bit (get_or (kept vs n ws) i 0) v) 0 11
unfolding first
kept_first vs n ws i v h k = some ws ∙ ap (λ (b : Bool). cond b 0 11) (sym (kept_has vs n ws i v h k))
  where
    some : (ws : List (List ℕ)) → answer (take 1 (those (has i v) ws)) ≡ cond (any (has i v) ws) 0 11
    some [] = refl
    some (w ∷ ws) = go (has i v w) (some ws)
      where
        go : (b : Bool) → answer (take 1 (those (has i v) ws)) ≡ cond (any (has i v) ws) 0 11
            → answer (take 1 (cond b (w ∷ those (has i v) ws) (those (has i v) ws))) ≡ cond (b || any (has i v) ws) 0 11
        go true e = refl
        go false e = e

-- of no roster every kept mask is 0
pub kept_none : (vs n : ℕ) → kept vs n [] ≡ replicate n 0
kept_none vs n =
    sym (kept_unique vs n [] (replicate n 0) (length-replicate n 0)
    (λ i h. rw get_or-replicate (pow_pos vs)) (λ i v h k. rw get_or-replicate (bit_none v)))

-- where the answer is 11, every kept mask is 0, and the least cost
pub verdict_nothing : (r : Rules) (q c : ℕ) (ps : List Place) → (verdict_of r q c ps).answered ≡ 11 → verdict_of r q c ps ≡ verdict 11 (replicate (length ps) 0) 0
unfolding verdict_of
verdict_nothing r q c ps h = go (rosters r q c ps) h
  where
    go : (ws : List (List ℕ)) → answer ws ≡ 11 → verdict_on r.arcs q c (length ps) ws ≡ verdict 11 (replicate (length ps) 0) 0
    go [] h = ap (λ (ks : List ℕ). verdict 11 ks 0) (kept_none r.arcs.values (length ps))
    go (w ∷ ws) h = absurd (omega arith)
