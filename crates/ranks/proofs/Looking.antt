-- A look along a row, and along every row of a table.
use Rattle.std.proofs.Common.{◌≡◌, ℕ, zero, suc, ◌+◌, ◌-◌, ◌*◌, ◌%◌, ◌^◌, ◌<◌, ◌≤◌, min, true, false, eqb, ltb, List, length, get_or, take, drop, set, sym, refl, ap, ◌∙◌, add-one, arith, get_or-set_other, get_or-set_same, lt-ltb, eq-eqb, eqb-true}
use mathlib.Core.Bool.{false≢true}
use native.Mathlib.Decide.{ℕ_discrete, dec_lt}
use Rattle.kinds.specs.Bits.{width, bit, mask_of}
use Rattle.kinds.proofs.Bits.{bit_mask}
use Rattle.meaning.specs.Bounds.{most_states, most_values, table_size, top}
use Rattle.ranks.specs.Rows.{cost_in, end_in, along, Rising, no_arc, Lowest, Usable, Looks, Pulls, Settled, Served}
use Rattle.ranks.proofs.Parts.{part_at, rises}

-- the lowest of some numbers
pub lowest_none : (numbers : List ℕ) → Lowest 0 numbers (suc top)
lowest_none numbers = record { under = λ k h. absurd (omega arith); few = omega arith }

pub lowest_more : {k x : ℕ} {numbers : List ℕ} → Lowest k numbers x → Lowest (k + 1) numbers (min (get_or numbers k 0) x)
lowest_more {k} {x} {numbers} l = record { under = λ j h. go j h (ℕ_discrete j k); few = omega arith }
  where
    go : (j : ℕ) → j < k + 1 → Dec (j ≡ k) → min (get_or numbers k 0) x ≤ get_or numbers j 0
    go j h (yes d) = rw d (omega arith)
    go j h (no d) = omega (arith, l.under j (omega arith))

-- a sum that does not wrap
pub sum_fits : (a x : ℕ) → a ≤ suc top → x < 2 ^ 32 → (a + cost_in x) % 2 ^ 32 ≡ a + cost_in x
unfolding top
sum_fits a x h l = omega arith

-- what one more arc of a row makes of the least
along_more : (numbers row : List ℕ) (k : ℕ)
    → along numbers row 0 (suc k) ≡ min (get_or numbers (end_in (get_or row k 0)) 0 + cost_in (get_or row k 0)) (along numbers row 0 k)
unfolding along
along_more numbers row k = let z : 0 * most_values + k ≡ k = omega arith in rw z

module _ (bottom : ℕ) (numbers row : List ℕ) where
  -- the best of the first k arcs
  pub record Best (k best : ℕ) : Type 0 where
    pub is : Usable bottom numbers row → min best (suc top) ≡ along numbers row 0 k

  pub best_more : (k best x : ℕ) → k < most_values → get_or row k 0 < 2 ^ 32 → x ≡ (get_or numbers (end_in (get_or row k 0)) 0 + cost_in (get_or row k 0)) % 2 ^ 32
      → Best k best → Best (k + 1) (min x best)
  best_more k best x h l e b = record { is = λ u. let d = e ∙ sum_fits _ (get_or row k 0) (u.few k h) l in rw (add-one, along_more numbers row k) (omega (arith, b.is u)) }

  pub best_one : (x : ℕ) → get_or row 0 0 < 2 ^ 32 → x ≡ (get_or numbers (end_in (get_or row 0 0)) 0 + cost_in (get_or row 0 0)) % 2 ^ 32 → Best 1 x
  unfolding along
  best_one x l e = record { is = λ u. let d = e ∙ sum_fits _ (get_or row 0 0) (u.few 0 (omega arith)) l in omega arith }

  -- no arc from k on gives less than the best
  stays : (k best : ℕ) → Usable bottom numbers row → best ≤ bottom + cost_in (get_or row k 0) → min best (suc top) ≡ along numbers row 0 k
      → (j : ℕ) → k ≤ j → j ≤ most_values → min best (suc top) ≡ along numbers row 0 j
  stays k best u h e zero l m = let d : k ≡ 0 = omega arith in rw d at e
  stays k best u h e (suc j) l m = go (dec_lt j k) (λ d. stays k best u h e j d (omega arith))
    where
      go : Dec (j < k) → (k ≤ j → min best (suc top) ≡ along numbers row 0 j) → min best (suc top) ≡ along numbers row 0 (suc j)
      go (yes d) rec = let f : k ≡ suc j = omega arith in rw f at e
      go (no d) rec =
          let r = rises (λ (i : ℕ). get_or row i 0) most_values u.order k j (omega arith) (omega arith) in
          rw (along_more numbers row j) (omega (arith, rec (omega arith), u.under j (omega arith)))

  pub best_stops : (k best : ℕ) → k < most_values → best ≤ bottom + cost_in (get_or row k 0) → Best k best → Looks bottom numbers row (min best (suc top))
  best_stops k best h l b = record { least = λ u. stays k best u l (b.is u) most_values (omega arith) (omega arith) }

  pub best_end : (k best : ℕ) → k ≤ most_values → most_values ≤ k → Best k best → Looks bottom numbers row (min best (suc top))
  best_end k best h l b = let e : k ≡ most_values = omega arith in let c : Best most_values best = rw e at b in record { least = c.is }

-- the rows of a table up to q
pub record Pulled (n : ℕ) (numbers arcs : List ℕ) (q : ℕ) (was is : List ℕ) : Type 0 where
  pub done : Rising n arcs → ((k : ℕ) → k < n → get_or numbers k 0 ≤ suc top) → (k : ℕ) → k < q → get_or is k 0 ≡ along numbers arcs k most_values
  pub left : (k : ℕ) → q ≤ k → get_or is k 0 ≡ get_or was k 0

pub pulled_none : (n : ℕ) (numbers arcs was : List ℕ) → Pulled n numbers arcs 0 was was
pulled_none n numbers arcs was = record { done = λ r f k h. absurd (omega arith); left = λ k h. refl }

-- a row by itself is the row of its table
along_part : (numbers arcs : List ℕ) (at q w k : ℕ) → at ≡ q * most_values → k ≤ w → along numbers (take w (drop at arcs)) 0 k ≡ along numbers arcs q k
unfolding along
along_part numbers arcs at q w zero e h = refl
along_part numbers arcs at q w (suc k) e h =
    let z : 0 * most_values + k ≡ k = omega arith in
    rw (z, part_at arcs at q most_values w k e (omega arith), along_part numbers arcs at q w k e (omega arith))

usable_part : {n low : ℕ} {numbers arcs : List ℕ} (at q : ℕ) → at ≡ q * most_values → q < n → Lowest n numbers low → Rising n arcs
    → ((k : ℕ) → k < n → get_or numbers k 0 ≤ suc top)
    → Usable low numbers (take most_values (drop at arcs))
usable_part {n} {low} {numbers} {arcs} at q e h l r f = record {
  order = λ k m. rw (part_at arcs at q most_values most_values k e (omega arith), part_at arcs at q most_values most_values (k + 1) e m) (r.order q k h m);
  under = λ k m. rw (part_at arcs at q most_values most_values k e m) (l.under _ (r.ends q k h m));
  few = λ k m. rw (part_at arcs at q most_values most_values k e m) (f _ (r.ends q k h m));
}

pub pulled_more : {n low q x : ℕ} {numbers arcs was is : List ℕ} → q < n → q < length is → Lowest n numbers low
    → Looks low numbers (take (q * most_values + most_values - q * most_values) (drop (q * most_values) arcs)) x → Pulled n numbers arcs q was is
    → Pulled n numbers arcs (q + 1) was (set is q x)
pulled_more {n} {low} {q} {x} {numbers} {arcs} {was} {is} h m l k p = record {
  done = λ r f j i. go r f j i (ℕ_discrete j q);
  left = λ j i. get_or-set_other is q j x 0 (λ c. omega arith) ∙ p.left j (omega arith);
}
  where
    here : Rising n arcs → ((k : ℕ) → k < n → get_or numbers k 0 ≤ suc top) → x ≡ along numbers arcs q most_values
    here r f =
        let e : q * most_values + most_values - q * most_values ≡ most_values = omega arith in
        let s : Looks low numbers (take most_values (drop (q * most_values) arcs)) x = rw e at k in
        s.least (usable_part (q * most_values) q refl h l r f) ∙ along_part numbers arcs (q * most_values) q most_values most_values refl (omega arith)

    go : Rising n arcs → ((k : ℕ) → k < n → get_or numbers k 0 ≤ suc top) → (j : ℕ) → j < q + 1 → Dec (j ≡ q) → get_or (set is q x) j 0 ≡ along numbers arcs j most_values
    go r f j i (yes c) = rw c (get_or-set_same is q x 0 m ∙ here r f)
    go r f j i (no c) = get_or-set_other is q j x 0 c ∙ p.done r f j (omega arith)

-- the rows of a table that has its sizes, and of one that has not
pub pulls : {n q : ℕ} {numbers arcs was is : List ℕ} {low : ℕ} → q ≤ n → n ≤ q → Lowest n numbers low → Pulled n numbers arcs q was is
    → Pulls n numbers arcs was is low
pulls {n} {q} {numbers} {arcs} {was} {is} h k l p =
    let e : q ≡ n = omega arith in
    let r : Pulled n numbers arcs n was is = rw e at p in
    record { least = λ a b c d. r.done; low = λ a b c d. l.under; few = l.few; left = r.left }

pub pulls_not : (n : ℕ) (numbers arcs was : List ℕ) → (n ≤ most_states → most_states ≤ length numbers → length arcs ≡ table_size → n ≤ length was → ⊥)
    → Pulls n numbers arcs was was 0
pulls_not n numbers arcs was h = record { least = λ a b c d. absurd (h a b c d); low = λ a b c d q k. omega arith; few = omega arith; left = λ q k. refl }

-- whether all is settled
pub settled_none : (low : ℕ) (rests row : List ℕ) → Settled 0 low rests row true
settled_none low rests row = record { is = λ e h f q k. absurd (omega arith); not = λ e. absurd (false≢true (sym e)) }

pub settled_not : {n low : ℕ} {rests row : List ℕ} → (n ≤ length rests → n ≤ length row → ⊥) → Settled n low rests row false
settled_not h = record { is = λ e. absurd (false≢true e); not = λ e a b l f g. h a b }

pub settled_fails : {n low : ℕ} {rests row : List ℕ} (k x : ℕ) → k < n → x ≡ (low + get_or rests k 0) % 2 ^ 32 → x < get_or row k 0 → Settled n low rests row false
unfolding top
settled_fails k x h e l = record { is = λ t. absurd (false≢true t); not = λ t a b m f g. omega (arith, f k h, g k h) }

pub settled_more : {k low : ℕ} {rests row : List ℕ} (x : ℕ) → x ≡ (low + get_or rests k 0) % 2 ^ 32 → get_or row k 0 ≤ x → Settled k low rests row true
    → Settled (k + 1) low rests row true
unfolding top
settled_more {k} {low} {rests} {row} x e h s = record { is = λ t l f q m. go l f q m (ℕ_discrete q k); not = λ t. absurd (false≢true (sym t)) }
  where
    go : low ≤ suc top → ((q : ℕ) → q < k + 1 → get_or rests q 0 ≤ cost_in no_arc) → (q : ℕ) → q < k + 1 → Dec (q ≡ k) → get_or row q 0 ≤ low + get_or rests q 0
    go l f q m (yes d) = rw d (omega (arith, f k (omega arith)))
    go l f q m (no d) = s.is refl l (λ j i. f j (omega arith)) q (omega arith)

pub settled_end : {k n low : ℕ} {rests row : List ℕ} → k ≤ n → n ≤ k → Settled k low rests row true → Settled n low rests row true
settled_end {k} {n} {low} {rests} {row} h l s = let e : k ≡ n = omega arith in rw e at s

-- whether rows serve for a mask
pub served_not : {v m : ℕ} {arcs : List ℕ} → (length arcs ≡ table_size → ⊥) → Served v m arcs false
served_not h = record { is = λ e. absurd (false≢true e); not = λ e l d. h l }

pub served_is : {v m x : ℕ} {arcs : List ℕ} → length arcs ≡ table_size → x ≡ mask_of (λ u. ltb u v) width → Served v m arcs (eqb m x)
served_is {v} {m} {x} h e = record {
  is = λ t. (h, λ u l k. ap (λ (y : ℕ). bit y u) (eqb-true m x t ∙ e) ∙ (bit_mask (λ u. ltb u v) width u k ∙ lt-ltb u v l), eqb-true m x t ∙ e);
  not = λ t l d. false≢true (sym t ∙ eq-eqb m x (d ∙ sym e));
}
