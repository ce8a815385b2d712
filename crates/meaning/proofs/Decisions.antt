-- What decisions do to what is told: their order does not matter, and more of them never give back; and what is kept, filtered once
-- more under the same limits, tells the same.
use mathlib.Core.Path.{◌≡◌, refl, sym, ap, ap₂, ◌∙◌, subst}
use mathlib.Core.Bool.{Bool, true, false≢true}
use mathlib.Core.List.Memᴰ
use mathlib.Core.List.{List, [], ◌∷◌, ◌++◌, map}
use mathlib.Core.List.{Memᴰ as In}
use Prim.Native.Nat.{ℕ, zero, suc, ◌+◌, ◌<◌, min}
use native.Mathlib.Omega.{arith}
use lib.Bits.{bit_and}
use lib.ListN.{length, get_or, set}
use borrow.Author.Tests.{eqb-true, eq-eqb}
use Rattle.kinds.specs.Bits.{bit}
use Rattle.meaning.specs.Meaning.{Rules, target, cost, total, Place, place, places, allowed, words, rosters, has, verdict_on, verdict_of, Decision, Keep, Limit, decide, decides}
use Rattle.meaning.specs.Lists.{any, all}
use Rattle.meaning.specs.Comparing.{SameUpToOrder, Contains, NoMore}
use Rattle.meaning.proofs.Narrow.{meets, narrows, length_change}
use Rattle.meaning.proofs.Comparing.{all_contained}
use Rattle.meaning.proofs.Members.{Below, goes, words_in, roster_in, length_places, least_in, least_le, answer_map}
use Rattle.meaning.proofs.Kept.{kept_length, kept_has, kept_inside}
use Rattle.meaning.proofs.Lists.{those_in, in_those, those_same, any_in, in_any, both_ways}

-- decisions leave the number of places
pub length_decides : (ps : List Place) (ds : List Decision) → length (decides ps ds) ≡ length ps
unfolding decide decides
length_decides ps [] = refl
length_decides ps (Keep i m ∷ ds) = length_decides (decide ps (Keep i m)) ds ∙ length_change _ i ps
length_decides ps (Limit i l ∷ ds) = length_decides (decide ps (Limit i l)) ds ∙ length_change _ i ps

-- two lists of decisions taken together: the one, then the other
pub decides_append : (ps : List Place) (ds es : List Decision) → decides ps (ds ++ es) ≡ decides (decides ps ds) es
unfolding decides
decides_append ps [] es = refl
decides_append ps (d ∷ ds) es = decides_append (decide ps d) ds es

-- decisions ds beside decisions es, upon the same places
module _ (r : Rules) (q c : ℕ) (ps : List Place) (ds es : List Decision) where
  abbrev met : List Decision → List ℕ → Bool
  met ds w = all (λ d. meets r.arcs q c d w) ds

  abbrev leave : List Decision → List (List ℕ)
  leave ds = rosters r q c (decides ps ds)

  -- the same up to order, they tell the same
  pub any_order : SameUpToOrder ds es → verdict_of r q c (decides ps ds) ≡ verdict_of r q c (decides ps es)
  unfolding verdict_of
  any_order s =
      ap₂ (verdict_on r.arcs q c) (length_decides ps ds ∙ sym (length_decides ps es))
      (narrows r q c ps ds ∙ (those_same (met ds) (met es) (rosters r q c ps) (λ w m. same w) ∙ sym (narrows r q c ps es)))
    where
      same : (w : List ℕ) → met ds w ≡ met es w
      same w = both_ways (met ds w) (met es w) (all_contained _ ds es (λ d. omega (arith, s d))) (all_contained _ es ds (λ d. omega (arith, s d)))

  -- with more put in, they leave no roster that the others do not leave
  remains : Contains ds es → (w : List ℕ) → In w (leave ds) → In w (leave es)
  remains k w m =
      let t = those_in (met ds) (rosters r q c ps) (rw (narrows r q c ps ds) at m) in
      rw (narrows r q c ps es) (in_those (met es) t.0 (all_contained _ ds es k t.1))

  -- so they tell no more: a struck value never comes back, and the least cost never falls while a roster is left
  pub no_more : Contains ds es → NoMore (verdict_of r q c (decides ps ds)) (verdict_of r q c (decides ps es))
  unfolding verdict_of
  no_more k = record {
    no_return =
        λ i v e.
        let s = kept_inside r.arcs.values (length (decides ps ds)) (leave ds) i v e in
        let t = any_in (has i v) (leave ds) (sym (kept_has r.arcs.values (length (decides ps ds)) (leave ds) i v s.0 s.1) ∙ e) in
        kept_has r.arcs.values (length (decides ps es)) (leave es) i v (omega (arith, s.0, length_decides ps ds, length_decides ps es)) s.1
        ∙ in_any (has i v) (remains k t.0 t.1) t.2;
    no_cheaper =
        λ h.
        let f = total r.arcs q c in
        let t = Memᴰ.of_map f (leave ds) (least_in (map f (leave ds)) (answer_map f (leave ds) ∙ h)) in
        omega (arith, least_le (f t.0) (map f (leave es)) (Memᴰ.map f (remains k t.0 t.1)), t.2);
  }

-- an allowed roster's values are in the masks
has_chosen : (r : Rules) (q c : ℕ) (ms ls w : List ℕ) (i v : ℕ) → allowed r q c (places ms ls) w ≡ true → has i v w ≡ true → bit (get_or ms i 0) v ≡ true
unfolding places
has_chosen r q c ms ls [] i v a h = absurd (false≢true h)
has_chosen r q c [] ls (x ∷ w) i v a h = absurd (false≢true a)
has_chosen r q c (m ∷ ms) [] (x ∷ w) i v a h = absurd (false≢true a)
has_chosen r q c (m ∷ ms) (l ∷ ls) (x ∷ w) zero v a h =
    subst (λ (y : ℕ). bit m y ≡ true) (eqb-true x v h) ((goes r q c (place m l) x (places ms ls) w).0 a).chosen
has_chosen r q c (m ∷ ms) (l ∷ ls) (x ∷ w) (suc i) v a h =
    has_chosen r (target r.arcs q x) (c + cost r.arcs q x) ms ls w i v ((goes r q c (place m l) x (places ms ls) w).0 a).rest h

-- a value that a word has stands at one of its places and is below vs
has_inside : (vs : ℕ) (w : List ℕ) (i v : ℕ) → Below vs w → has i v w ≡ true → (i < length w) × (v < vs)
has_inside vs [] i v b h = absurd (false≢true h)
has_inside vs (x ∷ w) zero v b h = (omega arith, omega (arith, eqb-true x v h))
has_inside vs (x ∷ w) (suc i) v b h = let k = has_inside vs w i v b.1 h in (omega arith, k.1)

-- other masks that hold the roster's values allow it too
remask : (r : Rules) (q c : ℕ) (ms ks ls w : List ℕ) → length ms ≡ length ks
    → ((i v : ℕ) → has i v w ≡ true → bit (get_or ms i 0) v ≡ true → bit (get_or ks i 0) v ≡ true)
    → allowed r q c (places ms ls) w ≡ true → allowed r q c (places ks ls) w ≡ true
unfolding places
remask r q c [] [] ls w e f a = a
remask r q c [] (k ∷ ks) ls w e f a = absurd (omega arith)
remask r q c (m ∷ ms) [] ls w e f a = absurd (omega arith)
remask r q c (m ∷ ms) (k ∷ ks) [] w e f a = a
remask r q c (m ∷ ms) (k ∷ ks) (l ∷ ls) [] e f a = absurd (false≢true a)
remask r q c (m ∷ ms) (k ∷ ks) (l ∷ ls) (x ∷ w) e f a =
    let g = (goes r q c (place m l) x (places ms ls) w).0 a in
    (goes r q c (place k l) x (places ks ls) w).1 (record {
      chosen = f zero x (eq-eqb x x refl) g.chosen;
      within = g.within;
      arc = g.arc;
      rest = remask r (target r.arcs q x) (c + cost r.arcs q x) ms ks ls w (omega arith) (λ i v. f (suc i) v) g.rest;
    })

module _ (r : Rules) (q c : ℕ) (ms ls : List ℕ) (same : length ms ≡ length ls) where
  -- masks that hold just the values of the rosters have the same rosters
  same_rosters : (ks : List ℕ) → length ks ≡ length ms
      → ((i v : ℕ) → i < length ms → v < r.arcs.values → bit (get_or ks i 0) v ≡ any (has i v) (rosters r q c (places ms ls)))
      → rosters r q c (places ks ls) ≡ rosters r q c (places ms ls)
  unfolding rosters
  same_rosters ks e f =
      let n : length (places ks ls) ≡ length (places ms ls) = length_places ks ls (e ∙ same) ∙ (e ∙ sym (length_places ms ls same)) in
      rw n (those_same (allowed r q c (places ks ls)) (allowed r q c (places ms ls)) (words r.arcs.values (length (places ms ls))) (λ w m. go w (words_in _ _ w m)))
    where
      go : (w : List ℕ) → (length w ≡ length (places ms ls)) × Below r.arcs.values w → allowed r q c (places ks ls) w ≡ allowed r q c (places ms ls) w
      go w k = both_ways _ _
          (λ a. remask r q c ks ms ls w e (λ i v h b.
          let s = has_inside r.arcs.values w i v k.1 h in
          let t = any_in (has i v) (rosters r q c (places ms ls)) (sym (f i v (omega (arith, length_places ms ls same)) s.1) ∙ b) in
          has_chosen r q c ms ls t.0 i v ((roster_in r q c (places ms ls) t.0).0 t.1).2 t.2) a)
          (λ a. remask r q c ms ks ls w (sym e) (λ i v h b.
          let s = has_inside r.arcs.values w i v k.1 h in
          f i v (omega (arith, length_places ms ls same)) s.1 ∙ in_any (has i v) ((roster_in r q c (places ms ls) w).1 (k.0, k.1, a)) h) a)

  -- there are as many kept masks as masks
  kept_masks_length : length (verdict_of r q c (places ms ls)).masks ≡ length ms
  unfolding verdict_of
  kept_masks_length = kept_length r.arcs.values (length (places ms ls)) (rosters r q c (places ms ls)) ∙ length_places ms ls same

  -- the kept masks under the same limits have the same rosters
  pub rosters_again : rosters r q c (places (verdict_of r q c (places ms ls)).masks ls) ≡ rosters r q c (places ms ls)
  unfolding verdict_of
  rosters_again =
      same_rosters (verdict_of r q c (places ms ls)).masks kept_masks_length
      (λ i v h k. kept_has r.arcs.values (length (places ms ls)) (rosters r q c (places ms ls)) i v (omega (arith, length_places ms ls same)) k)

  -- the kept masks under the same limits tell the same
  pub verdict_again : verdict_of r q c (places (verdict_of r q c (places ms ls)).masks ls) ≡ verdict_of r q c (places ms ls)
  unfolding verdict_of
  verdict_again =
      ap₂ (verdict_on r.arcs q c)
      (length_places (verdict_of r q c (places ms ls)).masks ls (kept_masks_length ∙ same) ∙ (kept_masks_length ∙ sym (length_places ms ls same))) rosters_again

-- a keep upon lent masks is one store
pub keep_stored : (ms ls : List ℕ) (i m : ℕ) → decide (places ms ls) (Keep i m) ≡ places (set ms i (bit_and (get_or ms i 0) m)) ls
unfolding places decide
keep_stored [] ls zero m = refl
keep_stored [] ls (suc i) m = refl
keep_stored (x ∷ ms) [] zero m = refl
keep_stored (x ∷ ms) [] (suc i) m = refl
keep_stored (x ∷ ms) (l ∷ ls) zero m = refl
keep_stored (x ∷ ms) (l ∷ ls) (suc i) m = ap (λ (ps : List Place). place x l ∷ ps) (keep_stored ms ls i m)

-- a limit upon lent limits is one store
pub limit_stored : (ms ls : List ℕ) (i l : ℕ) → decide (places ms ls) (Limit i l) ≡ places ms (set ls i (min (get_or ls i 0) l))
unfolding places decide
limit_stored [] ls i l = refl
limit_stored (x ∷ ms) [] zero l = refl
limit_stored (x ∷ ms) [] (suc i) l = refl
limit_stored (x ∷ ms) (y ∷ ls) zero l = refl
limit_stored (x ∷ ms) (y ∷ ls) (suc i) l = ap (λ (ps : List Place). place x y ∷ ps) (limit_stored ms ls i l)
