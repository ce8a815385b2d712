-- Lists that are filled or compared from the front.
use mathlib.Core.Path.{◌≡◌, refl, ap, ◌∙◌, subst}
use mathlib.Core.Bool.{true, false, false≢true, or-true}
use mathlib.Core.Logic.{◌⊎◌, ⊎_elim}
use mathlib.Core.List.{List, ◌++◌}
use Prim.Native.Nat.{ℕ, suc, ◌+◌, ◌*◌, ◌-◌, ◌≤◌, ◌<◌}
use native.Mathlib.Omega.{arith}
use native.Mathlib.Decide.{ℕ_discrete, dec_lt}
use lib.Dec.{ltb}
use lib.ListN.{length, get_or, set, replicate, take, drop, length-drop, length-replicate, get_or-replicate, get_or-append}
use lib.Seq.{get_or-set_same, get_or-set_other, get_or-take, get_or-drop, get_or-append-add, length-take-le}
use borrow.Author.Tests.{lt-ltb, le-ltb}
use borrow.Rule.Slice.PartMut.{put_mid, mid_of, mid_len}
use Rattle.meaning.specs.Bounds.{top}
pub use Rattle.meaning.proofs.Lists.{filled_none, filled_same, filled_more, filled_end}
use Rattle.ranks.proofs.Parts.{part_at, row_in, row_other}
use Rattle.rooms.specs.Tables.{blanked, copied, Filled, Low, Matches, LowBehind, Laid, Outside}

-- a row of a table laid number by number
pub laid_none : (g : ℕ → ℕ) (i : ℕ) (was : List ℕ) → Laid g 0 i was was
laid_none g i was = record { row = λ q h. absurd (omega arith); others = λ j q m d. refl }

pub laid_more : {g : ℕ → ℕ} {n i : ℕ} {was is : List ℕ} (x : ℕ) → n < 64 → i * 64 + n < length is → Laid g n i was is → x ≡ g n → Laid g (n + 1) i was (set is (i * 64 + n) x)
laid_more {g} {n} {i} {was} {is} x m h y e = record {
  row = λ q l. go q l (ℕ_discrete q n);
  others = λ j q l d. get_or-set_other is (i * 64 + n) (j * 64 + q) x 0 (λ z. d (omega arith) (omega arith)) ∙ y.others j q l (λ a b. d a (omega arith));
}
  where
    go : (q : ℕ) → q < n + 1 → Dec (q ≡ n) → get_or (set is (i * 64 + n) x) (i * 64 + q) 0 ≡ g q
    go q l (yes d) = rw d (get_or-set_same is (i * 64 + n) x 0 h ∙ e)
    go q l (no d) = get_or-set_other is (i * 64 + n) (i * 64 + q) x 0 (λ z. d (omega arith)) ∙ y.row q (omega arith)

pub laid_end : {g : ℕ → ℕ} {k n i : ℕ} {was is : List ℕ} → Laid g k i was is → k ≤ n → n ≤ k → Laid g n i was is
laid_end {g} {k} {n} y h l = let e : k ≡ n = omega arith in rw e at y

-- whether a row matches, number by number
pub matches_none : (f : ℕ → ℕ) (row : List ℕ) → Matches f 0 row true
matches_none f row = record { is = λ e k h. absurd (omega arith) }

pub matches_more : {f : ℕ → ℕ} {n : ℕ} {row : List ℕ} → Matches f n row true → get_or row n 0 ≡ f n → Matches f (n + 1) row true
matches_more {f} {n} {row} m e = record { is = λ d k h. go k h (ℕ_discrete k n) }
  where
    go : (k : ℕ) → k < n + 1 → Dec (k ≡ n) → get_or row k 0 ≡ f k
    go k h (yes d) = rw d e
    go k h (no d) = m.is refl k (omega arith)

pub matches_end : {f : ℕ → ℕ} {k n : ℕ} {row : List ℕ} → k ≤ n → n ≤ k → Matches f k row true → Matches f n row true
matches_end {f} {k} {n} h l m = let e : k ≡ n = omega arith in rw e at m

pub matches_not : (f : ℕ → ℕ) (n : ℕ) (row : List ℕ) → Matches f n row false
matches_not f n row = record { is = λ e. absurd (false≢true e) }

-- the top as the code has it
pub most_top : {x : ℕ} → x ≤ 366001 → x ≤ suc top
unfolding top
most_top h = h

-- numbers that are none above the top but by one fit, one added to the other
pub low_fits : {x y : ℕ} → x ≤ suc top → y ≤ suc top → x + y < 4294967296
unfolding top
low_fits h k = omega arith

-- a list put over the front of another
front_filled : (f : ℕ → ℕ) (n : ℕ) (fs was : List ℕ) → length fs ≡ n → ((k : ℕ) → k < n → get_or fs k 0 ≡ f k) → Filled f n was (fs ++ drop n was)
front_filled f n fs was e h = record { done = λ k l. get_or-append fs (drop n was) 0 k (omega arith) ∙ h k l; left = left }
  where
    left : (k : ℕ) → n ≤ k → get_or (fs ++ drop n was) k 0 ≡ get_or was k 0
    left k l =
        let d : length fs + (k - n) ≡ k = omega arith in
        let j : n + (k - n) ≡ k = omega arith in
        subst (λ (z : ℕ). get_or (fs ++ drop n was) z 0 ≡ get_or was k 0) d
        (get_or-append-add fs (drop n was) (k - n) 0 ∙ (get_or-drop n was (k - n) 0 ∙ ap (λ (z : ℕ). get_or was z 0) j))

-- blanked and copied rows: for callers, and as the code makes them
module _ (n x : ℕ) where
  pub blanked_front : (was : List ℕ) → n ≤ length was → Filled (λ k. x) n was (replicate n x ++ drop n was)
  blanked_front was h = front_filled (λ k. x) n (replicate n x) was (length-replicate n x) (λ k l. get_or-replicate n k x 0 l)

  pub blanked_filled : {was is : List ℕ} → n ≤ length was → is ≡ blanked n x was → Filled (λ k. x) n was is
  unfolding blanked
  blanked_filled {was} {is} h e = let d : is ≡ replicate n x ++ drop n was = rw (le-ltb (length was) n h) at e in rw d (blanked_front was h)

  pub blanked_not : (was : List ℕ) → length was < n → was ≡ blanked n x was
  unfolding blanked
  blanked_not was h = rw (lt-ltb (length was) n h)

  pub blanked_is : (was : List ℕ) → n ≤ length was → replicate n x ++ drop n was ≡ blanked n x was
  unfolding blanked
  blanked_is was h = rw (le-ltb (length was) n h)

module _ (n : ℕ) (from : List ℕ) where
  pub copied_front : (was : List ℕ) → n ≤ length from → Filled (λ k. get_or from k 0) n was (take n from ++ drop n was)
  copied_front was h = front_filled (λ k. get_or from k 0) n (take n from) was (length-take-le n from h) (λ k l. get_or-take n from k 0 l)

  pub copied_filled : {was is : List ℕ} → n ≤ length from → n ≤ length was → is ≡ copied n from was → Filled (λ k. get_or from k 0) n was is
  unfolding copied
  copied_filled {was} {is} h l e = let d : is ≡ take n from ++ drop n was = rw (le-ltb (length from) n h, le-ltb (length was) n l) at e in rw d (copied_front was h)

  pub copied_not : (was : List ℕ) → (length from < n) ⊎ (length was < n) → was ≡ copied n from was
  unfolding copied
  copied_not was h = ⊎_elim (λ l. rw (lt-ltb (length from) n l)) (λ l. rw (lt-ltb (length was) n l, or-true (ltb (length from) n))) h

  pub copied_is : (was : List ℕ) → n ≤ length from → n ≤ length was → take n from ++ drop n was ≡ copied n from was
  unfolding copied
  copied_is was h l = rw (le-ltb (length from) n h, le-ltb (length was) n l)

-- the front of a row as a part of a table
pub copied_part : (n at : ℕ) (xs was : List ℕ) → at + n ≤ length xs → Filled (λ k. get_or xs (at + k) 0) n was (take (at + n - at) (drop at xs) ++ drop n was)
copied_part n at xs was h =
    let e : at + n - at ≡ n = omega arith in
    rw e
    (front_filled (λ k. get_or xs (at + k) 0) n (take n (drop at xs)) was (length-take-le n (drop at xs) (simp length-drop (omega arith)))
    (λ k l. get_or-take n (drop at xs) k 0 l ∙ get_or-drop at xs k 0))

-- a row of a table, of which each layer, value or slot has one
pub row_part : (xs : List ℕ) (v k q : ℕ) → q < k → get_or (take k (drop (v * 64) xs)) q 0 ≡ get_or xs (v * 64 + q) 0
row_part xs v k q = part_at xs (v * 64) v 64 k q refl

-- a row of the rows behind a layer
pub low_part : {n i last : ℕ} {work : List ℕ} (j : ℕ) → n ≤ 64 → i < j → j ≤ last → LowBehind n i last work → Low n (take (j * 64 + 64 - j * 64) (drop (j * 64) work))
low_part {work = work} j h k m l = record { low = λ q d. omega (arith, row_part work j (j * 64 + 64 - j * 64) q (omega arith), l.low j q k m d) }

-- a row of a table that was copied
pub part_copied : {n : ℕ} (at : ℕ) (xs : List ℕ) {was is : List ℕ} → n ≤ 64 → at + 64 ≤ length xs → n ≤ length was → is ≡ copied n (take (at + 64 - at) (drop at xs)) was
    → Filled (λ k. get_or (take (at + 64 - at) (drop at xs)) k 0) n was is
part_copied {n} at xs h l m e = copied_filled n (take (at + 64 - at) (drop at xs)) (omega (arith, mid_len at (at + 64) xs l)) m e

-- a row that was lent as a middle part and filled
pub laid_put : {g : ℕ → ℕ} {n : ℕ} (i at : ℕ) (xs ys : List ℕ) → n ≤ 64 → at ≡ i * 64 → at + 64 ≤ length xs → length ys ≡ length (mid_of at (at + 64 - at) xs)
    → Filled g n (mid_of at (at + 64 - at) xs) ys → Laid g n i xs (put_mid at (at + 64 - at) xs ys)
laid_put {g} {n} i at xs ys h a l e f = record { row = λ q k. row_in 64 i at xs ys a l e q (omega arith) ∙ f.done q k; others = λ j q m d. go j q m d (ℕ_discrete j i) }
  where
    out : (q : ℕ) → (q < n → ⊥) → Dec (q < n) → n ≤ q
    out q d (yes k) = absurd (d k)
    out q d (no k) = omega arith

    go : (j q : ℕ) → q < 64 → (j ≡ i → q < n → ⊥) → Dec (j ≡ i) → get_or (put_mid at (at + 64 - at) xs ys) (j * 64 + q) 0 ≡ get_or xs (j * 64 + q) 0
    go j q m d (no s) = row_other 64 i at xs ys a l e j q s m
    go j q m d (yes s) = rw s (row_in 64 i at xs ys a l e q m ∙ (f.left q (out q (d s) (dec_lt q n)) ∙ part_at xs at i 64 (at + 64 - at) q a (omega arith)))

-- what is not written
pub laid_outside : {g : ℕ → ℕ} {n i rows : ℕ} {was is : List ℕ} → i < rows → Laid g n i was is → Outside n rows was is
laid_outside h y = record { same = λ j q m d. y.others j q m (λ e k. d (omega arith) k) }

pub outside_none : (n rows : ℕ) (was : List ℕ) → Outside n rows was was
outside_none n rows was = record { same = λ j q m d. refl }

pub outside_on : {n rows : ℕ} {was mid is : List ℕ} → Outside n rows was mid → Outside n rows mid is → Outside n rows was is
outside_on a b = record { same = λ j q m d. b.same j q m d ∙ a.same j q m d }
