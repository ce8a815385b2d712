-- The live states of a front as bits, and the search from one live state to the next: a dead state joins nowhere.
use mathlib.Core.Path.{◌≡◌, refl, sym, ap, ◌∙◌}
use mathlib.Core.Bool.{Bool, true, false, and-eq-true_iff, false≢true}
use mathlib.Core.List.{List}
use Prim.Native.Nat.{ℕ, zero, suc, ◌+◌, ◌-◌, ◌*◌, ◌%◌, ◌^◌, ◌≤◌, ◌<◌}
use native.Mathlib.Numerals.{add-one}
use native.Mathlib.Omega.{arith}
use native.Mathlib.Decide.{dec_lt}
use lib.Bits.{bit_and, bit_or}
use lib.Count.{count_trailing_zeros}
use lib.Dec.{ltb}
use lib.ListN.{get_or, take, drop}
use borrow.Author.Tests.{lt-ltb, le-ltb}
use Rattle.kinds.specs.Bits.{bit, mask_of}
use Rattle.kinds.proofs.Bits.{bit_of_and, bit_below, bit_none, bit_mask, mask_lt, mask_more, mask_skip, shl_one}
use Rattle.kinds.proofs.Lowest.{low_set, Sought, sought_more}
use Rattle.meaning.specs.Bounds.{top}
use Rattle.rooms.specs.Tables.{down, Net, rooms_by, Low}
use Rattle.reach.specs.Looks.{leads_on, joins, live_of, LowRows}
use Rattle.rooms.proofs.Filling.{row_part}

module _ (front : List ℕ) where
  pub live_none : 0 ≡ live_of 0 front
  unfolding live_of mask_of
  live_none = refl

  pub live_more : (q m b : ℕ) → q < 64 → m ≡ live_of q front → b ≡ 1 * 2 ^ q % 2 ^ 64 → get_or front q 0 ≤ 366000 → bit_or m b ≡ live_of (q + 1) front
  unfolding live_of top
  live_more q m b h e d l = rw (d, shl_one 64 q h, add-one q) (mask_more (λ q. ltb (get_or front q 0) 366001) q m e (lt-ltb (get_or front q 0) 366001 (omega arith)))

  pub live_skip : (q m : ℕ) → m ≡ live_of q front → 366000 < get_or front q 0 → m ≡ live_of (q + 1) front
  unfolding live_of top
  live_skip q m e l = rw (add-one q) (e ∙ sym (mask_skip (λ q. ltb (get_or front q 0) 366001) q (le-ltb (get_or front q 0) 366001 (omega arith))))

  pub live_end : (q n m : ℕ) → q ≤ n → n ≤ q → m ≡ live_of q front → m ≡ live_of n front
  live_end q n m h k e = let d : q ≡ n = omega arith in rw d at e

-- from live state to live state: those of `left` are still to be looked at, and no other state joins
module _ (a : Net) (front needs : List ℕ) (v n : ℕ) where
  abbrev joining : ℕ → Bool
  joining q = leads_on a needs q (get_or front q 0) v

  pub record Looked (left : ℕ) : Type 0 where
    pub few : (q : ℕ) → bit left q ≡ true → q < n
    pub others : Sought joining n left

  pub looked_none : (live : ℕ) → live ≡ live_of n front → Looked live
  unfolding live_of
  looked_none live e = record {
    few = λ q b. bit_below n live q (rw e (mask_lt (λ q. ltb (get_or front q 0) (suc top)) n)) b;
    others = record { none = λ q l b. le-ltb _ _ (dead q (a.to q v) (sym (bit_mask (λ q. ltb (get_or front q 0) (suc top)) n q l) ∙ (sym (ap (λ (m : ℕ). bit m q) e) ∙ b))) };
  }
    where
      dead : (q t : ℕ) → ltb (get_or front q 0) (suc top) ≡ false → rooms_by needs t ≤ get_or front q 0 + a.fee q v
      dead q t b = go (dec_lt (get_or front q 0) (suc top))
        where
          go : Dec (get_or front q 0 < suc top) → rooms_by needs t ≤ get_or front q 0 + a.fee q v
          go (yes h) = absurd (false≢true (sym b ∙ lt-ltb (get_or front q 0) (suc top) h))
          go (no h) = omega arith

  pub looked_few : {left : ℕ} → Looked left → 0 < left → left < 2 ^ 64 → count_trailing_zeros 64 left < n
  looked_few {left} w h l = w.few (count_trailing_zeros 64 left) (low_set 64 left h l)

  pub looked_more : (left : ℕ) {b : Bool} → Looked left → 0 < left → left < 2 ^ 64 → b ≡ joining (count_trailing_zeros 64 left) → b ≡ false → Looked (bit_and left (left - 1))
  looked_more left w h l d f = record {
    few = λ q b. w.few q ((and-eq-true_iff (bit left q) _).0 (sym (bit_of_and left (left - 1) q) ∙ b)).0;
    others = sought_more 64 left h l w.others (sym d ∙ f);
  }

  pub looked_end : {left : ℕ} → left ≡ 0 → Looked left → joins a front needs v n ≡ false
  unfolding joins down
  looked_end {left} e w = go n (λ q l. w.others.none q l (rw e (bit_none q)))
    where
      go : (k : ℕ) → ((q : ℕ) → q < k → joining q ≡ false) → joins a front needs v k ≡ false
      go zero h = refl
      go (suc k) h = rw (h k (omega arith), go k (λ q l. h q (omega arith)))

-- the rows of the work table: the first, and that of a place
pub start_low : {n rows k : ℕ} {work : List ℕ} → k < n → LowRows n rows work → get_or work k 0 ≤ suc top
start_low {k = k} h l = let e : 0 * 64 + k ≡ k = omega arith in rw e at (l.low 0 k (omega arith) h)

pub row_low : (n rows i : ℕ) (work : List ℕ) → n ≤ 64 → i < rows → LowRows n rows work → Low n (take ((i + 1) * 64 + 64 - (i + 1) * 64) (drop ((i + 1) * 64) work))
row_low n rows i work h k l =
    record { low = λ q b. rw (row_part work (i + 1) ((i + 1) * 64 + 64 - (i + 1) * 64) q (omega arith)) (l.low (i + 1) q (omega arith) b) }
