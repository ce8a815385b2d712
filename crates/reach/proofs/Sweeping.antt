-- The looks of the forward pass: state by state along one value, then value by value.
use mathlib.Core.Path.{◌≡◌, refl, sym, ap, ◌∙◌}
use mathlib.Core.Bool.{Bool, true, false, cond, not, ◌&&◌, ◌||◌, or-false, or_comm, false≢true}
use mathlib.Core.List.{List, [], ◌∷◌}
use Prim.Native.Nat.{ℕ, zero, suc, ◌+◌, ◌*◌, ◌^◌, ◌≤◌, ◌<◌, min}
use native.Mathlib.Numerals.{add-one}
use native.Mathlib.Omega.{arith}
use native.Mathlib.Decide.{ℕ_discrete}
use lib.Dec.{ltb, eqb}
use lib.ListN.{length, get_or, set, take, drop}
use lib.Seq.{get_or-set_same, get_or-set_other}
use borrow.Author.Tests.{eq-eqb, ne_eqb}
use Rattle.kinds.specs.Bits.{width, bit, mask_of, smallest_of, rest_of}
use Rattle.kinds.proofs.Bits.{bit_mask, bit_none, mask_is, mask_lt}
use Rattle.meaning.specs.Bounds.{top}
use Rattle.meaning.proofs.Lists.{in_any}
use Rattle.rooms.specs.Tables.{down, Net, turned, rooms_by}
use Rattle.reach.specs.Looks.{along, looks, reach, marks, arrive, joins, lowest, Pushed, Swept, Keeps}
use Rattle.rooms.proofs.Choosing.{Picked, picked_few, Through}
use Rattle.rooms.proofs.Rooms.{in_down}
use Rattle.ranks.proofs.Parts.{part_at}
use Rattle.reach.proofs.Reach.{reach_join, marks_join}

-- the next value of a mask that is gone through, if there is one
pub some_left : {m : ℕ} → true ≡ not (eqb m 0) → m ≡ 0 → ⊥
some_left {m} h e = false≢true (sym (h ∙ ap not (eq-eqb m 0 e)))

pub none_left : {m : ℕ} → false ≡ not (eqb m 0) → m ≡ 0
none_left {m} h = go (ℕ_discrete m 0)
  where
    go : Dec (m ≡ 0) → m ≡ 0
    go (yes e) = e
    go (no d) = absurd (false≢true (h ∙ ap not (ne_eqb m 0 d)))

pub next_picked : {D : List ℕ → Type 0} {m left v r : ℕ} → Through D m left → v ≡ smallest_of left → r ≡ rest_of left → Picked left v r
next_picked t e d = record { few = t.few; smallest = e; rest = d }

pub next_few : {D : List ℕ → Type 0} {m left v : ℕ} → Through D m left → v ≡ smallest_of left → true ≡ not (eqb left 0) → v < width
next_few t e h = picked_few (next_picked t e refl) (some_left h)

-- state by state: the least costs
module _ (ts cs front : List ℕ) where
  pub pushed_none : (was : List ℕ) → Pushed ts cs front 0 was was
  unfolding arrive
  pushed_none was = record { right = λ t. refl }

  pub pushed_more : {was is : List ℕ} (q x : ℕ) → get_or ts q 0 < length is → Pushed ts cs front q was is
      → x ≡ min (get_or front q 0 + get_or cs q 0) (get_or is (get_or ts q 0) 0) → Pushed ts cs front (q + 1) was (set is (get_or ts q 0) x)
  unfolding arrive
  pushed_more {was} {is} q x h p e = record { right = λ t. rw add-one (go t (ℕ_discrete t (get_or ts q 0))) }
    where
      go : (t : ℕ) → Dec (t ≡ get_or ts q 0) → get_or (set is (get_or ts q 0) x) t 0
          ≡ cond (eqb (get_or ts q 0) t) (min (get_or front q 0 + get_or cs q 0) (arrive ts cs front (get_or was t 0) t q)) (arrive ts cs front (get_or was t 0) t q)
      go t (yes d) = rw (eq-eqb (get_or ts q 0) t (sym d), ← p.right t, d) (get_or-set_same is (get_or ts q 0) x 0 h ∙ e)
      go t (no d) = rw (ne_eqb (get_or ts q 0) t (λ k. d (sym k)), ← p.right t) (get_or-set_other is (get_or ts q 0) t x 0 d)

  pub pushed_end : {was is : List ℕ} {q n : ℕ} → Pushed ts cs front q was is → q ≤ n → n ≤ q → Pushed ts cs front n was is
  pushed_end {was} {is} {q} {n} p h k = let e : q ≡ n = omega arith in rw e at p

-- state by state: whether one joins
module _ (a : Net) (front needs : List ℕ) (v : ℕ) where
  pub joins_here : (q n : ℕ) {b : Bool} → q < n → b ≡ ltb (get_or front q 0 + a.fee q v) (rooms_by needs (a.to q v)) → b ≡ true → true ≡ joins a front needs v n
  unfolding joins
  joins_here q n h d f = sym (in_any (λ q. ltb (get_or front q 0 + a.fee q v) (rooms_by needs (a.to q v))) (in_down n q h) (sym d ∙ f))

  joins_is : (u n : ℕ) → (joins a front needs v n && eqb u v) ≡ marks a (rooms_by needs) (λ q. get_or front q 0) u (along n v)
  unfolding joins marks down
  joins_is u zero = refl
  joins_is u (suc n) = rw (← joins_is u n) (spread (ltb (get_or front n 0 + a.fee n v) (rooms_by needs (a.to n v))) _ (eqb u v))
    where
      spread : (a b d : Bool) → ((a || b) && d) ≡ ((a && d) || (b && d))
      spread true true true = refl
      spread true true false = refl
      spread true false true = refl
      spread true false false = refl
      spread false b d = refl

pub lowest_none : (row : List ℕ) → 366001 ≡ lowest row 0
unfolding lowest top
lowest_none row = refl

pub lowest_more : (row : List ℕ) (q x z : ℕ) → x ≡ lowest row q → z ≡ min (get_or row q 0) x → z ≡ lowest row (q + 1)
unfolding lowest
lowest_more row q x z e f = rw (f, e, add-one)

pub lowest_most : (row : List ℕ) (q : ℕ) → lowest row q ≤ suc top
unfolding lowest
lowest_most row zero = omega arith
lowest_most row (suc q) = omega (arith, lowest_most row q)

-- a mask with a value more, or as it is
pub marked_yes : (m v : ℕ) (r : ℕ) (on : Bool) → on ≡ true → r ≡ mask_of (λ u. bit m u || eqb u v) width → r ≡ mask_of (λ u. bit m u || (on && eqb u v)) width
marked_yes m v r on e h = rw e h

pub marked_no : (m v : ℕ) (on : Bool) → m < 2 ^ width → on ≡ false → m ≡ mask_of (λ u. bit m u || (on && eqb u v)) width
marked_no m v on h e = mask_is (λ u. bit m u || (on && eqb u v)) width m h (λ u l. sym (rw e (or-false (bit m u))))

-- a row of the turned tables, as the looks along a value see it
module _ (ts cs : List ℕ) (v at k : ℕ) (e : at ≡ v * 64) (front : List ℕ) where
  arrive_is : (most t n : ℕ) → n ≤ k
      → arrive (take k (drop at ts)) (take k (drop at cs)) front most t n ≡ reach (turned ts cs) (λ q. get_or front q 0) most t (along n v)
  unfolding arrive reach turned down
  arrive_is most t zero h = refl
  arrive_is most t (suc n) h = rw (arrive_is most t n (omega arith), part_at ts at v 64 k n e (omega arith), part_at cs at v 64 k n e (omega arith))

-- value by value: the least costs
module _ (ts cs : List ℕ) (qs : ℕ) (front : List ℕ) where
  pub swept_none : (was : List ℕ) → Swept (turned ts cs) qs [] front was was
  unfolding reach
  swept_none was = record { costs = λ t. refl }

  pub swept_more : (v at k : ℕ) (us : List ℕ) {was mid is : List ℕ} → at ≡ v * 64 → qs ≤ k → Pushed (take k (drop at ts)) (take k (drop at cs)) front qs mid is
      → Swept (turned ts cs) qs us front was mid → Swept (turned ts cs) qs (v ∷ us) front was is
  swept_more v at k us {was} {mid} {is} r h p s = record {
    costs = λ t. p.right t ∙ (arrive_is ts cs v at k r front (get_or mid t 0) t qs h
        ∙ (ap (λ (b : ℕ). reach (turned ts cs) (λ q. get_or front q 0) b t (along qs v)) (s.costs t)
        ∙ sym (reach_join (turned ts cs) (λ q. get_or front q 0) (get_or was t 0) t (along qs v) (looks qs us))));
  }

-- value by value: those that are kept
module _ (a : Net) (qs : ℕ) (front needs : List ℕ) where
  pub keeps_none : Keeps a qs [] front needs 0
  unfolding marks
  keeps_none = record { values = λ v h. bit_none v; small = omega arith }

  pub keeps_more : (v : ℕ) (us : List ℕ) {x y : ℕ} → y ≡ mask_of (λ u. bit x u || (joins a front needs v qs && eqb u v)) width → Keeps a qs us front needs x → Keeps a qs (v ∷ us) front needs y
  keeps_more v us {x} {y} z s =
      let on : Bool = joins a front needs v qs in
      record {
        values = λ u l. ap (λ (n : ℕ). bit n u) z ∙ (bit_mask (λ u. bit x u || (on && eqb u v)) width u l
            ∙ (or_comm (bit x u) _
            ∙ (rw (joins_is a front needs v u qs, s.values u l)
            (sym (marks_join a (rooms_by needs) (λ q. get_or front q 0) u (along qs v) (looks qs us))))));
        small = rw z (mask_lt (λ u. bit x u || (on && eqb u v)) width);
      }
