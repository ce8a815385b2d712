-- The walk along a roster that is checked, place by place. Assumes nothing.
use mathlib.Core.Path.{◌≡◌, sym, ◌∙◌}
use mathlib.Core.Bool.{Bool, true, false, ◌&&◌, and-true, and-false}
use mathlib.Core.List.{List, ◌∷◌}
use Prim.Native.Nat.{ℕ, suc, ◌+◌, ◌*◌, ◌≤◌, ◌<◌, min}
use native.Mathlib.Numerals.{add-one}
use native.Mathlib.Omega.{arith}
use lib.Dec.{leb, eqb}
use lib.ListN.{length, get_or, drop, drop_of_length-le}
use lib.Seq.{drop-cons}
use borrow.Author.Tests.{leb-true, lt-ltb, le-ltb, eq-eqb, ne_eqb}
use Rattle.kinds.specs.Bits.{bit}
use Rattle.meaning.specs.Meaning.{Rules, place, places, allowed}
use Rattle.meaning.specs.Bounds.{table_size, top}
use Rattle.meaning.proofs.Members.{below_at}
use Rattle.rules.specs.Report.{values_right}
use Rattle.rules.proofs.Checks.{arc_place}
use Rattle.rules.proofs.Walk.{values_below}
use Rattle.mending.specs.Mending.{differs, changes, right}
use Rattle.checker.specs.Inner.{Sizes}

-- what is left of the roster decides
pub record Following (r : Rules) (start spent : ℕ) (ms ls ds w : List ℕ) (claimed q s n i : ℕ) : Type 0 where
  pub state : q < r.arcs.states
  pub low : s ≤ top
  pub few : n ≤ i
  pub same : right r start spent (places ms ls) ds w claimed
      ≡ (allowed r q s (places (drop i ms) (drop i ls)) (drop i w) && eqb (n + changes (drop i ds) (drop i w)) claimed)

pub following_starts : {r : Rules} {start spent : ℕ} {ms ls ds w : List ℕ} {claimed : ℕ} → start < r.arcs.states → spent ≤ top
    → Following r start spent ms ls ds w claimed start spent 0 0
unfolding right
following_starts {ds = ds} {w = w} h k =
    record { state = h; low = k; few = omega arith; same = (let z : 0 + changes ds w ≡ changes ds w = omega arith in rw z) }

-- the count of changes, behind one place more
pub count_change : {v d : ℕ} (n : ℕ) {m : ℕ} → (v ≡ d → ⊥) → m ≡ n + 1 → (m ≡ n + differs v d) × (m ≤ n + 1)
count_change {v} {d} n h e = (rw (ne_eqb v d h) e, omega arith)

pub count_kept : {v d : ℕ} (n : ℕ) {m : ℕ} → v ≡ d → m ≡ n → (m ≡ n + differs v d) × (m ≤ n + 1)
count_kept {v} {d} n h e = (rw (eq-eqb v d h) (omega arith), omega arith)

module _ {r : Rules} {start spent : ℕ} {ms ls ds w : List ℕ} {claimed q s n i : ℕ}
    (z : Sizes r ms ls ds w) (f : Following r start spent ms ls ds w claimed q s n i) where
  abbrev says : Bool
  says = right r start spent (places ms ls) ds w claimed

  module _ (hi : i < length w) where
    -- the arc of the value stands in the tables
    pub arc_within : {at : ℕ} → values_right r.arcs.values w ≡ true → at ≡ q * r.arcs.values + get_or w i 0 → at < table_size
    arc_within h e =
        rw e (arc_place {q = q} {v = r.arcs.values} {u = get_or w i 0} (omega (arith, f.state, z.few_states_lem)) z.few_values (below_at r.arcs.values i w (values_below r.arcs.values w h) hi))

    -- the roster from here on
    here : says
        ≡ (allowed r q s (place (get_or ms i 0) (get_or ls i 0) ∷ places (drop (suc i) ms) (drop (suc i) ls)) (get_or w i 0 ∷ drop (suc i) w)
        && eqb (n + (differs (get_or w i 0) (get_or ds i 0) + changes (drop (suc i) ds) (drop (suc i) w))) claimed)
    unfolding places changes
    here =
        f.same ∙ rw (
          drop-cons ms i 0 (omega (arith, z.all_masks)),
          drop-cons ls i 0 (omega (arith, z.all_limits)),
          drop-cons ds i 0 (omega (arith, z.all_drawn)),
          drop-cons w i 0 hi,
        )

    pub stops_value : bit (get_or ms i 0) (get_or w i 0) ≡ false → false ≡ says
    stops_value e = sym (here ∙ rw e)

    module _ (has : bit (get_or ms i 0) (get_or w i 0) ≡ true) {at : ℕ} (e : at ≡ q * r.arcs.values + get_or w i 0) where
      pub stops_arc : r.arcs.states ≤ get_or r.arcs.targets at 0 → false ≡ says
      stops_arc h =
          let k : r.arcs.states ≤ get_or r.arcs.targets (q * r.arcs.values + get_or w i 0) 0 = rw e at h in
          sym (here ∙ simp (le-ltb (get_or r.arcs.targets (q * r.arcs.values + get_or w i 0) 0) r.arcs.states k, and-false))

      pub stops_limit : leb (s + get_or r.arcs.costs at 0) (min (get_or ls i 0) top) ≡ false → false ≡ says
      stops_limit h = sym (here ∙ rw (← e, has, h))

      pub following_more : get_or r.arcs.targets at 0 < r.arcs.states → leb (s + get_or r.arcs.costs at 0) (min (get_or ls i 0) top) ≡ true → {m : ℕ}
          → (m ≡ n + differs (get_or w i 0) (get_or ds i 0)) × (m ≤ n + 1)
          → Following r start spent ms ls ds w claimed (get_or r.arcs.targets at 0) (s + get_or r.arcs.costs at 0) m (i + 1)
      following_more arc h {m} k = record {
        state = arc;
        low = omega (arith, leb-true (s + get_or r.arcs.costs at 0) (min (get_or ls i 0) top) h);
        few = omega (arith, f.few, k.1);
        same = (
            let y : n + (differs (get_or w i 0) (get_or ds i 0) + changes (drop (suc i) ds) (drop (suc i) w)) ≡ m + changes (drop (suc i) ds) (drop (suc i) w) = omega (arith, k.0) in
            here ∙ rw (← e, has, h, lt-ltb (get_or r.arcs.targets at 0) r.arcs.states arc, add-one, y)
            );
      }

  -- no value is left
  module _ (hi : length w ≤ i) where
    last : says ≡ (bit r.accepting q && eqb n claimed)
    unfolding places changes
    last =
        let y : n + 0 ≡ n = omega arith in
        f.same ∙ rw (
          drop_of_length-le w {i = i} hi,
          drop_of_length-le ms {i = i} (omega (arith, z.all_masks)),
          drop_of_length-le ds {i = i} (omega (arith, z.all_drawn)),
          y,
        )

    pub ends_count : (n ≡ claimed → ⊥) → eqb n claimed ≡ says
    ends_count h = let e = ne_eqb n claimed h in rw e (sym (last ∙ rw e (and-false (bit r.accepting q))))

    pub ends_accepts : {b : Bool} → n ≡ claimed → b ≡ bit r.accepting q → b ≡ says
    ends_accepts h e = e ∙ sym (last ∙ rw (eq-eqb n claimed h) (and-true (bit r.accepting q)))
