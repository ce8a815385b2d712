-- The walk along the first roster with so few changes, place by place.
use mathlib.Core.Path.{◌≡◌, refl, sym, ◌∙◌, subst}
use mathlib.Core.Bool.{Bool, true, false, and-eq-true_iff, false≢true}
use mathlib.Core.List.{List, [], ◌∷◌, ◌++◌, map, append_assoc, append-nil}
use mathlib.Core.List.Memᴰ.{not-nil}
use mathlib.Core.List.{Memᴰ as In}
use Prim.Native.Nat.{ℕ, zero, suc, ◌+◌, ◌*◌, ◌-◌, ◌≤◌, ◌<◌}
use native.Mathlib.Numerals.{add-one}
use native.Mathlib.Omega.{arith}
use native.Mathlib.Decide.{ℕ_discrete}
use lib.Dec.{ltb}
use lib.ListN.{length, get_or, set, take, drop, length-drop}
use lib.Seq.{take-suc-set, take_all, drop-cons}
use borrow.Author.Tests.{ltb-true, lt-ltb, le-ltb}
use Rattle.kinds.specs.Bits.{bit}
use Rattle.meaning.specs.Meaning.{Arcs, Rules, target, cost, has_arc, Place, place, places, allowed, rosters}
use Rattle.meaning.specs.Lists.{those}
use Rattle.meaning.specs.Bounds.{top}
use Rattle.meaning.proofs.Lists.{map_two, map_all}
use Rattle.meaning.proofs.Members.{length_places}
use Rattle.rooms.specs.Tables.{Net, frame, capped, before}
use Rattle.rooms.specs.Changes.{near_room, near_layer}
use Rattle.rooms.proofs.Layering.{needed_rooms, drop_places, drop_all}
use Rattle.rooms.proofs.Nearing.{near_zero}
use Rattle.mending.specs.Mending.{differs, changes}
use Rattle.planner.specs.Inner.{fewer, room_at, takeable, Tried, Meant}
use Rattle.planner.proofs.Ways.{near_way, Way, way_in}
use Rattle.planner.proofs.Going.{fewer_goes, fewer_stuck}

-- behind the last place the empty roster is left, and no change
ends : (r : Rules) (q s : ℕ) (ps : List Place) (ds : List ℕ) (g : ℕ) → ps ≡ [] → Way r q s ps ds g → fewer ds g (rosters r q s ps) ≡ [] ∷ []
unfolding rosters fewer
ends r q s [] ds g e y = go y.roster y.allows y.count
  where
    go : (w : List ℕ) → allowed r q s [] w ≡ true → changes ds w < g → those (λ w. ltb (changes ds w) g) (those (allowed r q s []) ([] ∷ [])) ≡ [] ∷ []
    go [] k n = rw (k, lt-ltb (changes ds []) g n)
    go (v ∷ w) k n = absurd (false≢true k)
ends r q s (p ∷ ps) ds g e y = let z : ◌≡◌ {A = ℕ} 0 1 = cc in absurd (omega arith)

-- what the table tells at a layer is the room that is meant there
module _ {a : Arcs} {net : Net} {ds ms work ls : List ℕ} {accepting k : ℕ} (m : Meant a net ds ms work ls accepting k) where
  pub layer_means : (i g t : ℕ) → i ≤ length ms → g ≤ suc k → t < a.states
      → room_at work i g t ≡ capped (before ls i) (near_room (frame net a.states a.values accepting) (drop i ds) (drop i (places ms ls)) g t)
  unfolding near_layer
  layer_means i zero t h l ht = omega (arith, near_zero (frame net a.states a.values accepting) (drop i ds) (drop i (places ms ls)) t)
  layer_means i (suc j) t h l ht = needed_rooms _ _ _ (m.rooms.right i j t h (omega arith) ht)

  way_left : (q s g i : ℕ) → i ≤ length ms → g ≤ suc k → q < a.states → s < room_at work i g q
      → Way (record { arcs = a; accepting = accepting }) q s (drop i (places ms ls)) (drop i ds) g
  way_left q s g i h hg hq room =
      near_way (record { arcs = a; accepting = accepting }) net m.arcs (drop i ds) (drop i (places ms ls)) g q s (omega (arith, layer_means i g q h hg hq))

  as_long : (i : ℕ) → length (drop i ds) ≡ length (drop i (places ms ls))
  as_long i = simp length-drop (omega (arith, m.drawn, m.limits, length_places ms ls (sym m.limits)))

-- values tried one after the other
module _ (a : Arcs) (work : List ℕ) (i m d q s g : ℕ) where
  pub tried_none : Tried a work i m d q s g 0
  tried_none = record { none = λ u h. absurd (omega arith) }

  pub tried_more : (v : ℕ) {b : Bool} → Tried a work i m d q s g v → b ≡ takeable a work i m d q s g v → b ≡ false → Tried a work i m d q s g (v + 1)
  tried_more v t e f = record { none = λ u h. go u h (ℕ_discrete u v) }
    where
      go : (u : ℕ) → u < v + 1 → Dec (u ≡ v) → takeable a work i m d q s g u ≡ false
      go u h (yes k) = rw k (sym e ∙ f)
      go u h (no k) = t.none u (omega arith)

-- what a value that can be taken tells by itself
module _ (a : Arcs) (work : List ℕ) (i m d q s left v : ℕ) (e : takeable a work i m d q s (suc left) v ≡ true) where
  takes_state : target a q v < a.states
  unfolding takeable
  takes_state = ltb-true _ _ ((and-eq-true_iff (has_arc a q v) _).0 ((and-eq-true_iff (bit m v) _).0 e).1).0

  pub takes_room : (s + cost a q v < room_at work i (suc (left - differs v d)) (target a q v)) × (differs v d ≤ left)
  unfolding takeable
  takes_room = go (suc left - differs v d) refl (ltb-true _ _ ((and-eq-true_iff (has_arc a q v) _).0 ((and-eq-true_iff (bit m v) _).0 e).1).1)
    where
      go : (g : ℕ) → suc left - differs v d ≡ g → s + cost a q v < room_at work i g (target a q v)
          → (s + cost a q v < room_at work i (suc (left - differs v d)) (target a q v)) × (differs v d ≤ left)
      go zero f l = absurd (omega arith)
      go (suc g) f l = let z : g ≡ left - differs v d = omega arith in (rw z at l, omega arith)

pub record Walking (a : Arcs) (start spent : ℕ) (ms ds work : List ℕ) (most : ℕ) (is : List ℕ) (q s left i : ℕ) : Type 0 where
  pub state : q < a.states
  pub few : left ≤ most
  pub low : s ≤ top
  pub room : s < room_at work i (suc left) q
  pub first : (net : Net) (ls : List ℕ) (accepting k : ℕ) → most ≤ k → Meant a net ds ms work ls accepting k
      → take 1 (fewer ds (suc most) (rosters (record { arcs = a; accepting = accepting }) start spent (places ms ls)))
      ≡ map (λ w. take i is ++ w) (take 1 (fewer (drop i ds) (suc left) (rosters (record { arcs = a; accepting = accepting }) q s (drop i (places ms ls)))))

module _ (a : Arcs) (start spent : ℕ) (ms ds work : List ℕ) (most : ℕ) where
  pub walking_starts : (is : List ℕ) → start < a.states → spent < room_at work 0 (suc most) start → Walking a start spent ms ds work most is start spent most 0
  walking_starts is h l = record {
    state = h;
    few = omega arith;
    low = omega arith;
    room = l;
    first = λ net ls accepting k hk m. map_all (take 1 (fewer ds (suc most) (rosters (record { arcs = a; accepting = accepting }) start spent (places ms ls))));
  }

  module _ (is : List ℕ) (q s left i v : ℕ) (hi : i < length ms) (hd : length ds ≡ length ms) (ho : length is ≡ length ms)
      (w : Walking a start spent ms ds work most is q s left i) (tried : Tried a work (i + 1) (get_or ms i 0) (get_or ds i 0) q s (suc left) v) where
    onward : v < a.values → takeable a work (i + 1) (get_or ms i 0) (get_or ds i 0) q s (suc left) v ≡ true → differs v (get_or ds i 0) ≤ left
        → (net : Net) (ls : List ℕ) (accepting k : ℕ) → most ≤ k → Meant a net ds ms work ls accepting k
        → map (λ z. take i is ++ z) (take 1 (fewer (drop i ds) (suc left) (rosters (record { arcs = a; accepting = accepting }) q s (drop i (places ms ls)))))
        ≡ map (λ z. take (i + 1) (set is i v) ++ z) (take 1 (fewer (drop (i + 1) ds) (suc (left - differs v (get_or ds i 0))) (rosters (record { arcs = a; accepting = accepting }) (target a q v) (s + cost a q v) (drop (i + 1) (places ms ls)))))
    unfolding takeable
    onward hv y few net ls accepting k hk m =
        let g : suc left - differs v (get_or ds i 0) ≡ suc (left - differs v (get_or ds i 0)) = omega arith in
        rw (
          drop_places ms ls i m.limits hi,
          drop-cons ds i 0 (omega arith),
          fewer_goes (record { arcs = a; accepting = accepting }) net m.arcs q s (place (get_or ms i 0) (get_or ls i 0)) (drop (suc i) (places ms ls)) (get_or ds i 0) (drop (suc i) ds) (suc left) w.state
              (as_long m (suc i)) (room_at work (suc i)) (λ g t h ht. layer_means m (suc i) g t (omega arith) (omega (arith, w.few)) ht) v hv
              (λ u h. rw add-one at (tried.none u h)) (rw add-one at y),
          g,
          add-one,
          take-suc-set is i v (omega arith),
        )
        (map_two (λ z. take i is ++ z) (λ z. v ∷ z) (λ z. (take i is ++ (v ∷ [])) ++ z)
        (take 1 (fewer (drop (suc i) ds) (suc (left - differs v (get_or ds i 0))) (rosters (record { arcs = a; accepting = accepting }) (target a q v) (s + cost a q v) (drop (suc i) (places ms ls)))))
        (λ z. sym (append_assoc (take i is) (v ∷ []) z)))

    -- one place on, by the smallest value that can be taken
    pub walking_more : v < a.values → takeable a work (i + 1) (get_or ms i 0) (get_or ds i 0) q s (suc left) v ≡ true
        → {at x : ℕ} → at ≡ q * a.values + v → x ≡ differs v (get_or ds i 0)
        → Walking a start spent ms ds work most (set is i v) (get_or a.targets at 0) (s + get_or a.costs at 0) (left - x) (i + 1)
    walking_more hv y {at} {x} ea ex =
        let z = takes_room a work (i + 1) (get_or ms i 0) (get_or ds i 0) q s left v y in
        rw (ea, ex) (record {
          state = takes_state a work (i + 1) (get_or ms i 0) (get_or ds i 0) q s left v y;
          few = omega (arith, w.few);
          low = omega (arith, z.0);
          room = z.0;
          first = λ net ls accepting k hk m. w.first net ls accepting k hk m ∙ onward hv y z.1 net ls accepting k hk m;
        })

    -- some value can be taken
    pub walking_never : a.values ≤ v → (net : Net) (ls : List ℕ) (accepting k : ℕ) → most ≤ k → Meant a net ds ms work ls accepting k → ⊥
    unfolding takeable
    walking_never hv net ls accepting k hk m =
        let y = way_left m q s (suc left) i (omega arith) (omega (arith, w.few)) w.state w.room in
        let n : fewer (drop i ds) (suc left) (rosters (record { arcs = a; accepting = accepting }) q s (drop i (places ms ls))) ≡ []
        = rw (drop_places ms ls i m.limits hi, drop-cons ds i 0 (omega arith))
        (fewer_stuck (record { arcs = a; accepting = accepting }) net m.arcs q s (place (get_or ms i 0) (get_or ls i 0)) (drop (suc i) (places ms ls)) (get_or ds i 0) (drop (suc i) ds) (suc left) w.state
        (as_long m (suc i)) (room_at work (suc i)) (λ g t h ht. layer_means m (suc i) g t (omega arith) (omega (arith, w.few)) ht)
        (λ u h. rw add-one at (tried.none u (omega arith)))) in
        not-nil (subst (λ (l : List (List ℕ)). In y.roster l) n (way_in (record { arcs = a; accepting = accepting }) q s (drop i (places ms ls)) (drop i ds) (suc left) y))

  pub walks_end : (is : List ℕ) (q s left i : ℕ) → i ≤ length ms → length ms ≤ i → length is ≡ length ms → Walking a start spent ms ds work most is q s left i
      → (net : Net) (ls : List ℕ) (accepting k : ℕ) → most ≤ k → Meant a net ds ms work ls accepting k
      → take 1 (fewer ds (suc most) (rosters (record { arcs = a; accepting = accepting }) start spent (places ms ls))) ≡ is ∷ []
  walks_end is q s left i hi hj ho w net ls accepting k hk m =
      let e : i ≡ length ms = omega arith in
      let d : drop i (places ms ls) ≡ [] = rw e (drop_all ms ls m.limits) in
      let y = way_left m q s (suc left) i hi (omega (arith, w.few)) w.state w.room in
      let f : take i is ++ [] ≡ is = append-nil (take i is) ∙ take_all i is (omega arith) in
      w.first net ls accepting k hk m ∙ rw (ends (record { arcs = a; accepting = accepting }) q s (drop i (places ms ls)) (drop i ds) (suc left) d y, f)

-- whether a value can be taken, test by test
module _ (a : Arcs) (work : List ℕ) (i m d q s left v : ℕ) where
  pub no_value : bit m v ≡ false → false ≡ takeable a work i m d q s (suc left) v
  unfolding takeable
  no_value e = rw e

  module _ (has : bit m v ≡ true) {at : ℕ} (arc : at ≡ q * a.values + v) where
    pub no_arc_lem : a.states ≤ get_or a.targets at 0 → false ≡ takeable a work i m d q s (suc left) v
    unfolding takeable
    no_arc_lem h = rw (has, ← arc, le-ltb (get_or a.targets at 0) a.states h)

    module _ (leads : get_or a.targets at 0 < a.states) {x : ℕ} (change : x ≡ differs v d) where
      pub no_change : (x ≤ left → ⊥) → false ≡ takeable a work i m d q s (suc left) v
      unfolding takeable
      no_change h =
          let z : suc left - differs v d ≡ 0 = omega arith in
          let y : ltb (s + get_or a.costs at 0) 0 ≡ false = le-ltb (s + get_or a.costs at 0) 0 (omega arith) in
          rw (has, ← arc, lt-ltb (get_or a.targets at 0) a.states leads, z, y)

      pub takes_at : x ≤ left → {g : ℕ} → g ≡ left - x → {y : ℕ} → y ≡ room_at work i (suc g) (get_or a.targets at 0)
          → ltb (s + get_or a.costs at 0) y ≡ takeable a work i m d q s (suc left) v
      unfolding takeable
      takes_at h {g} f e =
          let z : suc left - differs v d ≡ suc g = omega arith in
          rw (has, ← arc, lt-ltb (get_or a.targets at 0) a.states leads, z, e)
