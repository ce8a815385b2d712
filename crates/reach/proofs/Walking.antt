-- The walk along the first roster, place by place.
use mathlib.Core.Path.{◌≡◌, refl, sym, ◌∙◌, subst}
use mathlib.Core.Bool.{Bool, true, false, and-eq-true_iff, false≢true}
use mathlib.Core.List.{List, [], ◌∷◌, ◌++◌, map, append_assoc, append-nil}
use mathlib.Core.List.Memᴰ.{not-nil}
use mathlib.Core.List.{Memᴰ as In}
use Prim.Native.Nat.{ℕ, suc, ◌+◌, ◌*◌, ◌-◌, ◌^◌, ◌≤◌, ◌<◌}
use native.Mathlib.Numerals.{add-one}
use native.Mathlib.Omega.{arith}
use native.Mathlib.Decide.{dec_lt}
use lib.ListN.{length, get_or, set, take, drop}
use lib.Seq.{take-suc-set, take_all}
use borrow.Author.Tests.{ltb-true}
use Rattle.kinds.specs.Bits.{width, bit, smallest_of, rest_of}
use Rattle.kinds.proofs.Bits.{bit_of_and}
use Rattle.kinds.proofs.Lowest.{Sought, sought_more, smallest_is, smallest_least, smallest_some, smallest_set, rest_is, rest_few}
use Rattle.meaning.specs.Meaning.{Rules, rules_of, Place, place, places, rosters, allowed}
use Rattle.meaning.specs.Lists.{those}
use Rattle.meaning.specs.Bounds.{top}
use Rattle.meaning.proofs.Lists.{map_two, map_all}
use Rattle.meaning.proofs.Members.{roster_in, allowed_length}
use Rattle.rooms.specs.Tables.{Filled, Net, turned, frame, room, capped, rooms_by, Needed, Bare}
use Rattle.reach.specs.Looks.{Meant, leads_on, takeable, Walks}
use Rattle.rooms.proofs.Rooms.{Way, room_way}
use Rattle.rooms.proofs.Layering.{drop_places, drop_all, bare_fill}
use Rattle.reach.proofs.Needing.{rooms_copied}
use Rattle.reach.proofs.Firsts.{first_goes, first_way, first_none}

-- behind the last place the empty roster is left, if some is
ends : (r : Rules) (q s : ℕ) (ps : List Place) → ps ≡ [] → Way r q s ps → rosters r q s ps ≡ [] ∷ []
unfolding rosters
ends r q s [] e y = go y.roster y.allows
  where
    go : (w : List ℕ) → allowed r q s [] w ≡ true → those (allowed r q s []) ([] ∷ []) ≡ [] ∷ []
    go [] k = rw k
    go (v ∷ w) k = absurd (false≢true k)
ends r q s (p ∷ ps) e y = let z : ◌≡◌ {A = ℕ} 0 1 = cc in absurd (omega arith)

-- values tried one after the other, the smallest first: those of `left` are still to be tried, and no other below vs can be taken
pub record Trying (a : Net) (needs : List ℕ) (m q spent vs left : ℕ) : Type 0 where
  pub few : left < 2 ^ width
  pub among : (u : ℕ) → bit left u ≡ true → bit m u ≡ true
  pub others : Sought (takeable a needs m q spent) vs left

-- no value below v can be taken
pub record Tried (a : Net) (needs : List ℕ) (m q spent v : ℕ) : Type 0 where
  pub none : (u : ℕ) → u < v → takeable a needs m q spent u ≡ false

module _ (a : Net) (needs : List ℕ) (m q s vs : ℕ) where
  pub trying_none : m < 2 ^ width → Trying a needs m q s vs m
  trying_none h = record { few = h; among = λ u b. b; others = record { none = λ u l b. rw b } }

  module _ {left v : ℕ} (t : Trying a needs m q s vs left) (e : v ≡ smallest_of left) where
    -- the value that is tried is one of the mask
    pub trying_takes : v < width → {b : Bool} → b ≡ leads_on a needs q s v → b ≡ takeable a needs m q s v
    trying_takes h {b} d = d ∙ rw (t.among v (rw e (smallest_set left (smallest_some left (omega arith)) t.few)))

    pub trying_more : v < width → {b : Bool} → b ≡ leads_on a needs q s v → b ≡ false → {r : ℕ} → r ≡ rest_of left → Trying a needs m q s vs r
    trying_more h d f {r} c =
        let some = smallest_some left (omega arith) in
        rw (c, ← rest_is left some t.few) (record {
          few = rw (rest_is left some t.few) (rest_few left);
          among = λ u b. t.among u ((and-eq-true_iff (bit left u) _).0 (sym (bit_of_and left (left - 1) u) ∙ b)).0;
          others = sought_more width left (omega (arith, some)) t.few t.others (rw (smallest_is left, ← e) (sym (trying_takes h d) ∙ f));
        })

    -- none that is smaller can be taken
    pub trying_tried : (w : ℕ) → w ≤ v → w ≤ vs → Tried a needs m q s w
    trying_tried w h k = record { none = λ u l. t.others.none u (omega arith) (smallest_least left u (omega arith)) }

pub record Walking (a : Net) (qs vs start spent : ℕ) (ms work was is needs : List ℕ) (q s i : ℕ) : Type 0 where
  pub state : q < qs
  pub low : s ≤ top
  pub bare : Bare qs needs
  pub fresh : i ≡ 0 → is ≡ was
  pub way : 0 < i → (t c ls : List ℕ) (accepting : ℕ) → Meant a qs vs ms work t c ls accepting → s < room (frame a qs vs accepting) (drop i (places ms ls)) q
  pub first : (t c ls : List ℕ) (accepting : ℕ) → Meant a qs vs ms work t c ls accepting
      → take 1 (rosters (rules_of qs vs t c accepting) start spent (places ms ls)) ≡ map (λ w. take i is ++ w) (take 1 (rosters (rules_of qs vs t c accepting) q s (drop i (places ms ls))))

module _ (a : Net) (qs vs start spent : ℕ) (ms work was : List ℕ) where
  pub walking_starts : (needs : List ℕ) → start < qs → spent ≤ top → Needed (λ t. 0) qs needs → Walking a qs vs start spent ms work was was needs start spent 0
  walking_starts needs h k l = record {
    state = h;
    low = k;
    bare = record { none = l.none };
    fresh = λ e. refl;
    way = λ e. absurd (omega arith);
    first = λ t c ls accepting m. map_all (take 1 (rosters (rules_of qs vs t c accepting) start spent (places ms ls)));
  }

  module _ (is needs now : List ℕ) (q s i v : ℕ) (h64 : qs ≤ 64) (hi : i < length ms) (ho : length is ≡ length ms) (long : length needs ≡ 256) (still : length now ≡ length needs)
      (w : Walking a qs vs start spent ms work was is needs q s i)
      (l : Filled (λ k. get_or (take ((i + 1) * 64 + 64 - (i + 1) * 64) (drop ((i + 1) * 64) work)) k 0) qs needs now)
      (tried : Tried a now (get_or ms i 0) q s v) where
    bare : Bare qs now
    bare = bare_fill still w.bare l

    rooms : (t c ls : List ℕ) (accepting : ℕ) → Meant a qs vs ms work t c ls accepting
        → (u : ℕ) → rooms_by now u ≡ capped (get_or ls i 0) (room (frame a qs vs accepting) (drop (suc i) (places ms ls)) u)
    rooms t c ls accepting m = rooms_copied (frame a qs vs accepting) ms ls m.limits i work needs now h64 long still hi m.rooms w.bare l

    -- one place on, by the smallest value that can be taken
    pub walking_more : v < vs → {b : Bool} → b ≡ takeable a now (get_or ms i 0) q s v → b ≡ true → {t c : ℕ} → t ≡ a.to q v → c ≡ s + a.fee q v
        → Walking a qs vs start spent ms work was (set is i v) now t c (i + 1)
    walking_more hv e d {t} {c} et ec = rw (et, ec) (record {
      state = state;
      low = low;
      bare = bare;
      fresh = λ k. absurd (omega arith);
      way = λ k t c ls accepting m.
          rw add-one (first_way (rules_of qs vs t c accepting) a m.arcs q s (place (get_or ms i 0) (get_or ls i 0)) (drop (suc i) (places ms ls)) w.state (rooms_by now)
          (rooms t c ls accepting m) v hv (sym e ∙ d)).0;
      first = λ t c ls accepting m. w.first t c ls accepting m ∙ onward t c ls accepting m;
    })
      where
        roomy : s + a.fee q v < rooms_by now (a.to q v)
        roomy = ltb-true _ _ ((and-eq-true_iff (bit (get_or ms i 0) v) _).0 (sym e ∙ d)).1

        state : a.to q v < qs
        state = go (dec_lt (a.to q v) qs)
          where
            go : Dec (a.to q v < qs) → a.to q v < qs
            go (yes k) = k
            go (no k) = absurd (omega (arith, roomy, bare.none (a.to q v) (omega arith)))

        low : s + a.fee q v ≤ top
        low = omega (arith, roomy)

        onward : (t c ls : List ℕ) (accepting : ℕ) → Meant a qs vs ms work t c ls accepting
            → map (λ z. take i is ++ z) (take 1 (rosters (rules_of qs vs t c accepting) q s (drop i (places ms ls))))
            ≡ map (λ z. take (i + 1) (set is i v) ++ z) (take 1 (rosters (rules_of qs vs t c accepting) (a.to q v) (s + a.fee q v) (drop (i + 1) (places ms ls))))
        onward t c ls accepting m =
            rw (
              drop_places ms ls i m.limits hi,
              first_goes (rules_of qs vs t c accepting) a m.arcs q s (place (get_or ms i 0) (get_or ls i 0)) (drop (suc i) (places ms ls)) w.state (rooms_by now)
                  (rooms t c ls accepting m) v hv tried.none (sym e ∙ d),
              add-one,
              take-suc-set is i v (omega arith),
            )
            (map_two (λ z. take i is ++ z) (λ z. v ∷ z) (λ z. (take i is ++ (v ∷ [])) ++ z) (take 1 (rosters (rules_of qs vs t c accepting) (a.to q v) (s + a.fee q v) (drop (suc i) (places ms ls)))) (λ z. sym (append_assoc (take i is) (v ∷ []) z)))

    -- where no value can be taken: this is the first place, and there is no roster
    module _ (hv : vs ≤ v) (t c ls : List ℕ) (accepting : ℕ) (m : Meant a qs vs ms work t c ls accepting) where
      stuck : rosters (rules_of qs vs t c accepting) q s (drop i (places ms ls)) ≡ []
      stuck = rw (drop_places ms ls i m.limits hi)
          (first_none (rules_of qs vs t c accepting) a m.arcs q s (place (get_or ms i 0) (get_or ls i 0)) (drop (suc i) (places ms ls)) w.state (rooms_by now)
          (rooms t c ls accepting m) (λ u k. tried.none u (omega arith)))

      at_first : i ≡ 0
      at_first = go (dec_lt 0 i)
        where
          go : Dec (0 < i) → i ≡ 0
          go (yes k) =
              let y = room_way (rules_of qs vs t c accepting) a m.arcs (drop i (places ms ls)) q s (w.way k t c ls accepting m) in
              absurd (not-nil (subst (λ (z : List (List ℕ)). In y.roster z) stuck
              ((roster_in (rules_of qs vs t c accepting) q s (drop i (places ms ls)) y.roster).1 (allowed_length (rules_of qs vs t c accepting) q s (drop i (places ms ls)) y.roster y.allows, y.below, y.allows))))
          go (no k) = omega arith

      none_there : rosters (rules_of qs vs t c accepting) start spent (places ms ls) ≡ []
      none_there = nil _ (w.first t c ls accepting m ∙ rw stuck)
        where
          nil : (ws : List (List ℕ)) → take 1 ws ≡ [] → ws ≡ []
          nil [] e = refl
          nil (x ∷ ws) e = let z : ◌≡◌ {A = ℕ} 0 1 = cc in absurd (omega arith)

    pub walks_none : vs ≤ v → Walks a qs vs start spent ms work was is false
    walks_none hv = record {
      some = λ e. absurd (false≢true e);
      none = λ e t c ls accepting m. none_there hv t c ls accepting m;
      unwritten = λ e t c ls accepting m. w.fresh (at_first hv t c ls accepting m);
    }

  pub walks_some : (is needs : List ℕ) (q s i : ℕ) → 1 ≤ length ms → i ≤ length ms → length ms ≤ i → length is ≡ length ms
      → Walking a qs vs start spent ms work was is needs q s i → Walks a qs vs start spent ms work was is true
  walks_some is needs q s i h1 hi hj ho w =
      let e : i ≡ length ms = omega arith in
      record {
        some = λ k t c ls accepting m. w.first t c ls accepting m ∙ last t c ls accepting m;
        none = λ k. absurd (false≢true (sym k));
        unwritten = λ k. absurd (false≢true (sym k));
      }
    where
      last : (t c ls : List ℕ) (accepting : ℕ) → Meant a qs vs ms work t c ls accepting
          → map (λ z. take i is ++ z) (take 1 (rosters (rules_of qs vs t c accepting) q s (drop i (places ms ls)))) ≡ is ∷ []
      last t c ls accepting m =
          let e : i ≡ length ms = omega arith in
          let d : drop i (places ms ls) ≡ [] = rw e (drop_all ms ls m.limits) in
          let y = room_way (rules_of qs vs t c accepting) a m.arcs (drop i (places ms ls)) q s (w.way (omega arith) t c ls accepting m) in
          let f : take i is ++ [] ≡ is = append-nil (take i is) ∙ take_all i is (omega arith) in
          rw (ends (rules_of qs vs t c accepting) q s (drop i (places ms ls)) d y, f)

-- the turned tables, read
pub turned_to : (ts cs : List ℕ) (q v : ℕ) {at : ℕ} → at ≡ v * 64 + q → get_or ts at 0 ≡ (turned ts cs).to q v
unfolding turned
turned_to ts cs q v e = rw e

pub turned_fee : (ts cs : List ℕ) (q s v : ℕ) {at : ℕ} → at ≡ v * 64 + q → s + get_or cs at 0 ≡ s + (turned ts cs).fee q v
unfolding turned
turned_fee ts cs q s v e = rw e
