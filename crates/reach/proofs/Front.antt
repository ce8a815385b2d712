-- A front: the least cost at each state before place i of a prefix that a roster goes on from. What is kept at place i, and in the end
-- the least cost, is read off it.
use mathlib.Core.Path.{◌≡◌, refl, sym, ◌∙◌}
use mathlib.Core.Bool.{Bool, true, false, cond, ◌&&◌, and-eq-true_iff, false≢true}
use mathlib.Core.List.{List, [], ◌∷◌, ◌++◌, append_assoc}
use mathlib.Core.List.{Memᴰ as In}
use Prim.Native.Nat.{ℕ, zero, suc, ◌+◌, ◌≤◌, ◌<◌}
use native.Mathlib.Omega.{arith}
use lib.Dec.{ltb, eqb}
use lib.ListN.{length, get_or, drop, length-append}
use borrow.Author.Tests.{eqb-true, eq-eqb, ltb-true, lt-ltb}
use Rattle.meaning.specs.Meaning.{Rules, target, cost, total, Place, allowed, rosters, has}
use Rattle.meaning.specs.Lists.{any}
use Rattle.meaning.specs.Bounds.{top}
use Rattle.meaning.proofs.Members.{Below, Goes, goes, allowed_length, roster_in}
use Rattle.meaning.proofs.Lists.{any_in, in_any, both_ways}
use Rattle.rooms.specs.Tables.{choices, Net, Same, capped, room}
use Rattle.reach.specs.Looks.{Look, look, looks, spends, leads, lands, reach, marks}
use Rattle.rooms.proofs.Rooms.{framed, choice_in, in_choice, room_state, room_way, way_room, total_lower, allowed_lower}
use Rattle.reach.proofs.Reach.{looks_in, in_looks, reach_most, reach_some}

-- a prefix and a suffix of a word
has_drop : (i v : ℕ) (w : List ℕ) → has i v w ≡ has 0 v (drop i w)
has_drop zero v w = refl
has_drop (suc i) v [] = refl
has_drop (suc i) v (x ∷ w) = has_drop i v w

has_after : (i : ℕ) (u w : List ℕ) (v : ℕ) → length u ≡ i → has i v (u ++ w) ≡ has 0 v w
has_after zero [] w v e = refl
has_after zero (x ∷ u) w v e = absurd (omega arith)
has_after (suc i) [] w v e = absurd (omega arith)
has_after (suc i) (x ∷ u) w v e = has_after i u w v (omega arith)

drop_below : (vs i : ℕ) (w : List ℕ) → Below vs w → Below vs (drop i w)
drop_below vs zero w b = b
drop_below vs (suc i) [] b = tt
drop_below vs (suc i) (x ∷ w) b = drop_below vs i w b.1

below_join : (vs : ℕ) (u w : List ℕ) → Below vs u → Below vs w → Below vs (u ++ w)
below_join vs [] w b d = d
below_join vs (x ∷ u) w b d = (b.0, below_join vs u w b.1 d)

drop_tail : (i : ℕ) (w z : List ℕ) (v : ℕ) → drop i w ≡ v ∷ z → drop (suc i) w ≡ z
drop_tail zero [] z v e = cc
drop_tail zero (x ∷ w) z v e = cc
drop_tail (suc i) [] z v e = cc
drop_tail (suc i) (x ∷ w) z v e = drop_tail i w z v e

-- a cost that is struck where it leaves no room
struck_some : (x n o : ℕ) → o ≡ cond (ltb x n) x (suc top) → o ≤ top → (x < n) × (o ≡ x)
struck_some x n o e h = go (ltb x n) refl e
  where
    go : (b : Bool) → ltb x n ≡ b → o ≡ cond b x (suc top) → (x < n) × (o ≡ x)
    go true k e = (ltb-true _ _ k, e)
    go false k e = absurd (omega arith)

struck_most : (x n o s : ℕ) → o ≡ cond (ltb x n) x (suc top) → x ≤ s → s < n → o ≤ s
struck_most x n o s e h k = rw (e, lt-ltb x n (omega arith)) h

module _ (r : Rules) (start spent : ℕ) (ps : List Place) (row : List ℕ) (i : ℕ) where
  -- what is left of a whole roster goes on from a state of the front, at no more cost
  pub record Suffix (w : List ℕ) : Type 0 where
    pub at : ℕ
    pub state : at < r.arcs.states
    pub low : get_or row at 0 ≤ top
    pub rest : allowed r at (get_or row at 0) (drop i ps) (drop i w) ≡ true
    pub cheap : total r.arcs at (get_or row at 0) (drop i w) ≤ total r.arcs start spent w

  -- what goes on from a state of the front ends some whole roster, at the same cost
  pub record Prefix (q : ℕ) (w : List ℕ) : Type 0 where
    pub taken : List ℕ
    pub long : length taken ≡ i
    pub below : Below r.arcs.values taken
    pub whole : allowed r start spent ps (taken ++ w) ≡ true
    pub equal : total r.arcs start spent (taken ++ w) ≡ total r.arcs q (get_or row q 0) w

  pub record Front (net : Net) : Type 0 where
    pub onto : (w : List ℕ) → Below r.arcs.values w → allowed r start spent ps w ≡ true → Suffix w
    pub into : (q : ℕ) (w : List ℕ) → q < r.arcs.states → get_or row q 0 ≤ top → Below r.arcs.values w
        → allowed r q (get_or row q 0) (drop i ps) w ≡ true → Prefix q w
    pub way : (q : ℕ) → q < r.arcs.states → get_or row q 0 ≤ top → get_or row q 0 < room (framed net r) (drop i ps) q

module _ (r : Rules) (net : Net) (same : Same r.arcs r.arcs.values net) (start spent : ℕ) (ps : List Place) where
  -- before the first place: the start alone, if a roster goes on from there
  pub front_opens : (row : List ℕ) → start < r.arcs.states → spent ≤ top
      → (spent < room (framed net r) ps start → get_or row start 0 ≡ spent)
      → ((q : ℕ) → q < r.arcs.states → get_or row q 0 ≤ top → (q ≡ start) × (get_or row q 0 ≡ spent) × (spent < room (framed net r) ps start)) → Front r start spent ps row 0 net
  front_opens row hq hs there only = record {
    onto = λ w b e.
        let h = there (way_room r net same ps start spent w hq hs b e) in
        record { at = start; state = hq; low = rw h hs; rest = rw h e; cheap = rw h (omega arith) };
    into = λ q w k l b e.
        let o = only q k l in
        record { taken = []; long = refl; below = tt; whole = rw (← o.1, ← o.0) e; equal = rw (← o.1, ← o.0) };
    way = λ q k l. let o = only q k l in rw (o.0, there o.2) o.2;
  }

  -- one place on; `next` has the rooms behind the place's limit, `onward` the least costs of the looks that land
  module _ (i : ℕ) (p : Place) (row onward : List ℕ) (next : ℕ → ℕ) (here : drop i ps ≡ p ∷ drop (suc i) ps)
      (rooms : (t : ℕ) → next t ≡ capped p.limit (room (framed net r) (drop (suc i) ps) t)) (f : Front r start spent ps row i net) where
    -- a step of a roster from the front is a look that lands
    stepped : (q v : ℕ) (w : List ℕ) → q < r.arcs.states → v < r.arcs.values → Below r.arcs.values w → Goes r q (get_or row q 0) p v (drop (suc i) ps) w
        → In (look q v) (looks r.arcs.states (choices r.arcs.values p.mask)) × (lands net next (λ q. get_or row q 0) (look q v) ≡ true)
    stepped q v w hq hv b g =
        let s : ℕ = get_or row q 0 + cost r.arcs q v in
        let k = way_room r net same (drop (suc i) ps) (target r.arcs q v) s w g.arc (omega (arith, g.within)) b g.rest in (
          in_looks hq (in_choice r.arcs.values p.mask v hv g.chosen),
          rw (same.to q v hq hv, same.fee q v hq hv) (lt-ltb s (next (target r.arcs q v)) (omega (arith, rooms (target r.arcs q v), g.within))),
        )

    -- and back: a roster that goes on behind the look goes on from the front
    record Landed (x : Look) : Type 0 where
      state : x.state < r.arcs.states
      value : x.value < r.arcs.values
      low : get_or row x.state 0 ≤ top
      roomy : spends net (λ q. get_or row q 0) x < room (framed net r) (drop (suc i) ps) (leads net x)
      joined : (w : List ℕ) → allowed r (leads net x) (spends net (λ q. get_or row q 0) x) (drop (suc i) ps) w ≡ true
          → allowed r x.state (get_or row x.state 0) (drop i ps) (x.value ∷ w) ≡ true
      equal : (w : List ℕ) → total r.arcs x.state (get_or row x.state 0) (x.value ∷ w) ≡ total r.arcs (leads net x) (spends net (λ q. get_or row q 0) x) w

    landed : (x : Look) → In x (looks r.arcs.states (choices r.arcs.values p.mask)) → lands net next (λ q. get_or row q 0) x ≡ true → Landed x
    landed x m h =
        let k = looks_in r.arcs.states (choices r.arcs.values p.mask) m in
        let c = choice_in r.arcs.values p.mask k.1 in
        let t : leads net x ≡ target r.arcs x.state x.value = same.to x.state x.value k.0 c.0 in
        let y : net.fee x.state x.value ≡ cost r.arcs x.state x.value = same.fee x.state x.value k.0 c.0 in
        let l : spends net (λ q. get_or row q 0) x < next (leads net x) = ltb-true _ _ h in
        let e = rooms (leads net x) in
        let n : spends net (λ q. get_or row q 0) x < room (framed net r) (drop (suc i) ps) (leads net x) = omega arith in
        record {
          state = k.0;
          value = c.0;
          low = omega arith;
          roomy = n;
          joined = λ w d. rw here ((goes r x.state (get_or row x.state 0) p x.value (drop (suc i) ps) w).1 (record {
            chosen = c.1;
            within = omega arith;
            arc = rw (← t) (room_state r net same (drop (suc i) ps) (leads net x) (spends net (λ q. get_or row q 0) x) n);
            rest = rw (← t, ← y) d;
          }));
          equal = λ w. rw (t, y);
        }

    -- a value is kept exactly if it is marked
    kept_marked : (v : ℕ) → any (has i v) (rosters r start spent ps) ≡ true
        → marks net next (λ q. get_or row q 0) v (looks r.arcs.states (choices r.arcs.values p.mask)) ≡ true
    unfolding marks
    kept_marked v h =
        let k = any_in (has i v) (rosters r start spent ps) h in
        let m = (roster_in r start spent ps k.0).0 k.1 in
        let s = f.onto k.0 m.1 m.2 in
        go s.at s.state (drop i k.0) (sym (has_drop i v k.0) ∙ k.2) (drop_below r.arcs.values i k.0 m.1) (rw here at s.rest)
      where
        go : (q : ℕ) → q < r.arcs.states → (w : List ℕ) → has 0 v w ≡ true → Below r.arcs.values w → allowed r q (get_or row q 0) (p ∷ drop (suc i) ps) w ≡ true
            → any (λ x. lands net next (λ q. get_or row q 0) x && eqb v x.value) (looks r.arcs.states (choices r.arcs.values p.mask)) ≡ true
        go q hq [] h b e = absurd (false≢true h)
        go q hq (x ∷ w) h b e =
            let s = stepped q x w hq b.0 b.1 ((goes r q (get_or row q 0) p x (drop (suc i) ps) w).0 e) in
            let d : v ≡ x = sym (eqb-true _ _ h) in
            in_any (λ x. lands net next (λ q. get_or row q 0) x && eqb v x.value) s.0 (rw s.1 (eq-eqb v x d))

    marked_kept : (v : ℕ) → marks net next (λ q. get_or row q 0) v (looks r.arcs.states (choices r.arcs.values p.mask)) ≡ true
        → any (has i v) (rosters r start spent ps) ≡ true
    unfolding marks
    marked_kept v h =
        let k = any_in (λ x. lands net next (λ q. get_or row q 0) x && eqb v x.value) (looks r.arcs.states (choices r.arcs.values p.mask)) h in
        let x : Look = k.0 in
        let b = (and-eq-true_iff (lands net next (λ q. get_or row q 0) x) _).0 k.2 in
        let l = landed x k.1 b.0 in
        let w = room_way r net same (drop (suc i) ps) (leads net x) (spends net (λ q. get_or row q 0) x) l.roomy in
        let u = f.into x.state (x.value ∷ w.roster) l.state l.low (l.value, w.below) (l.joined w.roster w.allows) in
        let e : v ≡ x.value = eqb-true _ _ b.1 in
        in_any (has i v) {x = u.taken ++ (x.value ∷ w.roster)}
        ((roster_in r start spent ps (u.taken ++ (x.value ∷ w.roster))).1
        (allowed_length r start spent ps _ u.whole, below_join r.arcs.values u.taken (x.value ∷ w.roster) u.below (l.value, w.below), u.whole))
        (has_after i u.taken (x.value ∷ w.roster) v u.long ∙ eq-eqb x.value v (sym e))

    pub kept_is : (v : ℕ) → any (has i v) (rosters r start spent ps)
        ≡ marks net next (λ q. get_or row q 0) v (looks r.arcs.states (choices r.arcs.values p.mask))
    kept_is v = both_ways _ _ (kept_marked v) (marked_kept v)

    pub front_goes : ((t : ℕ) → t < r.arcs.states
        → let x = reach net (λ q. get_or row q 0) (suc top) t (looks r.arcs.states (choices r.arcs.values p.mask)) in
        get_or onward t 0 ≡ cond (ltb x (next t)) x (suc top))
        → Front r start spent ps onward (suc i) net
    front_goes right = record { onto = onto; into = into; way = way }
      where
        lies : (t : ℕ) → t < r.arcs.states → get_or onward t 0 ≤ top
            → (x : Look) × In x (looks r.arcs.states (choices r.arcs.values p.mask)) × (lands net next (λ q. get_or row q 0) x ≡ true)
            × (leads net x ≡ t) × (get_or onward t 0 ≡ spends net (λ q. get_or row q 0) x)
        lies t ht l =
            let k = struck_some (reach net (λ q. get_or row q 0) (suc top) t (looks r.arcs.states (choices r.arcs.values p.mask))) (next t) (get_or onward t 0) (right t ht) l in
            let y = reach_some net (λ q. get_or row q 0) (suc top) t (looks r.arcs.states (choices r.arcs.values p.mask)) (omega (arith, k.1)) in
            (y.by, y.among, rw y.on (lt-ltb (spends net (λ q. get_or row q 0) y.by) (next t) (omega (arith, k.0, y.costs))), y.on, k.1 ∙ y.costs)

        way : (t : ℕ) → t < r.arcs.states → get_or onward t 0 ≤ top → get_or onward t 0 < room (framed net r) (drop (suc i) ps) t
        way t ht l =
            let y = lies t ht l in
            let d = landed y.0 y.1 y.2 in
            let h : spends net (λ q. get_or row q 0) y.0 < room (framed net r) (drop (suc i) ps) t = rw y.3 at d.roomy in
            omega (arith, y.4)

        into : (t : ℕ) (w : List ℕ) → t < r.arcs.states → get_or onward t 0 ≤ top → Below r.arcs.values w
            → allowed r t (get_or onward t 0) (drop (suc i) ps) w ≡ true → Prefix r start spent ps onward (suc i) t w
        into t w ht l b e =
            let y = lies t ht l in
            let x : Look = y.0 in
            let d = landed x y.1 y.2 in
            let u = f.into x.state (x.value ∷ w) d.state d.low (d.value, b) (d.joined w (rw (y.3, ← y.4) e)) in
            let j : (u.taken ++ (x.value ∷ [])) ++ w ≡ u.taken ++ (x.value ∷ w) = append_assoc u.taken (x.value ∷ []) w in
            record {
              taken = u.taken ++ (x.value ∷ []);
              long = length-append u.taken (x.value ∷ []) ∙ omega (arith, u.long);
              below = below_join r.arcs.values u.taken (x.value ∷ []) u.below (d.value, tt);
              whole = rw j u.whole;
              equal = rw j (u.equal ∙ (d.equal w ∙ rw (y.3, ← y.4)));
            }

        onto : (w : List ℕ) → Below r.arcs.values w → allowed r start spent ps w ≡ true → Suffix r start spent ps onward (suc i) w
        onto w b e =
            let s = f.onto w b e in
            go s.at s.state (drop i w) refl (drop_below r.arcs.values i w b) (rw here at s.rest) s.cheap
          where
            go : (q : ℕ) → q < r.arcs.states → (z : List ℕ) → drop i w ≡ z → Below r.arcs.values z → allowed r q (get_or row q 0) (p ∷ drop (suc i) ps) z ≡ true
                → total r.arcs q (get_or row q 0) z ≤ total r.arcs start spent w → Suffix r start spent ps onward (suc i) w
            go q hq [] d b e c = absurd (false≢true e)
            go q hq (v ∷ z) d b e c =
                let g = (goes r q (get_or row q 0) p v (drop (suc i) ps) z).0 e in
                let s = stepped q v z hq b.0 b.1 g in
                let t : ℕ = target r.arcs q v in
                let y = same.to q v hq b.0 in
                let x = same.fee q v hq b.0 in
                let m = reach_most net (λ q. get_or row q 0) (suc top) s.0 in
                let l : spends net (λ q. get_or row q 0) (look q v) < next (leads net (look q v)) = ltb-true _ _ s.1 in
                let k : get_or onward t 0 ≤ get_or row q 0 + cost r.arcs q v
                = struck_most (reach net (λ q. get_or row q 0) (suc top) t (looks r.arcs.states (choices r.arcs.values p.mask))) (next t) (get_or onward t 0)
                (get_or row q 0 + cost r.arcs q v) (right t g.arc) (rw (y, x) at m) (rw (y, x) at l) in
                record {
                  at = t;
                  state = g.arc;
                  low = omega (arith, g.within);
                  rest = rw (drop_tail i w z v d) (allowed_lower r t _ _ (drop (suc i) ps) z k g.rest);
                  cheap = rw (drop_tail i w z v d) (omega (arith, total_lower r.arcs t _ _ z k));
                }
