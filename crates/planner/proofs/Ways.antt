-- What a room by changes means: a cost spent is below it exactly if some roster with fewer changes goes on from there.
use mathlib.Core.Path.{◌≡◌, refl}
use mathlib.Core.Bool.{Bool, true, false, cond, ◌&&◌, and-eq-true_iff, false≢true}
use mathlib.Core.List.{List, [], ◌∷◌}
use mathlib.Core.List.{Memᴰ as In}
use Prim.Native.Nat.{ℕ, ◌+◌, ◌-◌, ◌≤◌, ◌<◌}
use native.Mathlib.Omega.{arith}
use native.Mathlib.Decide.{dec_lt}
use lib.Dec.{ltb, eqb}
use lib.ListN.{length}
use borrow.Author.Tests.{ltb-true, lt-ltb, eqb-true, eq-eqb}
use Rattle.kinds.specs.Bits.{bit}
use Rattle.meaning.specs.Meaning.{Rules, target, cost, Place, allowed, rosters}
use Rattle.meaning.specs.Bounds.{top}
use Rattle.meaning.proofs.Members.{Below, goes, roster_in, allowed_length}
use Rattle.meaning.proofs.Lists.{in_those}
use Rattle.rooms.specs.Tables.{Net, Same, choices, best, leaves, capped, room}
use Rattle.rooms.specs.Changes.{near_best, near_room}
use Rattle.rooms.proofs.Rooms.{framed, choice_in, in_choice, best_most, best_some, room_state, room_way, way_room}
use Rattle.mending.specs.Mending.{differs, changes}
use Rattle.planner.specs.Inner.{fewer}

-- a value is one change at most
differs_few : (v d : ℕ) → differs v d ≤ 1
differs_few v d = go (eqb v d)
  where
    go : (b : Bool) → cond b 0 1 ≤ 1
    go true = omega arith
    go false = omega arith

-- a roster with fewer than g changes that goes on from state q, the cost c being spent
pub record Way (r : Rules) (q c : ℕ) (ps : List Place) (ds : List ℕ) (g : ℕ) : Type 0 where
  pub roster : List ℕ
  pub below : Below r.arcs.values roster
  pub allows : allowed r q c ps roster ≡ true
  pub count : changes ds roster < g

-- is one of those with fewer
pub way_in : (r : Rules) (q c : ℕ) (ps : List Place) (ds : List ℕ) (g : ℕ) (y : Way r q c ps ds g) → In y.roster (fewer ds g (rosters r q c ps))
unfolding fewer
way_in r q c ps ds g y =
    in_those (λ w. ltb (changes ds w) g) ((roster_in r q c ps y.roster).1 (allowed_length r q c ps y.roster y.allows, y.below, y.allows)) (lt-ltb _ _ y.count)

module _ (r : Rules) (n : Net) (same : Same r.arcs r.arcs.values n) where
  near_state : (ds : List ℕ) (ps : List Place) (g q s : ℕ) → s < near_room (framed n r) ds ps g q → q < r.arcs.states
  unfolding near_room
  near_state ds [] g q s h = go (ltb 0 g) h
    where
      go : (b : Bool) → s < cond b (room (framed n r) [] q) 0 → q < r.arcs.states
      go true h = room_state r n same [] q s h
      go false h = absurd (omega arith)
  near_state [] (p ∷ ps) g q s h = absurd (omega arith)
  near_state (d ∷ ds) (p ∷ ps) g q s h = go (ltb q r.arcs.states) _ refl h
    where
      go : (b : Bool) (x : ℕ) → ltb q r.arcs.states ≡ b → s < cond b x 0 → q < r.arcs.states
      go true x e h = ltb-true _ _ e
      go false x e h = absurd (omega arith)

  pub near_way : (ds : List ℕ) (ps : List Place) (g q s : ℕ) → s < near_room (framed n r) ds ps g q → Way r q s ps ds g
  unfolding near_room near_best changes
  near_way ds [] g q s h = go (ltb 0 g) refl h
    where
      empty : (w : List ℕ) → allowed r q s [] w ≡ true → allowed r q s [] [] ≡ true
      empty [] e = e
      empty (v ∷ w) e = absurd (false≢true e)

      none : (ds : List ℕ) → changes ds [] ≡ 0
      none [] = refl
      none (d ∷ ds) = refl

      go : (b : Bool) → ltb 0 g ≡ b → s < cond b (room (framed n r) [] q) 0 → Way r q s [] ds g
      go true e h = let y = room_way r n same [] q s h in record { roster = []; below = tt; allows = empty y.roster y.allows; count = omega (arith, none ds, ltb-true 0 g e) }
      go false e h = absurd (omega arith)
  near_way [] (p ∷ ps) g q s h = absurd (omega arith)
  near_way (d ∷ ds) (p ∷ ps) g q s h = go (ltb q r.arcs.states) refl h (λ g t c k. near_way ds ps g t c k)
    where
      -- by a value whose room one place on is told for fewer than x changes
      by : q < r.arcs.states → ((g t c : ℕ) → c < near_room (framed n r) ds ps g t → Way r t c ps ds g)
          → (v x : ℕ) → v < r.arcs.values → bit p.mask v ≡ true → s < leaves n (λ t. capped p.limit (near_room (framed n r) ds ps x t)) q v → ((c : ℕ) → c < x → differs v d + c < g)
          → Way r q s (p ∷ ps) (d ∷ ds) g
      by hq rec v x hv m k f =
          let t : n.to q v ≡ target r.arcs q v = same.to q v hq hv in
          let l : s + cost r.arcs q v < capped p.limit (near_room (framed n r) ds ps x (target r.arcs q v)) = rw (← t) (omega (arith, same.fee q v hq hv)) in
          let w = rec x (target r.arcs q v) (s + cost r.arcs q v) (omega arith) in
          record {
            roster = v ∷ w.roster;
            below = (hv, w.below);
            allows = (goes r q s p v ps w.roster).1
                (record { chosen = m; within = omega arith; arc = near_state ds ps x (target r.arcs q v) (s + cost r.arcs q v) (omega arith); rest = w.allows });
            count = f (changes ds w.roster) w.count;
          }

      drawn : (b : Bool) → (ltb d r.arcs.values && bit p.mask d) ≡ b → s < cond b (leaves n (λ t. capped p.limit (near_room (framed n r) ds ps g t)) q d) 0 → q < r.arcs.states
          → ((g t c : ℕ) → c < near_room (framed n r) ds ps g t → Way r t c ps ds g) → Way r q s (p ∷ ps) (d ∷ ds) g
      drawn false e h hq rec = absurd (omega arith)
      drawn true e h hq rec =
          let a = (and-eq-true_iff (ltb d r.arcs.values) _).0 e in
          let z : eqb d d ≡ true = eq-eqb d d refl in
          by hq rec d g (ltb-true _ _ a.0) a.1 h (λ c l. rw z (omega arith))

      pick : Dec (s < best n (λ t. capped p.limit (near_room (framed n r) ds ps (g - 1) t)) q (choices r.arcs.values p.mask))
          → s < near_best n (λ t. capped p.limit (near_room (framed n r) ds ps (g - 1) t)) (λ t. capped p.limit (near_room (framed n r) ds ps g t)) r.arcs.values p.mask d q
          → q < r.arcs.states → ((g t c : ℕ) → c < near_room (framed n r) ds ps g t → Way r t c ps ds g) → Way r q s (p ∷ ps) (d ∷ ds) g
      pick (yes k) h hq rec =
          let b = best_some n (λ t. capped p.limit (near_room (framed n r) ds ps (g - 1) t)) q s (choices r.arcs.values p.mask) k in
          let i = choice_in r.arcs.values p.mask b.1 in
          by hq rec b.0 (g - 1) i.0 i.1 b.2 (λ c l. omega (arith, differs_few b.0 d))
      pick (no k) h hq rec = drawn (ltb d r.arcs.values && bit p.mask d) refl (omega arith) hq rec

      go : (b : Bool) → ltb q r.arcs.states ≡ b
          → s < cond b (near_best n (λ t. capped p.limit (near_room (framed n r) ds ps (g - 1) t)) (λ t. capped p.limit (near_room (framed n r) ds ps g t)) r.arcs.values p.mask d q) 0
          → ((g t c : ℕ) → c < near_room (framed n r) ds ps g t → Way r t c ps ds g) → Way r q s (p ∷ ps) (d ∷ ds) g
      go false e h rec = absurd (omega arith)
      go true e h rec = pick (dec_lt s (best n (λ t. capped p.limit (near_room (framed n r) ds ps (g - 1) t)) q (choices r.arcs.values p.mask))) h (ltb-true _ _ e) rec

  pub way_near : (ds : List ℕ) (ps : List Place) (g q s : ℕ) (w : List ℕ) → length ds ≡ length ps → q < r.arcs.states → s ≤ top → Below r.arcs.values w → allowed r q s ps w ≡ true
      → changes ds w < g → s < near_room (framed n r) ds ps g q
  unfolding near_room near_best changes
  way_near [] [] g q s w l hq hs b e k = rw (lt-ltb 0 g k) (way_room r n same [] q s w hq hs b e)
  way_near (d ∷ ds) [] g q s w l hq hs b e k = absurd (omega arith)
  way_near [] (p ∷ ps) g q s w l hq hs b e k = absurd (omega arith)
  way_near (d ∷ ds) (p ∷ ps) g q s [] l hq hs b e k = absurd (false≢true e)
  way_near (d ∷ ds) (p ∷ ps) g q s (v ∷ w) l hq hs b e k =
      let y = (goes r q s p v ps w).0 e in
      let m : (x : ℕ) → changes ds w < x → s < leaves n (λ t. capped p.limit (near_room (framed n r) ds ps x t)) q v
      = λ x f.
      let z = way_near ds ps x (target r.arcs q v) (s + cost r.arcs q v) w (omega arith) y.arc (omega (arith, y.within)) b.1 y.rest f in
      rw (same.to q v hq b.0, same.fee q v hq b.0) (omega (arith, y.within)) in
      rw (lt-ltb _ _ hq) (go (eqb v d) refl y.chosen m k)
    where
      go : (x : Bool) → eqb v d ≡ x → bit p.mask v ≡ true → ((x : ℕ) → changes ds w < x → s < leaves n (λ t. capped p.limit (near_room (framed n r) ds ps x t)) q v)
          → cond x 0 1 + changes ds w < g
          → s < near_best n (λ t. capped p.limit (near_room (framed n r) ds ps (g - 1) t)) (λ t. capped p.limit (near_room (framed n r) ds ps g t)) r.arcs.values p.mask d q
      go true e c m k =
          let z : v ≡ d = eqb-true v d e in
          let f : (ltb v r.arcs.values && bit p.mask v) ≡ true = rw (lt-ltb v r.arcs.values b.0, c) in
          rw (← z, f) (omega (arith, m g (omega arith)))
      go false e c m k =
          omega (arith, m (g - 1) (omega arith), best_most n (λ t. capped p.limit (near_room (framed n r) ds ps (g - 1) t)) q (in_choice r.arcs.values p.mask v b.0 c))
