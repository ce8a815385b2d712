-- What a room means: a cost spent is below the room of a state exactly if some roster goes on from there.
use mathlib.Core.Path.{◌≡◌, refl}
use mathlib.Core.Bool.{Bool, true, false, cond, ◌&&◌, false≢true}
use mathlib.Core.Logic.{⊎_elim}
use mathlib.Core.List.{List, [], ◌∷◌}
use mathlib.Core.List.Memᴰ.{cases_cons as cases}
use mathlib.Core.List.Memᴰ.{head}
use mathlib.Core.List.Memᴰ.{not-nil}
use mathlib.Core.List.Memᴰ.{tail}
use mathlib.Core.List.{Memᴰ as In}
use Prim.Native.Nat.{ℕ, zero, suc, ◌+◌, ◌-◌, ◌≤◌, ◌<◌}
use native.Mathlib.Omega.{arith}
use native.Mathlib.Decide.{dec_lt, ℕ_discrete}
use lib.Dec.{ltb}
use borrow.Author.Tests.{ltb-true, lt-ltb}
use Rattle.kinds.specs.Bits.{bit}
use Rattle.meaning.specs.Meaning.{Arcs, Rules, target, cost, total, Place, allowed}
use Rattle.meaning.specs.Bounds.{top}
use Rattle.meaning.proofs.Members.{Below, goes}
use Rattle.meaning.proofs.Lists.{those_in, in_those}
use Rattle.rooms.specs.Tables.{down, choices, Net, Frame, frame, Same, best, capped, before, room}
use lib.ListN.{get_or}

-- a rule set with its arcs in a net
abbrev pub framed : Net → Rules → Frame
framed n r = frame n r.arcs.states r.arcs.values r.accepting

-- the numbers below n, and the values of a mask
pub down_in : (n : ℕ) {k : ℕ} → In k (down n) → k < n
unfolding down
down_in zero m = absurd (not-nil m)
down_in (suc n) {k} m = ⊎_elim (λ e. omega arith) (λ i. omega (arith, down_in n i)) (cases m)

pub in_down : (n k : ℕ) → k < n → In k (down n)
unfolding down
in_down zero k h = absurd (omega arith)
in_down (suc n) k h = go (ℕ_discrete k n) (λ p. in_down n k p)
  where
    go : Dec (k ≡ n) → (k < n → In k (down n)) → In k (n ∷ down n)
    go (yes e) rec = head e
    go (no e) rec = tail (rec (omega arith))

pub choice_in : (vs m : ℕ) {v : ℕ} → In v (choices vs m) → (v < vs) × (bit m v ≡ true)
unfolding choices
choice_in vs m i = let t = those_in (bit m) (down vs) i in (down_in vs t.0, t.1)

pub in_choice : (vs m v : ℕ) → v < vs → bit m v ≡ true → In v (choices vs m)
unfolding choices
in_choice vs m v h e = in_those (bit m) (in_down vs v h) e

module _ (a : Net) (next : ℕ → ℕ) (q : ℕ) where
  pub best_most : {v : ℕ} {vs : List ℕ} → In v vs → next (a.to q v) - a.fee q v ≤ best a next q vs
  unfolding best
  best_most {v} (head {x = y} {xs} e) = rw e (omega arith)
  best_most {v} (tail {x = y} {xs} m) = omega (arith, best_most m)

  pub best_some : (s : ℕ) (vs : List ℕ) → s < best a next q vs → (v : ℕ) × In v vs × (s < next (a.to q v) - a.fee q v)
  unfolding best
  best_some s [] h = absurd (omega arith)
  best_some s (v ∷ vs) h = go (dec_lt s (next (a.to q v) - a.fee q v)) (λ k. best_some s vs k)
    where
      go : Dec (s < next (a.to q v) - a.fee q v) → (s < best a next q vs → (v : ℕ) × In v vs × (s < next (a.to q v) - a.fee q v))
          → (u : ℕ) × In u (v ∷ vs) × (s < next (a.to q u) - a.fee q u)
      go (yes k) rec = (v, head refl, k)
      go (no k) rec = let r = rec (omega arith) in (r.0, tail r.1, r.2)

-- a roster that goes on from state q, the cost c being spent
pub record Way (r : Rules) (q c : ℕ) (ps : List Place) : Type 0 where
  pub roster : List ℕ
  pub below : Below r.arcs.values roster
  pub allows : allowed r q c ps roster ≡ true

-- the room of a rule set whose arcs stand in a net
module _ (r : Rules) (n : Net) (same : Same r.arcs r.arcs.values n) where
  pub room_state : (ps : List Place) (q s : ℕ) → s < room (framed n r) ps q → q < r.arcs.states
  unfolding room
  room_state [] q s h = go (ltb q r.arcs.states) refl h
    where
      go : (b : Bool) → ltb q r.arcs.states ≡ b → s < cond (b && bit r.accepting q) (suc top) 0 → q < r.arcs.states
      go true e h = ltb-true _ _ e
      go false e h = absurd (omega arith)
  room_state (p ∷ ps) q s h = go (ltb q r.arcs.states) _ refl h
    where
      go : (b : Bool) (x : ℕ) → ltb q r.arcs.states ≡ b → s < cond b x 0 → q < r.arcs.states
      go true x e h = ltb-true _ _ e
      go false x e h = absurd (omega arith)

  pub room_way : (ps : List Place) (q s : ℕ) → s < room (framed n r) ps q → Way r q s ps
  unfolding room
  room_way [] q s h = go (ltb q r.arcs.states) (bit r.accepting q) refl h
    where
      go : (b d : Bool) → bit r.accepting q ≡ d → s < cond (b && d) (suc top) 0 → Way r q s []
      go true true e h = record { roster = []; below = tt; allows = e }
      go true false e h = absurd (omega arith)
      go false d e h = absurd (omega arith)
  room_way (p ∷ ps) q s h = go (ltb q r.arcs.states) refl h (λ t c k. room_way ps t c k)
    where
      go : (b : Bool) → ltb q r.arcs.states ≡ b
          → s < cond b (best n (λ t. capped p.limit (room (framed n r) ps t)) q (choices r.arcs.values p.mask)) 0
          → ((t c : ℕ) → c < room (framed n r) ps t → Way r t c ps) → Way r q s (p ∷ ps)
      go false e h rec = absurd (omega arith)
      go true e h rec =
          let b = best_some n (λ t. capped p.limit (room (framed n r) ps t)) q s (choices r.arcs.values p.mask) h in
          let v : ℕ = b.0 in
          let i = choice_in r.arcs.values p.mask b.1 in
          let t : n.to q v ≡ target r.arcs q v = same.to q v (ltb-true _ _ e) i.0 in
          let l : s + cost r.arcs q v < capped p.limit (room (framed n r) ps (target r.arcs q v))
          = rw (← t) (omega (arith, b.2, same.fee q v (ltb-true _ _ e) i.0)) in
          let w = rec (target r.arcs q v) (s + cost r.arcs q v) (omega arith) in
          record {
            roster = v ∷ w.roster;
            below = (i.0, w.below);
            allows = (goes r q s p v ps w.roster).1
                (record { chosen = i.1; within = omega arith; arc = room_state ps (target r.arcs q v) (s + cost r.arcs q v) (omega arith); rest = w.allows });
          }

  pub way_room : (ps : List Place) (q s : ℕ) (w : List ℕ) → q < r.arcs.states → s ≤ top → Below r.arcs.values w → allowed r q s ps w ≡ true
      → s < room (framed n r) ps q
  unfolding room
  way_room [] q s [] hq hs b e = rw (lt-ltb _ _ hq, e) (omega arith)
  way_room [] q s (v ∷ w) hq hs b e = absurd (false≢true e)
  way_room (p ∷ ps) q s [] hq hs b e = absurd (false≢true e)
  way_room (p ∷ ps) q s (v ∷ w) hq hs b e =
      let g = (goes r q s p v ps w).0 e in
      let k = way_room ps (target r.arcs q v) (s + cost r.arcs q v) w g.arc (omega (arith, g.within)) b.1 g.rest in
      let l : s + n.fee q v < capped p.limit (room (framed n r) ps (n.to q v))
      = rw (same.to q v hq b.0, same.fee q v hq b.0) (omega (arith, g.within)) in
      rw (lt-ltb _ _ hq) (omega (arith, best_most n (λ t. capped p.limit (room (framed n r) ps t)) q (in_choice r.arcs.values p.mask v b.0 g.chosen)))

-- two nets that have the arcs of one rule set leave the same rooms
module _ (r : Rules) (m n : Net) (s : Same r.arcs r.arcs.values m) (t : Same r.arcs r.arcs.values n) where
  pub best_same : (next : ℕ → ℕ) (q : ℕ) → q < r.arcs.states → (vs : List ℕ) → ((v : ℕ) → In v vs → v < r.arcs.values) → best m next q vs ≡ best n next q vs
  unfolding best
  best_same next q h [] b = refl
  best_same next q h (v ∷ vs) b =
      let k : v < r.arcs.values = b v (head refl) in
      rw (s.to q v h k, s.fee q v h k, t.to q v h k, t.fee q v h k, best_same next q h vs (λ u i. b u (tail i)))

  pub room_same : (ps : List Place) (q : ℕ) → room (framed m r) ps q ≡ room (framed n r) ps q
  unfolding room
  room_same [] q = refl
  room_same (p ∷ ps) q = go (ltb q r.arcs.states) refl (λ i t. capped p.limit (room_same ps t i))
    where
      go : (b : Bool) → ltb q r.arcs.states ≡ b
          → ◌≡◌ {A = ℕ → ℕ} (λ t. capped p.limit (room (framed m r) ps t)) (λ t. capped p.limit (room (framed n r) ps t))
          → cond b (best m (λ t. capped p.limit (room (framed m r) ps t)) q (choices r.arcs.values p.mask)) 0
          ≡ cond b (best n (λ t. capped p.limit (room (framed n r) ps t)) q (choices r.arcs.values p.mask)) 0
      go true e rec = rw rec (best_same (λ t. capped p.limit (room (framed n r) ps t)) q (ltb-true _ _ e) (choices r.arcs.values p.mask) (λ v i. (choice_in r.arcs.values p.mask i).0))
      go false e rec = refl

-- with less spent, what was allowed is allowed, and costs no more
pub total_lower : (a : Arcs) (q c d : ℕ) (w : List ℕ) → c ≤ d → total a q c w ≤ total a q d w
total_lower a q c d [] h = h
total_lower a q c d (v ∷ w) h = total_lower a (target a q v) (c + cost a q v) (d + cost a q v) w (omega arith)

pub allowed_lower : (r : Rules) (q c d : ℕ) (ps : List Place) (w : List ℕ) → c ≤ d → allowed r q d ps w ≡ true → allowed r q c ps w ≡ true
allowed_lower r q c d [] [] h e = e
allowed_lower r q c d [] (v ∷ w) h e = absurd (false≢true e)
allowed_lower r q c d (p ∷ ps) [] h e = absurd (false≢true e)
allowed_lower r q c d (p ∷ ps) (v ∷ w) h e =
    let g = (goes r q d p v ps w).0 e in
    (goes r q c p v ps w).1 (record {
      chosen = g.chosen;
      within = omega (arith, g.within);
      arc = g.arc;
      rest = allowed_lower r (target r.arcs q v) (c + cost r.arcs q v) (d + cost r.arcs q v) ps w (omega arith) g.rest;
    })

-- what the limit of the step into a layer makes the least need
pub least_first : (ls : List ℕ) (i : ℕ) → i ≡ 0 → 0 ≡ top - before ls i
least_first ls i e = rw e (omega arith)

pub least_later : (ls : List ℕ) (i x : ℕ) → (i ≡ 0 → ⊥) → x ≡ 366000 - get_or ls (i - 1) 0 → x ≡ top - before ls i
unfolding top
least_later ls zero x h e = absurd (h refl)
least_later ls (suc i) x h e = let d : suc i - 1 ≡ i = omega arith in rw d at e
