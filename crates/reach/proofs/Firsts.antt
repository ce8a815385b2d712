-- The first roster of the list: at each place the smallest value that leaves a way to the end.
use mathlib.Core.Path.{◌≡◌, refl, sym, ◌∙◌, subst}
use mathlib.Core.Bool.{Bool, true, false, cond, ◌&&◌, and-eq-true_iff, false≢true}
use mathlib.Core.List.{List, [], ◌∷◌, map}
use mathlib.Core.List.Memᴰ.{head}
use mathlib.Core.List.Memᴰ.{not-nil}
use mathlib.Core.List.{Memᴰ as In}
use Prim.Native.Nat.{ℕ, ◌+◌, ◌≤◌, ◌<◌, min}
use native.Mathlib.Omega.{arith}
use lib.Dec.{ltb}
use lib.ListN.{take}
use borrow.Author.Tests.{ltb-true, lt-ltb, leb-true, le-leb}
use Rattle.kinds.specs.Bits.{bit}
use Rattle.meaning.specs.Meaning.{Rules, target, cost, Place, takes, rosters}
use Rattle.meaning.specs.Lists.{from, each}
use Rattle.meaning.specs.Bounds.{top}
use Rattle.meaning.proofs.Members.{roster_in, allowed_length}
use Rattle.meaning.proofs.Stepping.{stepping, taken_first, rosters_by, each_none, each_first}
use Rattle.rooms.specs.Tables.{Net, Same, capped, room}
use Rattle.rooms.proofs.Rooms.{framed, room_state, room_way, way_room}

module _ (r : Rules) (net : Net) (same : Same r.arcs r.arcs.values net) (q c : ℕ) (p : Place) (ps : List Place) (hq : q < r.arcs.states) (next : ℕ → ℕ)
    (rooms : (t : ℕ) → next t ≡ capped p.limit (room (framed net r) ps t)) where
  -- behind a value that can't be taken there is nothing
  nothing : (v : ℕ) → v < r.arcs.values → (bit p.mask v && ltb (c + net.fee q v) (next (net.to q v))) ≡ false → taken_first r q c p ps v ≡ []
  unfolding taken_first
  nothing v hv e = go (stepping r q c p v) refl (rosters r (target r.arcs q v) (c + cost r.arcs q v) ps) refl
    where
      go : (b : Bool) → stepping r q c p v ≡ b → (ws : List (List ℕ)) → rosters r (target r.arcs q v) (c + cost r.arcs q v) ps ≡ ws → map (λ w. v ∷ w) (cond b ws []) ≡ []
      go false d ws f = refl
      go true d [] f = refl
      go true d (w ∷ ws) f =
          let a = (and-eq-true_iff (takes p (c + cost r.arcs q v) v) _).0 d in
          let b = (and-eq-true_iff (bit p.mask v) _).0 a.0 in
          let m = (roster_in r (target r.arcs q v) (c + cost r.arcs q v) ps w).0 (subst (λ (l : List (List ℕ)). In w l) (sym f) (head refl)) in
          let k : c + cost r.arcs q v ≤ min p.limit top = leb-true _ _ b.1 in
          let z = way_room r net same ps (target r.arcs q v) (c + cost r.arcs q v) w (ltb-true _ _ a.1) (omega arith) m.1 m.2 in
          let y : ltb (c + cost r.arcs q v) (next (target r.arcs q v)) ≡ true = lt-ltb (c + cost r.arcs q v) (next (target r.arcs q v)) (omega (arith, rooms (target r.arcs q v))) in
          absurd (false≢true (sym (rw (b.0, same.to q v hq hv, same.fee q v hq hv, y) at e)))

  -- behind one that can, there is a way
  something : (v : ℕ) → v < r.arcs.values → (bit p.mask v && ltb (c + net.fee q v) (next (net.to q v))) ≡ true
      → (taken_first r q c p ps v ≡ map (λ w. v ∷ w) (rosters r (net.to q v) (c + net.fee q v) ps)) × (c + net.fee q v < room (framed net r) ps (net.to q v)) × (c + net.fee q v ≤ top)
  unfolding taken_first
  something v hv e =
      let a = (and-eq-true_iff (bit p.mask v) _).0 e in
      let l : c + net.fee q v < next (net.to q v) = ltb-true _ _ a.1 in
      let x = rooms (net.to q v) in
      let z : c + net.fee q v < room (framed net r) ps (net.to q v) = omega arith in
      let t = same.to q v hq hv in
      let f = same.fee q v hq hv in
      let s : stepping r q c p v ≡ true
      = rw (a.0, le-leb (c + cost r.arcs q v) (min p.limit top) (omega arith), lt-ltb (target r.arcs q v) r.arcs.states (rw t at (room_state r net same ps (net.to q v) (c + net.fee q v) z))) in
      (rw (s, t, f), z, omega arith)

  -- the smallest value that can be taken begins the first roster
  pub first_goes : (v : ℕ) → v < r.arcs.values → ((u : ℕ) → u < v → (bit p.mask u && ltb (c + net.fee q u) (next (net.to q u))) ≡ false)
      → (bit p.mask v && ltb (c + net.fee q v) (next (net.to q v))) ≡ true
      → take 1 (rosters r q c (p ∷ ps)) ≡ map (λ w. v ∷ w) (take 1 (rosters r (net.to q v) (c + net.fee q v) ps))
  first_goes v hv none e =
      let s = something v hv e in
      let w = room_way r net same ps (net.to q v) (c + net.fee q v) s.1 in
      let m = (roster_in r (net.to q v) (c + net.fee q v) ps w.roster).1 (allowed_length r _ _ ps w.roster w.allows, w.below, w.allows) in
      rw (rosters_by r q c p ps) (go (rosters r (net.to q v) (c + net.fee q v) ps) m s.0)
    where
      go : (ws : List (List ℕ)) {w : List ℕ} → In w ws → taken_first r q c p ps v ≡ map (λ w. v ∷ w) ws
          → take 1 (each (taken_first r q c p ps) (from 0 r.arcs.values)) ≡ map (λ w. v ∷ w) (take 1 ws)
      go [] m d = absurd (not-nil m)
      go (w ∷ ws) m d = each_first (taken_first r q c p ps) 0 r.arcs.values v (omega arith) (omega arith) (λ u a b. nothing u (omega arith) (none u b)) d

  pub first_way : (v : ℕ) → v < r.arcs.values → (bit p.mask v && ltb (c + net.fee q v) (next (net.to q v))) ≡ true
      → (c + net.fee q v < room (framed net r) ps (net.to q v)) × (c + net.fee q v ≤ top)
  first_way v hv e = let s = something v hv e in (s.1, s.2)

  -- where none can be taken, there is no roster
  pub first_none : ((u : ℕ) → u < r.arcs.values → (bit p.mask u && ltb (c + net.fee q u) (next (net.to q u))) ≡ false) → rosters r q c (p ∷ ps) ≡ []
  first_none none = rosters_by r q c p ps ∙ each_none (taken_first r q c p ps) 0 r.arcs.values (λ u a b. nothing u (omega arith) (none u (omega arith)))
