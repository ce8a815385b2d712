-- The first roster with so few changes: at each place the smallest value that leaves a way to the end with those left.
use mathlib.Core.Path.{◌≡◌, refl, sym, ap, ◌∙◌}
use mathlib.Core.Bool.{Bool, true, false, cond, ◌&&◌, and-eq-true_iff, false≢true}
use mathlib.Core.List.{List, [], ◌∷◌, map}
use mathlib.Core.List.Memᴰ.{head}
use mathlib.Core.List.Memᴰ.{not-nil}
use mathlib.Core.List.{Memᴰ as In}
use Prim.Native.Nat.{ℕ, ◌+◌, ◌-◌, ◌≤◌, ◌<◌, min}
use native.Mathlib.Omega.{arith}
use lib.Dec.{ltb}
use lib.ListN.{length, take}
use borrow.Author.Tests.{ltb-true, lt-ltb, leb-true, le-leb}
use Rattle.kinds.specs.Bits.{bit}
use Rattle.meaning.specs.Meaning.{Rules, target, cost, has_arc, Place, takes, rosters}
use Rattle.meaning.specs.Lists.{from, each, those}
use Rattle.meaning.specs.Bounds.{top}
use Rattle.meaning.proofs.Lists.{those_in, those_same, both_ways}
use Rattle.meaning.proofs.Members.{roster_in}
use Rattle.meaning.proofs.Stepping.{those_map, those_each, stepping, taken_first, rosters_by, each_none, each_first}
use Rattle.rooms.specs.Tables.{Net, Same, capped}
use Rattle.rooms.specs.Changes.{near_room}
use Rattle.rooms.proofs.Rooms.{framed}
use Rattle.mending.specs.Mending.{differs, changes}
use Rattle.planner.specs.Inner.{fewer}
use Rattle.planner.proofs.Ways.{near_way, way_near, way_in}

-- those with fewer changes, by their first value
fewer_first : Rules → ℕ → ℕ → Place → List Place → ℕ → List ℕ → ℕ → ℕ → List (List ℕ)
fewer_first r q c p ps d ds g v =
    map (λ w. v ∷ w) (cond (stepping r q c p v) (those (λ w. ltb (differs v d + changes ds w) g) (rosters r (target r.arcs q v) (c + cost r.arcs q v) ps)) [])

fewer_by : (r : Rules) (q c : ℕ) (p : Place) (ps : List Place) (d : ℕ) (ds : List ℕ) (g : ℕ)
    → fewer (d ∷ ds) g (rosters r q c (p ∷ ps)) ≡ each (fewer_first r q c p ps d ds g) (from 0 r.arcs.values)
unfolding fewer fewer_first taken_first changes
fewer_by r q c p ps d ds g =
    rw (rosters_by r q c p ps)
    (those_each (λ w. ltb (changes (d ∷ ds) w) g) (taken_first r q c p ps) (fewer_first r q c p ps d ds g) (from 0 r.arcs.values)
    (λ v. those_map (λ w. ltb (changes (d ∷ ds) w) g) (λ w. v ∷ w) (cond (stepping r q c p v) (rosters r (target r.arcs q v) (c + cost r.arcs q v) ps) [])
    ∙ ap (map (λ w. v ∷ w)) (inside v (stepping r q c p v) (rosters r (target r.arcs q v) (c + cost r.arcs q v) ps))))
  where
    inside : (v : ℕ) (b : Bool) (ws : List (List ℕ)) → those (λ w. ltb (changes (d ∷ ds) (v ∷ w)) g) (cond b ws []) ≡ cond b (those (λ w. ltb (differs v d + changes ds w) g) ws) []
    inside v true ws = refl
    inside v false ws = refl

-- behind a change there is one less to make
less : (x g : ℕ) (ds : List ℕ) (ws : List (List ℕ)) → those (λ w. ltb (x + changes ds w) g) ws ≡ fewer ds (g - x) ws
unfolding fewer
less x g ds ws =
    those_same (λ w. ltb (x + changes ds w) g) (λ w. ltb (changes ds w) (g - x)) ws
    (λ w m. both_ways (ltb (x + changes ds w) g) (ltb (changes ds w) (g - x))
    (λ e. lt-ltb (changes ds w) (g - x) (omega (arith, ltb-true (x + changes ds w) g e)))
    (λ e. lt-ltb (x + changes ds w) g (omega (arith, ltb-true (changes ds w) (g - x) e))))

module _ (r : Rules) (net : Net) (same : Same r.arcs r.arcs.values net) (q c : ℕ) (p : Place) (ps : List Place) (d : ℕ) (ds : List ℕ) (g : ℕ)
    (hq : q < r.arcs.states) (long : length ds ≡ length ps) (next : ℕ → ℕ → ℕ)
    (rooms : (h t : ℕ) → h ≤ g → t < r.arcs.states → next h t ≡ capped p.limit (near_room (framed net r) ds ps h t)) where
  abbrev may : ℕ → Bool
  may v = bit p.mask v && (has_arc r.arcs q v && ltb (c + cost r.arcs q v) (next (g - differs v d) (target r.arcs q v)))

  -- behind a value that can't be taken there is nothing
  nothing : (v : ℕ) → v < r.arcs.values → may v ≡ false → fewer_first r q c p ps d ds g v ≡ []
  unfolding fewer_first
  nothing v hv e =
      go (stepping r q c p v) refl (those (λ w. ltb (differs v d + changes ds w) g) (rosters r (target r.arcs q v) (c + cost r.arcs q v) ps))
      (λ w m. those_in (λ w. ltb (differs v d + changes ds w) g) (rosters r (target r.arcs q v) (c + cost r.arcs q v) ps) m)
    where
      go : (b : Bool) → stepping r q c p v ≡ b → (ws : List (List ℕ))
          → ((w : List ℕ) → In w ws → In w (rosters r (target r.arcs q v) (c + cost r.arcs q v) ps) × (ltb (differs v d + changes ds w) g ≡ true))
          → map (λ w. v ∷ w) (cond b ws []) ≡ []
      go false f ws to = refl
      go true f [] to = refl
      go true f (w ∷ ws) to =
          let a = (and-eq-true_iff (takes p (c + cost r.arcs q v) v) _).0 f in
          let b = (and-eq-true_iff (bit p.mask v) _).0 a.0 in
          let i = to w (head refl) in
          let m = (roster_in r (target r.arcs q v) (c + cost r.arcs q v) ps w).0 i.0 in
          let k : c + cost r.arcs q v ≤ min p.limit top = leb-true _ _ b.1 in
          let z = way_near r net same ds ps (g - differs v d) (target r.arcs q v) (c + cost r.arcs q v) w long (ltb-true _ _ a.1) (omega arith) m.1 m.2
          (omega (arith, ltb-true (differs v d + changes ds w) g i.1)) in
          let x = rooms (g - differs v d) (target r.arcs q v) (omega arith) (ltb-true _ _ a.1) in
          let y : ltb (c + cost r.arcs q v) (next (g - differs v d) (target r.arcs q v)) ≡ true = lt-ltb (c + cost r.arcs q v) (next (g - differs v d) (target r.arcs q v)) (omega (arith, x, z)) in
          absurd (false≢true (sym e ∙ rw (b.0, a.1, y)))

  -- behind one that can, there is a way
  record Goes (v : ℕ) : Type 0 where
    behind_it : fewer_first r q c p ps d ds g v ≡ map (λ w. v ∷ w) (fewer ds (g - differs v d) (rosters r (target r.arcs q v) (c + cost r.arcs q v) ps))
    some : (w : List ℕ) × In w (fewer ds (g - differs v d) (rosters r (target r.arcs q v) (c + cost r.arcs q v) ps))

  something : (v : ℕ) → v < r.arcs.values → may v ≡ true → Goes v
  unfolding fewer_first
  something v hv e =
      let a = (and-eq-true_iff (bit p.mask v) _).0 e in
      let b = (and-eq-true_iff (has_arc r.arcs q v) _).0 a.1 in
      let l : c + cost r.arcs q v < next (g - differs v d) (target r.arcs q v) = ltb-true _ _ b.1 in
      let x = rooms (g - differs v d) (target r.arcs q v) (omega arith) (ltb-true _ _ b.0) in
      let y : c + cost r.arcs q v < near_room (framed net r) ds ps (g - differs v d) (target r.arcs q v) = omega arith in
      let w = near_way r net same ds ps (g - differs v d) (target r.arcs q v) (c + cost r.arcs q v) y in
      let s : stepping r q c p v ≡ true = rw (a.0, le-leb (c + cost r.arcs q v) (min p.limit top) (omega arith), b.0) in
      record {
        behind_it = rw (s, less (differs v d) g ds (rosters r (target r.arcs q v) (c + cost r.arcs q v) ps));
        some = (w.roster, way_in r (target r.arcs q v) (c + cost r.arcs q v) ps ds (g - differs v d) w);
      }

  -- the smallest value that can be taken begins the first roster
  pub fewer_goes : (v : ℕ) → v < r.arcs.values → ((u : ℕ) → u < v → may u ≡ false) → may v ≡ true
      → take 1 (fewer (d ∷ ds) g (rosters r q c (p ∷ ps))) ≡ map (λ w. v ∷ w) (take 1 (fewer ds (g - differs v d) (rosters r (target r.arcs q v) (c + cost r.arcs q v) ps)))
  fewer_goes v hv none e =
      let s = something v hv e in
      rw (fewer_by r q c p ps d ds g) (go (fewer ds (g - differs v d) (rosters r (target r.arcs q v) (c + cost r.arcs q v) ps)) s.some.1 s.behind_it)
    where
      go : (ws : List (List ℕ)) {w : List ℕ} → In w ws → fewer_first r q c p ps d ds g v ≡ map (λ w. v ∷ w) ws
          → take 1 (each (fewer_first r q c p ps d ds g) (from 0 r.arcs.values)) ≡ map (λ w. v ∷ w) (take 1 ws)
      go [] m f = absurd (not-nil m)
      go (w ∷ ws) m f = each_first (fewer_first r q c p ps d ds g) 0 r.arcs.values v (omega arith) (omega arith) (λ u a b. nothing u (omega arith) (none u b)) f

  -- where none can be taken, there is no such roster
  pub fewer_stuck : ((u : ℕ) → u < r.arcs.values → may u ≡ false) → fewer (d ∷ ds) g (rosters r q c (p ∷ ps)) ≡ []
  fewer_stuck none = fewer_by r q c p ps d ds g ∙ each_none (fewer_first r q c p ps d ds g) 0 r.arcs.values (λ u a b. nothing u (omega arith) (none u (omega arith)))
