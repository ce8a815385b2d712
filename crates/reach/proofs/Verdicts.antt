-- What the last front tells: the answer and the least cost of the list of rosters.
use mathlib.Core.Path.{◌≡◌, refl, ◌∙◌}
use mathlib.Core.Bool.{true, false≢true}
use mathlib.Core.List.Memᴰ
use mathlib.Core.List.{List, [], ◌∷◌, ◌++◌, map, append-nil}
use mathlib.Core.List.Memᴰ.{head}
use mathlib.Core.List.Memᴰ.{not-nil}
use mathlib.Core.List.{Memᴰ as In}
use Prim.Native.Nat.{ℕ, zero, suc, ◌≤◌, ◌<◌, min}
use native.Mathlib.Omega.{arith}
use native.Mathlib.Decide.{dec_le, ℕ_discrete}
use lib.ListN.{length, get_or, drop}
use lib.Seq.{drop-length}
use Rattle.meaning.specs.Meaning.{Rules, total, Place, allowed, rosters, kept, least, answer, verdict, verdict_of}
use Rattle.meaning.specs.Bounds.{top}
use Rattle.meaning.proofs.Members.{roster_in, allowed_length, least_in, least_le, answer_map}
use Rattle.rooms.specs.Tables.{Net, Same}
use Rattle.reach.specs.Looks.{lowest}
use Rattle.rooms.proofs.Rooms.{room_way}
use Rattle.reach.proofs.Front.{Front}

pub lowest_most : (row : List ℕ) (n q : ℕ) → q < n → lowest row n ≤ get_or row q 0
unfolding lowest
lowest_most row zero q h = absurd (omega arith)
lowest_most row (suc n) q h = go (ℕ_discrete q n) (λ k. lowest_most row n q k)
  where
    go : Dec (q ≡ n) → (q < n → lowest row n ≤ get_or row q 0) → min (get_or row n 0) (lowest row n) ≤ get_or row q 0
    go (yes e) rec = rw e (omega arith)
    go (no e) rec = omega (arith, rec (omega arith))

pub lowest_some : (row : List ℕ) (n : ℕ) → lowest row n ≤ top → (q : ℕ) × (q < n) × (get_or row q 0 ≡ lowest row n)
unfolding lowest
lowest_some row zero h = absurd (omega arith)
lowest_some row (suc n) h = go (dec_le (get_or row n 0) (lowest row n)) (λ k. lowest_some row n k)
  where
    go : Dec (get_or row n 0 ≤ lowest row n) → (lowest row n ≤ top → (q : ℕ) × (q < n) × (get_or row q 0 ≡ lowest row n))
        → (q : ℕ) × (q < suc n) × (get_or row q 0 ≡ min (get_or row n 0) (lowest row n))
    go (yes k) rec = (n, omega arith, omega arith)
    go (no k) rec = let s = rec (omega arith) in (s.0, omega (arith, s.1), omega (arith, s.2))

module _ (r : Rules) (net : Net) (same : Same r.arcs r.arcs.values net) (start spent : ℕ) (ps : List Place) (row : List ℕ)
    (f : Front r start spent ps row (length ps) net) where
  -- no roster costs less than the least of the row
  not_less : (w : List ℕ) → In w (rosters r start spent ps) → (lowest row r.arcs.states ≤ top) × (lowest row r.arcs.states ≤ total r.arcs start spent w)
  not_less w m =
      let k = (roster_in r start spent ps w).0 m in
      let s = f.onto w k.1 k.2 in
      let l = lowest_most row r.arcs.states s.at s.state in
      (omega (arith, s.low), omega (arith, ends s.at (get_or row s.at 0) (drop (length ps) w) (rw (drop-length ps) at s.rest), s.cheap))
    where
      ends : (q c : ℕ) (z : List ℕ) → allowed r q c [] z ≡ true → total r.arcs q c z ≡ c
      ends q c [] e = refl
      ends q c (v ∷ z) e = absurd (false≢true e)

  -- and one costs just that
  one_costs : lowest row r.arcs.states ≤ top → (w : List ℕ) × In w (rosters r start spent ps) × (total r.arcs start spent w ≡ lowest row r.arcs.states)
  one_costs h =
      let q = lowest_some row r.arcs.states h in
      let l : get_or row q.0 0 ≤ top = omega (arith, q.2) in
      let w = room_way r net same (drop (length ps) ps) q.0 (get_or row q.0 0) (f.way q.0 q.1 l) in
      go q.0 q.1 l q.2 w.roster w.allows
    where
      go : (q : ℕ) → q < r.arcs.states → get_or row q 0 ≤ top → get_or row q 0 ≡ lowest row r.arcs.states
          → (w : List ℕ) → allowed r q (get_or row q 0) (drop (length ps) ps) w ≡ true
          → (w : List ℕ) × In w (rosters r start spent ps) × (total r.arcs start spent w ≡ lowest row r.arcs.states)
      go q hq l e [] a =
          let u = f.into q [] hq l tt a in
          let n : u.taken ++ [] ≡ u.taken = append-nil u.taken in (
            u.taken,
            (roster_in r start spent ps u.taken).1 (allowed_length r start spent ps u.taken (rw n at u.whole), u.below, rw n at u.whole),
            (rw n at u.equal) ∙ e,
          )
      go q hq l e (v ∷ w) a = absurd (false≢true (rw (drop-length ps) at a))

  pub verdict_some : (out : List ℕ) (l : ℕ) → out ≡ kept r.arcs.values (length ps) (rosters r start spent ps) → l ≡ lowest row r.arcs.states → l ≤ top
      → verdict 0 out l ≡ verdict_of r start spent ps
  unfolding verdict_of
  verdict_some out l e d h =
      let o = one_costs (omega arith) in
      rw (e, some (rosters r start spent ps) o.1, the_least o.0 o.1 o.2 (some (rosters r start spent ps) o.1))
    where
      some : (ws : List (List ℕ)) {w : List ℕ} → In w ws → answer ws ≡ 0
      some [] m = absurd (not-nil m)
      some (w ∷ ws) m = refl

      the_least : (w : List ℕ) → In w (rosters r start spent ps) → total r.arcs start spent w ≡ lowest row r.arcs.states
          → answer (rosters r start spent ps) ≡ 0 → least (map (total r.arcs start spent) (rosters r start spent ps)) ≡ l
      the_least w m c a =
          let ts = map (total r.arcs start spent) (rosters r start spent ps) in
          let k = Memᴰ.of_map (total r.arcs start spent) (rosters r start spent ps) (least_in ts (answer_map _ (rosters r start spent ps) ∙ a)) in
          omega (arith, least_le _ ts (Memᴰ.map (total r.arcs start spent) m), (not_less k.0 k.1).1, k.2)

  pub verdict_none : (out : List ℕ) (l : ℕ) → out ≡ kept r.arcs.values (length ps) (rosters r start spent ps) → l ≡ lowest row r.arcs.states → top < l
      → verdict 11 out 0 ≡ verdict_of r start spent ps
  unfolding verdict_of
  verdict_none out l e d h = rw e (go (rosters r start spent ps) (λ w m. omega (arith, (not_less w m).0)))
    where
      go : (ws : List (List ℕ)) → ((w : List ℕ) → In w ws → ⊥)
          → verdict 11 (kept r.arcs.values (length ps) ws) 0 ≡ verdict (answer ws) (kept r.arcs.values (length ps) ws) (least (map (total r.arcs start spent) ws))
      go [] n = refl
      go (w ∷ ws) n = absurd (n w (head refl))
