-- What the rows of arcs give is what all values together need.
use mathlib.Core.Path.{◌≡◌, ◌∙◌}
use mathlib.Core.Bool.{true}
use mathlib.Core.Logic.{⊎_elim}
use mathlib.Core.List.{List}
use Prim.Native.Nat.{ℕ, suc, ◌+◌, ◌-◌, ◌≤◌, ◌<◌}
use native.Mathlib.Omega.{arith}
use native.Mathlib.Decide.{dec_lt}
use lib.ListN.{length, get_or}
use Rattle.kinds.specs.Bits.{width, bit}
use Rattle.meaning.specs.Bounds.{most_states, most_values, table_size, top}
use Rattle.meaning.specs.Meaning.{target, cost}
use Rattle.ranks.specs.Rows.{out, along}
use Rattle.ranks.proofs.Least.{along_low, along_some, along_below, top_low, out_in, out_of_lem}
use Rattle.ranks.specs.Rows.{Pulls}
use Rattle.rooms.specs.Tables.{Net, choices, best, need, need_at, rooms_by, Low, Bare, Serves, Filled}
use Rattle.rooms.proofs.Rooms.{best_most, best_some, choice_in, in_choice}
use Rattle.ranks.proofs.Parts.{within}

module _ {net : Net} {qs vs : ℕ} {arcs : List ℕ} (s : Serves net qs vs arcs) (few : qs ≤ most_states) (m : ℕ) (full : (v : ℕ) → v < vs → bit m v ≡ true) (needs : List ℕ)
    (long : qs ≤ length needs) (bare : Bare qs needs) (q : ℕ) (h : q < qs) where
  -- the arc of the net is that of the rule set
  to_is : (v : ℕ) → v < vs → net.to q v ≡ target s.of q v
  to_is v l = s.same.to q v (omega (arith, s.states)) l

  fee_is : (v : ℕ) → v < vs → net.fee q v ≡ cost s.of q v
  fee_is v l = s.same.fee q v (omega (arith, s.states)) l

  above : need (best net (rooms_by needs) q (choices vs m)) ≤ along needs arcs q most_values
  above = ⊎_elim (λ e. omega (arith, e)) (λ w. go w.0 w.1 w.3 w.4) (along_some needs s.ranked q h)
    where
      go : (c t : ℕ) → out s.of q c t ≡ true → along needs arcs q most_values ≡ get_or needs t 0 + c → need (best net (rooms_by needs) q (choices vs m)) ≤ along needs arcs q most_values
      go c t j e =
          let (l, (v, k, d, f)) = out_of_lem s.of q c t j in
          let i : v < vs = omega (arith, s.values) in
          let b : suc top - need_at needs t - c ≤ best net (rooms_by needs) q (choices vs m) = rw (to_is v i ∙ d, fee_is v i ∙ f) at (best_most net (rooms_by needs) q (in_choice vs m v i (full v i))) in
          omega (arith, b, e, within needs t 0 (suc top) (omega (arith, s.states)))

  below : along needs arcs q most_values ≤ need (best net (rooms_by needs) q (choices vs m))
  below = go (dec_lt 0 (best net (rooms_by needs) q (choices vs m)))
    where
      at : (v : ℕ) → v < vs → best net (rooms_by needs) q (choices vs m) - 1 < rooms_by needs (target s.of q v) - cost s.of q v → Dec (target s.of q v < qs)
          → 0 < best net (rooms_by needs) q (choices vs m) → along needs arcs q most_values ≤ need (best net (rooms_by needs) q (choices vs m))
      at v i b (yes l) p =
          let j = out_in s.of q v (omega (arith, s.values)) (omega (arith, s.states)) in
          let w = along_below needs s.ranked q h 0 (cost s.of q v) (target s.of q v) few j l (omega (arith, along_low needs arcs q, top_low)) (λ k o. omega arith) in
          omega (arith, w, b, within needs (target s.of q v) 0 (suc top) (omega arith))
      at v i b (no l) p = absurd (omega (arith, b, bare.none (target s.of q v) (omega arith)))

      go : Dec (0 < best net (rooms_by needs) q (choices vs m)) → along needs arcs q most_values ≤ need (best net (rooms_by needs) q (choices vs m))
      go (no p) = omega (arith, along_low needs arcs q)
      go (yes p) =
          let (v, i, b) = best_some net (rooms_by needs) q (best net (rooms_by needs) q (choices vs m) - 1) (choices vs m) (omega arith) in
          let k = (choice_in vs m i).0 in
          at v k (rw (to_is v k, fee_is v k) at b) (dec_lt (target s.of q v) qs) p

  -- what a row gives is what all values need
  pub serves_best : along needs arcs q most_values ≡ need (best net (rooms_by needs) q (choices vs m))
  serves_best = omega (arith, above, below)

-- a row that was pulled
pub pulled_filled : {net : Net} {qs vs low : ℕ} {arcs row row' : List ℕ} (m : ℕ) (needs : List ℕ) → Serves net qs vs arcs → qs ≤ most_states → vs ≤ most_values → length needs ≡ 256 → Low 256 needs → Bare qs needs
    → qs ≤ length row → (length arcs ≡ table_size) × ((v : ℕ) → v < vs → v < width → bit m v ≡ true) → Pulls qs needs arcs row row' low
    → Filled (λ q. need (best net (rooms_by needs) q (choices vs m))) qs row row'
pulled_filled m needs s few f l a b r e p = record {
  done = λ q h. p.least few (omega arith) e.0 r s.ranked.rising (λ k o. a.low k (omega arith)) q h ∙ serves_best s few m (λ v o. e.1 v o (omega arith)) needs (omega arith) b q h;
  left = p.left;
}
