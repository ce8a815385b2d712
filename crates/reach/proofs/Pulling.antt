-- What the rows of arcs into a state give is the least cost of all looks that lead there.
use mathlib.Core.Path.{◌≡◌, sym, ◌∙◌}
use mathlib.Core.Bool.{Bool, true, false, false≢true}
use mathlib.Core.Logic.{⊎_elim}
use mathlib.Core.List.{List, [], ◌∷◌}
use Prim.Native.Nat.{ℕ, zero, suc, ◌+◌, ◌≤◌, ◌<◌}
use native.Mathlib.Omega.{arith}
use native.Mathlib.Decide.{dec_lt}
use lib.ListN.{length, get_or}
use Rattle.kinds.specs.Bits.{width, bit}
use Rattle.meaning.specs.Bounds.{most_states, most_values, table_size, top}
use Rattle.meaning.specs.Meaning.{target, cost}
use Rattle.ranks.specs.Rows.{no_arc, cost_in, out, along, Pulls, Settled, Served}
use Rattle.ranks.proofs.Least.{along_low, along_some, along_below, out_in, out_of_lem}
use Rattle.rooms.specs.Tables.{Net, choices, Filled, Low}
use Rattle.rooms.proofs.Rooms.{choice_in, in_choice}
use Rattle.reach.specs.Looks.{looks, reach, Blank, Arrives, Pulled}
use Rattle.reach.proofs.Reach.{looks_in, in_looks, reach_low, reach_most, reach_some}

-- what is read behind the end of a list
get_d_least : (xs : List ℕ) (k d : ℕ) → get_or xs k 0 ≤ get_or xs k d
get_d_least [] k d = omega arith
get_d_least (x ∷ xs) zero d = omega arith
get_d_least (x ∷ xs) (suc k) d = get_d_least xs k d

module _ {net : Net} {qs vs : ℕ} {rests arcs : List ℕ} (s : Arrives net qs vs rests arcs) (few : qs ≤ most_states) (m : ℕ) (full : (v : ℕ) → v < vs → bit m v ≡ true) (front : List ℕ)
    (low : ℕ) (under : (k : ℕ) → k < qs → low ≤ get_or front k 0) (t : ℕ) (h : t < qs) where
  abbrev least : ℕ
  least = reach net (λ q. get_or front q 0) (suc top) t (looks qs (choices vs m))

  above : least ≤ along front arcs t most_values
  above = ⊎_elim (λ e. omega (arith, e, reach_low net (λ q. get_or front q 0) (suc top) t (looks qs (choices vs m)))) (λ w. go w.0 w.1 w.2 w.3 w.4) (along_some front s.ranked t h)
    where
      go : (c q : ℕ) → q < qs → out s.of q c t ≡ true → along front arcs t most_values ≡ get_or front q 0 + c → least ≤ along front arcs t most_values
      go c q l j e =
          let (o, (v, k, d, f)) = out_of_lem s.of q c t j in
          let i : v < vs = omega (arith, s.values) in
          let to : net.to q v ≡ t = s.same.to q v (omega (arith, s.states)) i ∙ d in
          let fee : net.fee q v ≡ c = s.same.fee q v (omega (arith, s.states)) i ∙ f in
          let b : least ≤ get_or front q 0 + c = rw (to, fee) at (reach_most net (λ q. get_or front q 0) (suc top) (in_looks {qs = qs} {vs = choices vs m} {q = q} {v = v} l (in_choice vs m v i (full v i)))) in
          omega (arith, b, e)

  below : along front arcs t most_values ≤ low + get_or rests t 0 → along front arcs t most_values ≤ least
  below settled = go (dec_lt least (suc top))
    where
      go : Dec (least < suc top) → along front arcs t most_values ≤ least
      go (no p) = omega (arith, along_low front arcs t)
      go (yes p) =
          let l = reach_some net (λ q. get_or front q 0) (suc top) t (looks qs (choices vs m)) p in
          let (a, b) = looks_in qs (choices vs m) l.among in
          let i = (choice_in vs m b).0 in
          let to : target s.of l.by.state l.by.value ≡ t = sym (s.same.to l.by.state l.by.value (omega (arith, s.states)) i) ∙ l.on in
          let j : out s.of l.by.state (cost s.of l.by.state l.by.value) t ≡ true = rw to at (out_in s.of l.by.state l.by.value (omega (arith, s.values)) (omega (arith, s.states, to))) in
          let w = along_below front s.ranked t h low (cost s.of l.by.state l.by.value) l.by.state few j a (omega (arith, settled, get_d_least rests t (cost_in no_arc))) under in
          omega (arith, w, l.costs, s.same.fee l.by.state l.by.value (omega (arith, s.states)) i)

  -- what a row gives is the least cost, where no arc that was left out could better it
  pub arrives_reach : along front arcs t most_values ≤ low + get_or rests t 0 → along front arcs t most_values ≡ reach net (λ q. get_or front q 0) (suc top) t (looks qs (choices vs m))
  arrives_reach settled = omega (arith, above, below settled)

-- a row blanked
pub blank_filled : {n : ℕ} {was is : List ℕ} → Filled (λ k. 366001) n was is → Blank n is
unfolding top
blank_filled f = record { none = λ t h. f.done t h }

-- rows that do not serve or do not settle the least costs, and those that do, as the code finds it
module _ {qs vs m : ℕ} {front rests into : List ℕ} where
  pub pulled_not : {is : List ℕ} → Blank qs is → Pulled qs vs m front rests into is false
  pulled_not b = record { long = λ e. absurd (false≢true e); right = λ e. absurd (false≢true e); none = λ e. b }

  pub pulled_is : {low : ℕ} {was is : List ℕ} {a b : Bool} → qs ≤ most_states → vs ≤ most_values → most_states ≤ length front → qs ≤ length was → Low qs front
      → Served vs m into a → a ≡ true → Pulls qs front into was is low → Settled qs low rests is b → b ≡ true → Pulled qs vs m front rests into is true
  pulled_is {low} {was} {is} few fewer wide room h served a p settled b =
      let (long, full, e) = served.is a in
      record { long = λ e. long; right = λ e n s. record { right = λ t l. right n s long full t l }; none = λ e. absurd (false≢true (sym e)) }
    where
      right : (n : Net) → Arrives n qs vs rests into → length into ≡ table_size → ((u : ℕ) → u < vs → u < width → bit m u ≡ true) → (t : ℕ) → t < qs
          → get_or is t 0 ≡ reach n (λ q. get_or front q 0) (suc top) t (looks qs (choices vs m))
      right n s long full t l =
          let e = p.least few wide long room s.ranked.rising (λ k i. h.low k i) t l in
          e ∙ arrives_reach s few m (λ v i. full v i (omega arith)) front low (λ k i. p.low few wide long room k i) t l
          (omega (arith, e, settled.is b p.few (λ q i. s.few q i) t l))
