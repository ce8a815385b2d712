-- The rule tables turned, value by value.
use mathlib.Core.Path.{◌≡◌, ◌∙◌}
use mathlib.Core.List.{List}
use Prim.Native.Nat.{ℕ, ◌+◌, ◌*◌, ◌≤◌, ◌<◌}
use native.Mathlib.Omega.{arith}
use native.Mathlib.Decide.{ℕ_discrete}
use lib.ListN.{get_or}
use Rattle.meaning.specs.Meaning.{Arcs, target, cost}
use Rattle.rooms.specs.Tables.{turned, Same, Laid, Outside}
use Rattle.rooms.proofs.Filling.{outside_none}

-- one table, of targets or of costs: f is what an arc of it says
turned_one : (f : ℕ → ℕ → ℕ) (n v : ℕ) {xs is : List ℕ} → n ≤ 64 → ((q u : ℕ) → q < n → u < v → get_or xs (u * 64 + q) 0 ≡ f q u) → Laid (λ q. f q v) n v xs is
    → (q u : ℕ) → q < n → u < v + 1 → get_or is (u * 64 + q) 0 ≡ f q u
turned_one f n v {xs} {is} h old new q u hq hu = go (ℕ_discrete u v)
  where
    go : Dec (u ≡ v) → get_or is (u * 64 + q) 0 ≡ f q u
    go (yes d) = rw d (new.row q hq)
    go (no d) = new.others u q (omega arith) (λ e k. d e) ∙ old q u hq (omega arith)

-- the values below v turned, all else as it was
pub record Turned (a : Arcs) (v : ℕ) (to fee to' fee' : List ℕ) : Type 0 where
  pub arcs : Same a v (turned to' fee')
  pub beside_targets : Outside a.states v to to'
  pub beside_costs : Outside a.states v fee fee'

pub turned_none : (a : Arcs) (to fee : List ℕ) → Turned a 0 to fee to fee
turned_none a to fee = record {
  arcs = record { to = λ q v h l. absurd (omega arith); fee = λ q v h l. absurd (omega arith) };
  beside_targets = outside_none a.states 0 to;
  beside_costs = outside_none a.states 0 fee;
}

pub turned_more : {a : Arcs} {v : ℕ} {to fee ts cs ts' cs' : List ℕ} → a.states ≤ 64 → Turned a v to fee ts cs
    → Laid (λ q. target a q v) a.states v ts ts' → Laid (λ q. cost a q v) a.states v cs cs' → Turned a (v + 1) to fee ts' cs'
unfolding turned
turned_more {a} {v} h s x y = record {
  arcs = record { to = turned_one (target a) a.states v h s.arcs.to x; fee = turned_one (cost a) a.states v h s.arcs.fee y };
  beside_targets = row_more s.beside_targets x;
  beside_costs = row_more s.beside_costs y;
}
  where
    row_more : {g : ℕ → ℕ} {was xs is : List ℕ} → Outside a.states v was xs → Laid g a.states v xs is → Outside a.states (v + 1) was is
    row_more o l = record { same = λ j q m d. l.others j q m (λ e k. d (omega arith) k) ∙ o.same j q m (λ e k. d (omega arith) k) }

pub turned_end : {a : Arcs} {v vs : ℕ} {to fee ts cs : List ℕ} → v ≤ vs → vs ≤ v → Turned a v to fee ts cs
    → Same a vs (turned ts cs) × Outside a.states vs to ts × Outside a.states vs fee cs
turned_end {a} {v} {vs} {to} {fee} {ts} {cs} h k s =
    let e : v ≡ vs = omega arith in
    let r : Turned a vs to fee ts cs = rw e at s in
    (r.arcs, r.beside_targets, r.beside_costs)
