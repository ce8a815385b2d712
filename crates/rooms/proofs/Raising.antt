-- A row lessened to what a mask's values need at the least, four values at once: so the rooms are raised to the best that they leave.
use mathlib.Core.Path.{◌≡◌, refl, ◌∙◌, subst}
use mathlib.Core.Bool.{Bool, true, false, cond}
use mathlib.Core.List.{List, [], ◌∷◌, ◌++◌}
use Prim.Native.Nat.{ℕ, zero, suc, ◌-◌, ◌^◌, ◌≤◌, ◌<◌, min}
use native.Mathlib.Omega.{arith}
use lib.ListN.{get_or, length, drop}
use lib.Seq.{drop-cons, drop-length}
use Rattle.kinds.specs.declared.Value.{Value}
use Rattle.kinds.specs.Bits.{width}
use Rattle.meaning.specs.Bounds.{most_values, top}
use Rattle.rooms.specs.Tables.{Net, Filled, choices, best, need, rooms_by, asks, least_by, numbers_of, Values, Best, Lessens}
use Rattle.rooms.proofs.Choosing.{Through, through_none, through_on, through_last}

-- values that there can be, one more before the others
pub values_none : Values []
values_none = record { few = λ k h. absurd (omega arith) }

pub values_more : {v : Value} {vs : List Value} → v.0 < most_values → Values vs → Values (v ∷ vs)
values_more {v} {vs} h r = record { few = at }
  where
    at : (k : ℕ) → k < length (v ∷ vs) → (get_or (v ∷ vs) k (record { 0 = 0 })).0 < most_values
    at zero l = h
    at (suc k) l = r.few k (omega arith)

-- what some values need, from the last one on
module _ (a : Net) (needs : List ℕ) (q : ℕ) (values : List Value) (was : ℕ) where
  pub least_none : (k : ℕ) → k ≡ length values → was ≡ least_by a needs q (numbers_of (drop k values)) was
  least_none k e = rw (e, drop-length values)

  pub least_more : (k x least : ℕ) → 0 < k → k ≤ length values → x ≡ asks a needs q (get_or values (k - 1) (record { 0 = 0 })).0
      → least ≡ least_by a needs q (numbers_of (drop k values)) was → min x least ≡ least_by a needs q (numbers_of (drop (k - 1) values)) was
  least_more k x least h l e d =
      let f : k ≡ suc (k - 1) = omega arith in
      let y : least ≡ least_by a needs q (numbers_of (drop (suc (k - 1)) values)) was = subst (λ (z : ℕ). least ≡ least_by a needs q (numbers_of (drop z values)) was) f d in
      let m : k - 1 < length values = omega arith in
      rw (drop-cons values (k - 1) (record { 0 = 0 }) m, e, y)

module _ (a : Net) (needs : List ℕ) (n : ℕ) {first : Bool} {row : List ℕ} where
  pub lessens : {row' : List ℕ} (vs : List ℕ) → Filled (λ q. least_by a needs q vs (cond first (suc top) (get_or row q 0))) n row row' → Lessens a (rooms_by needs) n first vs row row'
  unfolding best
  lessens vs f = record { goes = λ us b. record { is = λ q l. f.done q l ∙ go us b vs q l }; left = f.left }
    where
      go : (us : List ℕ) → Best a (rooms_by needs) n first us row → (vs : List ℕ) (q : ℕ) → q < n → least_by a needs q vs (cond first (suc top) (get_or row q 0)) ≡ need (best a (rooms_by needs) q (vs ++ us))
      go us b [] q l = b.is q l
      go us b (v ∷ vs) q l = omega (arith, go us b vs q l)

-- a row on its way through a mask: lessened to what the values need that were looked at; behind n as it was
pub record Going (a : Net) (next : ℕ → ℕ) (n : ℕ) (first : Bool) (m left : ℕ) (was row : List ℕ) : Type 0 where
  pub seen : Through (λ us. Best a next n first us row) m left
  pub same : (q : ℕ) → n ≤ q → get_or row q 0 ≡ get_or was q 0

module _ (a : Net) (next : ℕ → ℕ) (n m : ℕ) where
  pub going_none : (row : List ℕ) → m < 2 ^ width → Going a next n true m m row row
  unfolding best
  going_none row h = record { seen = through_none (λ us. Best a next n true us row) m h (record { is = λ q l. omega arith }); same = λ q l. refl }

  pub going_more : {first : Bool} {left left' : ℕ} {was row row' : List ℕ} (new : List ℕ) → left' < 2 ^ width → choices width left ≡ choices width left' ++ new
      → Going a next n first m left was row → Lessens a next n first new row row' → Going a next n false m left' was row'
  going_more {first} {row = row} {row' = row'} new h e g r = record {
    seen = through_on (λ us. Best a next n first us row) (λ us. Best a next n false us row') new h e r.goes g.seen;
    same = λ q l. r.left q l ∙ g.same q l;
  }

  pub going_end : {first : Bool} {left : ℕ} {was row is us : List ℕ} (new : List ℕ) → choices width left ≡ new → Going a next n first m left was row → Lessens a next n first new row is
      → us ≡ choices width m → Filled (λ q. need (best a next q us)) n was is
  going_end {first} {row = row} {is = is} new e g r d =
      let b = through_last (λ us. Best a next n first us row) (λ us. Best a next n false us is) new e r.goes g.seen d in
      record { done = b.is; left = λ q l. r.left q l ∙ g.same q l }
