-- The two passes together.
use mathlib.Core.Path.{◌≡◌, refl, sym, ◌∙◌}
use mathlib.Core.Bool.{Bool, false, false≢true}
use Rattle.std.proofs.Common.{Option, None}
use mathlib.Core.List.{List}
use Prim.Native.Nat.{ℕ, ◌≤◌, ◌<◌}
use native.Mathlib.Omega.{arith}
use lib.Dec.{eqb}
use lib.ListN.{length, get_or}
use borrow.Author.Tests.{eq-eqb, eqb-true}
use Rattle.meaning.specs.Meaning.{arcs_of, rules_of, places, rosters}
use Rattle.meaning.specs.Bounds.{most_states, table_size, top}
use Rattle.rules.specs.Answers.{zeros}
use Rattle.ranks.specs.Rows.{no_arc, cost_in, out, Turns}
use Rattle.ranks.proofs.Least.{out_cheap}
use Rattle.rooms.specs.Tables.{turned, Sizes, Prepared}
use Rattle.reach.specs.Looks.{LowRows, Arrives, Vacant, Meant, Tells}
use Rattle.reach.specs.Whole.{Filters, Finds, Order, FilterRuns, FirstRuns}

-- what the backward pass leaves, as the passes after it ask for it
pub ready_prepared : {qs vs accepting : ℕ} {t c ms ls to fee arcs work to' fee' arcs' work' : List ℕ} → Prepared qs vs t c accepting ms ls to fee arcs work to' fee' arcs' work' → LowRows qs (length ms) work'
ready_prepared p = record { low = λ j k h l. omega (arith, p.rooms.right j k (omega arith) h l) }

-- the rows of arcs turned round, if there is a table for them
pub ready_turned : {qs vs accepting : ℕ} {t c ms ls ts cs arcs work to fee arcs' mid rests into rests' into' : List ℕ} → Sizes qs vs t c ms ls work → ((k : ℕ) → get_or c k 0 < 65536)
    → Prepared qs vs t c accepting ms ls ts cs arcs work to fee arcs' mid → length arcs ≡ length into → length arcs' ≡ length arcs → Vacant into → length rests ≡ most_states
    → ((k : ℕ) → k < most_states → get_or rests k 0 ≡ cost_in no_arc) → length into' ≡ length into → Turns qs arcs' rests into rests' into'
    → length into' ≡ table_size → Arrives (turned to fee) qs vs rests' into'
ready_turned {qs} {vs} {t = t} {c} {into = into} s cheap p a b v r none l y e = record {
  of = arcs_of qs vs t c;
  states = refl;
  values = refl;
  same = p.turns;
  ranked = y.right (out (arcs_of qs vs t c)) s.few_states_lem (b ∙ (a ∙ long)) r long (v.none long) none (λ q d u h k j. out_cheap (arcs_of qs vs t c) q d u cheap j) (p.ranks (a ∙ long));
  few = λ u h. omega (arith, y.fall u, none u (omega (arith, s.few_states_lem)));
}
  where
    long : length into ≡ table_size
    long = sym l ∙ e

pub filters_is : {qs vs start spent accepting : ℕ} {least : Option ℕ} {t c ms ls ts cs arcs to fee arcs' work mid is out : List ℕ} → length ls ≡ length ms
    → Prepared qs vs t c accepting ms ls ts cs arcs work to fee arcs' mid → Tells (turned to fee) qs vs start spent ms mid out least
    → length mid ≡ length work → is ≡ zeros mid
    → Filters (rules_of qs vs t c accepting) start spent (places ms ls) work is out least
filters_is {qs} {vs} {accepting = accepting} {t = t} {c} {ms} {ls} {to} {fee} {mid = mid} e p y h k =
    let m : Meant (turned to fee) qs vs ms mid t c ls accepting = record { limits = e; arcs = p.turns; rooms = p.rooms } in
    record { most = y.most; right = y.right t c ls accepting m; cleared = k ∙ rw h }

-- what is lent is in order, or not
pub order_not : {qs start spent count out : ℕ} → (start < qs → spent ≤ top → ⊥) → Order qs start spent count out false
order_not h = record { right = λ e. absurd (false≢true e); wrong = λ e a b d. h a b }

pub order_last : {qs start spent count out : ℕ} → start < qs → spent ≤ top → Order qs start spent count out (eqb out count)
order_last h k = record { right = λ e. (h, k, eqb-true _ _ e); wrong = λ e a b d. false≢true (sym e ∙ eq-eqb _ _ d) }

-- a whole pass that stays, and one that is made
pub filter_runs_not : {qs vs accepting start spent : ℕ} {t c ms ls kept work is : List ℕ} → is ≡ work
    → (Sizes qs vs t c ms ls work → start < qs → spent ≤ top → length kept ≡ length ms → ⊥) → FilterRuns qs vs t c accepting start spent ms ls kept work kept is None
filter_runs_not e h = record { right = λ s a b d. absurd (h s a b d); wrong = λ k. (refl, refl, e) }

pub filter_runs_is : {qs vs accepting start spent : ℕ} {least : Option ℕ} {t c ms ls kept work out is : List ℕ} → Sizes qs vs t c ms ls work → (start < qs) × (spent ≤ top) × (length kept ≡ length ms)
    → Filters (rules_of qs vs t c accepting) start spent (places ms ls) work is out least → FilterRuns qs vs t c accepting start spent ms ls kept work out is least
filter_runs_is s o f = record { right = λ x a b d. f; wrong = λ h. absurd (h s o.0 o.1 o.2) }

pub first_runs_not : {qs vs accepting start spent i v : ℕ} {t c ms ls roster work is : List ℕ} → is ≡ work
    → (Sizes qs vs t c ms ls work → start < qs → spent ≤ top → length roster ≡ length ms → i < length ms → ⊥) → FirstRuns qs vs t c accepting start spent ms ls i v roster work roster is false
first_runs_not e h = record { right = λ s a b d k. absurd (h s a b d k); wrong = λ k. (refl, refl, e) }

pub first_runs_is : {qs vs accepting start spent i v : ℕ} {t c ms ls roster work out is : List ℕ} {found : Bool} → Sizes qs vs t c ms ls work
    → (start < qs) × (spent ≤ top) × (length roster ≡ length ms) → i < length ms → Finds (rosters (rules_of qs vs t c accepting) start spent (places ms ls)) i v roster out work is found
    → FirstRuns qs vs t c accepting start spent ms ls i v roster work out is found
first_runs_is s o k f = record { right = λ x a b d e. f; wrong = λ h. absurd (h s o.0 o.1 o.2 k) }
