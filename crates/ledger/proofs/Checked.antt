-- What passed checks say, and how a call goes by a list of checks that another has made. Assumes nothing.
use mathlib.Core.Path.{◌≡◌, refl, sym, ap, ◌∙◌}
use mathlib.Core.Bool.{true, false, ◌&&◌}
use mathlib.Core.List.{List, [], ◌∷◌, ◌++◌}
use Prim.Native.Nat.{ℕ}
use lib.Dec.{eqb}
use lib.ListN.{length}
use borrow.Author.Tests.{eqb-true}
use Rattle.meaning.specs.Bounds.{work_size}
use Rattle.rules.specs.Checks.{Handed, tables_long}
use Rattle.rules.specs.Answers.{Check, check, decided, work_after}
use Rattle.rules.proofs.Checks.{both, Passed, all_passed, others, answered}
use Rattle.ledger.specs.Readiness.{Ready, readiness, lent_checks, Lent}
use Rattle.ledger.specs.Sessions.{Opening}
use Rattle.ledger.specs.Calls.{open_long}
use Rattle.ledger.specs.Layout.{memory_size}

-- checks that are passed leave the rest to decide
pub through : {A : Type 0} (ks ls : List Check) (refuse : ℕ → A) (done : A) → Passed ks → decided (ks ++ ls) refuse done ≡ decided ls refuse done
unfolding decided
through [] ls refuse done p = refl
through (check n ok ∷ ks) ls refuse done p = rw p.0 (through ks ls refuse done p.1)

module _ (w w₀ : List ℕ) where
  -- a refusal stays one where further checks follow
  pub refused_on : {A : Type 0} (f : ℕ → List ℕ → A) (ls : List Check) (done : A) (ks : List Check) (x : Ready)
      → x ≡ decided ks (λ n. readiness n (work_after n w)) (readiness 0 w₀) → (x.answer ≡ 0 → ⊥)
      → f x.answer x.work ≡ decided (ks ++ ls) (λ n. f n (work_after n w)) done
  unfolding decided
  refused_on f ls done [] x e h = absurd (h (ap (λ (y : Ready). y.answer) e))
  refused_on f ls done (check n true ∷ ks) x e h = refused_on f ls done ks x e h
  refused_on f ls done (check n false ∷ ks) x e h = ap (λ (y : Ready). f y.answer y.work) e

  -- answer 0 says that all are passed
  pub passed_on : (ks : List Check) (x : Ready) → others 0 ks ≡ true
      → x ≡ decided ks (λ n. readiness n (work_after n w)) (readiness 0 w₀) → x.answer ≡ 0 → Passed ks × (x.work ≡ w₀)
  passed_on ks x o e h =
      let p = answered (λ (y : Ready). y.answer) (λ n. readiness n (work_after n w)) (readiness 0 w₀) (λ n. refl) 0 ks o (sym (ap (λ (y : Ready). y.answer) e) ∙ h) in
      (p, ap (λ (y : Ready). y.work) (e ∙ all_passed (λ n. readiness n (work_after n w)) (readiness 0 w₀) ks p))

-- what the checks 1, 2 and 3 say
module _ (h : Handed) (m : ℕ) (w : List ℕ) (p : Passed (lent_checks h m (length w))) where
  pub lent_of_lem : Lent h w
  lent_of_lem =
      let a = both (tables_long h.rules.arcs.targets h.rules.arcs.costs) _ p.1.0 in
      record {
        sized = p.0;
        tabled = a.0;
        ruled = p.1.1.0;
        worked = eqb-true _ _ (both (eqb m (memory_size h.places)) _ a.1).1;
      }

  pub memory_of : m ≡ memory_size h.places
  memory_of = eqb-true _ _ (both (eqb m (memory_size h.places)) _ (both (tables_long h.rules.arcs.targets h.rules.arcs.costs) _ p.1.0).1).0

-- what check 2 of an opening says: the lengths one by one
pub record OpenLengths (n : ℕ) (t c : List ℕ) (o : Opening) (m w : ℕ) : Type 0 where
  pub tabled : tables_long t c ≡ true
  pub memory_is : m ≡ memory_size n
  pub work_is : w ≡ work_size n
  pub masks_are : length o.masks ≡ n
  pub limits_are : length o.limits ≡ n

module _ (n : ℕ) (t c : List ℕ) (o : Opening) (m w : ℕ) where
  pub lengths_of : (tables_long t c && open_long n o m w) ≡ true → OpenLengths n t c o m w
  unfolding open_long
  lengths_of e =
      let a = both (tables_long t c) _ e in
      let b = both (eqb m (memory_size n)) _ a.1 in
      let d = both (eqb w (work_size n)) _ b.1 in
      let f = both (eqb (length o.masks) n) _ d.1 in
      record {
        tabled = a.0;
        memory_is = eqb-true _ _ b.0;
        work_is = eqb-true _ _ d.0;
        masks_are = eqb-true _ _ f.0;
        limits_are = eqb-true _ _ f.1;
      }
