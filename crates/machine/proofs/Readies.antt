-- The returns of `ready` and `renew`. Assumes nothing.
use mathlib.Core.Path.{◌≡◌, refl, sym, ap, ◌∙◌}
use mathlib.Core.Bool.{Bool, true, false, cond, ◌&&◌}
use mathlib.Core.List.{List, [], ◌∷◌, ◌++◌}
use Prim.Native.Nat.{ℕ}
use native.Mathlib.Omega.{arith}
use lib.ListN.{length, take, length-drop}
use Rattle.rules.specs.Checks.{Handed}
use Rattle.rules.specs.Answers.{check, decided, work_after, zeros}
use Rattle.rules.proofs.Checks.{Passed, size_of_lem, sizes_of}
use Rattle.ledger.specs.Readiness.{readiness, ready_of, Left, left, lent_checks, renew_checks, renewed_of, renewed_by}
use Rattle.ledger.specs.Layout.{shown_size}
use Rattle.ledger.specs.Memory.{held_in, held_right, same, shown_of, verdict_held, well_formed}
use Rattle.ledger.proofs.Checked.{through, refused_on, passed_on, lent_of_lem, memory_of}
use Rattle.machine.specs.Inner.{Compared, Filterable, lent_of}

-- two checks of one number are one
split : {A : Type 0} (b d : Bool) (x y : A) → cond (b && d) x y ≡ cond b (cond d x y) y
split true d x y = refl
split false d x y = refl

module _ (h : Handed) (m w w' : List ℕ) (a : ℕ) (e : readiness a w' ≡ lent_of h m w) where
  abbrev right : Bool
  right = held_right h.places h.rules.arcs.states h.rules.arcs.values h.start (held_in h.places m)

  abbrev shown : Bool
  shown = same (take (shown_size h.places) m) (shown_of (verdict_held h (held_in h.places m)))

  ready_by : ready_of h m w ≡ decided (renew_checks h m w ++ (check 12 shown ∷ [])) (λ n. readiness n (work_after n w)) (readiness 0 (zeros w))
  unfolding ready_of decided well_formed
  ready_by = rw (split right shown _ _)

  pub ready_refused : (a ≡ 0 → ⊥) → readiness a w' ≡ ready_of h m w
  unfolding lent_of
  ready_refused z = refused_on w w readiness _ _ (renew_checks h m w) (readiness a w') e z ∙ sym ready_by

  pub renew_refused : (a ≡ 0 → ⊥) → left a m w' ≡ renewed_of h m w
  unfolding lent_of renewed_of
  renew_refused z = refused_on w w (λ n u. left n m u) [] _ (renew_checks h m w) (readiness a w') e z

  module _ (z : a ≡ 0) where
    passed : Passed (renew_checks h m w) × (w' ≡ w)
    unfolding lent_of
    passed = passed_on w w (renew_checks h m w) (readiness a w') refl e z

    lent_passed : Passed (lent_checks h (length m) (length w))
    lent_passed = let p = passed.0 in (p.0, (p.1.0, (p.1.1.0, tt)))

    pub checked : Filterable h m w'
    checked =
        let s = sizes_of _ _ _ _ lent_passed.0 in record {
          lent = rw passed.1 (lent_of_lem h (length m) w lent_passed);
          held = record {
            some_places = s.some_places;
            few_places = s.few_places;
            few_values = (size_of_lem _ _ _ s.size).few_values;
            long = simp length-drop (omega (arith, memory_of h (length m) w lent_passed));
            right = passed.0.1.1.1.0;
          };
        }

    module _ (r : Bool) (u : List ℕ) (j : Compared h m w' r u) where
      ready_tail : ready_of h m w ≡ decided (check 12 r ∷ []) (λ n. readiness n (work_after n w)) (readiness 0 (zeros w))
      ready_tail =
          ready_by ∙ through (renew_checks h m w) (check 12 shown ∷ []) _ _ passed.0
          ∙ ap (λ (x : Bool). decided (check 12 x ∷ []) (λ n. readiness n (work_after n w)) (readiness 0 (zeros w))) (sym j.verdict)

      pub ready_shown : r ≡ false → readiness 12 u ≡ ready_of h m w
      unfolding decided
      ready_shown k = rw (ready_tail, k, j.work_after_lem, passed.1)

      pub ready_done : r ≡ true → readiness 0 u ≡ ready_of h m w
      unfolding decided
      ready_done k = rw (ready_tail, k, j.work_after_lem, passed.1)

    pub renew_done : (x : Left) → x ≡ renewed_by h (held_in h.places m) w' → x ≡ renewed_of h m w
    unfolding renewed_of decided
    renew_done x k =
        k ∙ ap (renewed_by h (held_in h.places m)) passed.1
        ∙ sym (through (renew_checks h m w) [] (λ n. left n m (work_after n w)) (renewed_by h (held_in h.places m) w) passed.0)
