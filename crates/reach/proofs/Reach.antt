-- The forward pass: the least costs at which looks lead to a state, and the values that they mark.
use mathlib.Core.Path.{◌≡◌, refl, sym, ap, ◌∙◌}
use mathlib.Core.Bool.{Bool, true, false, cond, ◌&&◌, ◌||◌, or_assoc}
use mathlib.Core.List.Memᴰ
use mathlib.Core.List.{List, [], ◌∷◌, ◌++◌}
use mathlib.Core.List.Memᴰ.{head}
use mathlib.Core.List.Memᴰ.{tail}
use mathlib.Core.List.{Memᴰ as In}
use Prim.Native.Nat.{ℕ, ◌≤◌, ◌<◌, min}
use native.Mathlib.Omega.{arith}
use native.Mathlib.Decide.{dec_le}
use lib.Dec.{eqb}
use borrow.Author.Tests.{eqb-true, eq-eqb}
use Rattle.meaning.proofs.Lists.{each_in, in_each}
use Rattle.rooms.specs.Tables.{down, Net}
use Rattle.reach.specs.Looks.{Look, look, along, looks, spends, leads, lands, reach, marks}
use Rattle.rooms.proofs.Rooms.{down_in, in_down}

pub looks_in : (qs : ℕ) (vs : List ℕ) {x : Look} → In x (looks qs vs) → (x.state < qs) × In x.value vs
looks_in qs vs {x} m =
    let e = each_in (along qs) vs m in
    let k = Memᴰ.of_map (λ q. look q e.0) (down qs) e.2 in
    (rw (ap (λ (y : Look). y.state) k.2) at (down_in qs k.1), rw (ap (λ (y : Look). y.value) k.2) at e.1)

pub in_looks : {qs : ℕ} {vs : List ℕ} {q v : ℕ} → q < qs → In v vs → In (look q v) (looks qs vs)
in_looks {qs} {vs} {q} {v} h k = in_each (along qs) k (Memᴰ.map (λ q. look q v) (in_down qs q h))

-- a look that leads to t at the least cost
pub record Leads (a : Net) (front : ℕ → ℕ) (most t : ℕ) (xs : List Look) : Type 0 where
  pub by : Look
  pub among : In by xs
  pub on : leads a by ≡ t
  pub costs : reach a front most t xs ≡ spends a front by

module _ (a : Net) (front : ℕ → ℕ) (most : ℕ) where
  pub reach_low : (t : ℕ) (xs : List Look) → reach a front most t xs ≤ most
  unfolding reach
  reach_low t [] = omega arith
  reach_low t (x ∷ xs) = go (eqb (leads a x) t) (reach_low t xs)
    where
      go : (b : Bool) → reach a front most t xs ≤ most → cond b (min (spends a front x) (reach a front most t xs)) (reach a front most t xs) ≤ most
      go true h = omega arith
      go false h = h

  pub reach_most : {x : Look} {xs : List Look} → In x xs → reach a front most (leads a x) xs ≤ spends a front x
  unfolding reach
  reach_most {x} (head {x = y} {xs} e) = rw (← e, eq-eqb (leads a x) (leads a x) refl) (omega arith)
  reach_most {x} (tail {x = y} {xs} m) = go (eqb (leads a y) (leads a x)) (reach_most m)
    where
      go : (b : Bool) → reach a front most (leads a x) xs ≤ spends a front x
          → cond b (min (spends a front y) (reach a front most (leads a x) xs)) (reach a front most (leads a x) xs) ≤ spends a front x
      go true h = omega arith
      go false h = h

  pub reach_some : (t : ℕ) (xs : List Look) → reach a front most t xs < most → Leads a front most t xs
  unfolding reach
  reach_some t [] h = absurd (omega arith)
  reach_some t (x ∷ xs) h = go (eqb (leads a x) t) refl h (λ k. reach_some t xs k)
    where
      later : reach a front most t (x ∷ xs) ≡ reach a front most t xs → Leads a front most t xs → Leads a front most t (x ∷ xs)
      later e l = record { by = l.by; among = tail l.among; on = l.on; costs = e ∙ l.costs }

      go : (b : Bool) → eqb (leads a x) t ≡ b
          → cond b (min (spends a front x) (reach a front most t xs)) (reach a front most t xs) < most
          → (reach a front most t xs < most → Leads a front most t xs) → Leads a front most t (x ∷ xs)
      go true e h rec = here (dec_le (spends a front x) (reach a front most t xs))
        where
          here : Dec (spends a front x ≤ reach a front most t xs) → Leads a front most t (x ∷ xs)
          here (yes k) = record { by = x; among = head refl; on = eqb-true _ _ e; costs = rw e (omega arith) }
          here (no k) = later (rw e (omega arith)) (rec (omega arith))
      go false e h rec = later (rw e) (rec h)

  pub reach_join : (t : ℕ) (xs ys : List Look) → reach a front most t (xs ++ ys) ≡ reach a front (reach a front most t ys) t xs
  unfolding reach
  reach_join t [] ys = refl
  reach_join t (x ∷ xs) ys = rw (reach_join t xs ys)

pub marks_join : (a : Net) (next front : ℕ → ℕ) (v : ℕ) (xs ys : List Look)
    → marks a next front v (xs ++ ys) ≡ (marks a next front v xs || marks a next front v ys)
unfolding marks
marks_join a next front v [] ys = refl
marks_join a next front v (x ∷ xs) ys = rw (marks_join a next front v xs ys) (sym (or_assoc (lands a next front x && eqb v x.value) _ _))
