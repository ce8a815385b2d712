-- The walk of a drawn roster, step by step, and that its steps are those of the longest prefix. Assumes nothing.
use mathlib.Core.Path.{◌≡◌, refl, sym, ◌∙◌}
use mathlib.Core.Bool.{Bool, true, false, cond}
use mathlib.Core.List.{List, [], ◌∷◌}
use Prim.Native.Nat.{ℕ, suc, ◌+◌, ◌-◌, ◌*◌, ◌≤◌, ◌<◌}
use native.Mathlib.Numerals.{add-one}
use native.Mathlib.Omega.{arith}
use lib.Dec.{ltb}
use lib.ListN.{length, get_or, drop, drop_of_length-le, length-drop}
use lib.Seq.{drop-cons}
use borrow.Author.Tests.{ltb-true, lt-ltb}
use Rattle.kinds.specs.Bits.{bit}
use Rattle.meaning.specs.Lists.{Filled}
use Rattle.meaning.specs.Meaning.{Rules, target}
use Rattle.meaning.specs.Prefixes.{accepted_words, longest}
use Rattle.meaning.proofs.Members.{Below}
use Rattle.meaning.proofs.Prefixes.{longest_step, longest_end}
use Rattle.rules.specs.Report.{values_right}
use Rattle.rules.specs.Inner.{finishing, steps}
use Rattle.rules.proofs.Checks.{both}
use Rattle.rules.proofs.Finishing.{finishing_bit}

-- each value of a right roster is below V
pub values_below : (v : ℕ) (w : List ℕ) → values_right v w ≡ true → Below v w
unfolding values_right
values_below v [] e = tt
values_below v (x ∷ w) e = let b = both (ltb x v) _ e in (ltb-true _ _ b.0, values_below v w b.1)

-- and a roster whose values are all below V is right
pub below_right : (v : ℕ) (w : List ℕ) → Below v w → values_right v w ≡ true
unfolding values_right
below_right v [] b = refl
below_right v (x ∷ w) b = rw (lt-ltb x v b.0) (below_right v w b.1)

module _ (vs : ℕ) (t layers : List ℕ) (q : ℕ) (w : List ℕ) (i : ℕ) where
  abbrev led : ℕ
  led = get_or t (q * vs + get_or w i 0) 0

  -- one step on
  step_on : (b : Bool) → i < length w → bit (get_or layers (length w - (i + 1)) 0) led ≡ b
      → i + steps vs t layers q (drop i w) ≡ i + cond b (suc (steps vs t layers led (drop (i + 1) w))) 0
  unfolding steps
  step_on b h e =
      let k : length (drop (suc i) w) ≡ length w - (i + 1) = length-drop (suc i) w ∙ omega arith in
      rw (drop-cons w i 0, k, e, add-one i)

  -- a step that is made
  pub steps_on : (to : ℕ) → i < length w → to ≡ led → bit (get_or layers (length w - (i + 1)) 0) to ≡ true
      → i + steps vs t layers q (drop i w) ≡ i + 1 + steps vs t layers to (drop (i + 1) w)
  steps_on to h e b = step_on true h (rw (← e) b) ∙ rw (← e) (omega arith)

  -- a step that leads nowhere
  pub steps_stop : i < length w → bit (get_or layers (length w - (i + 1)) 0) led ≡ false → i + steps vs t layers q (drop i w) ≡ i
  steps_stop h b = step_on false h b ∙ omega arith

  -- no step is left
  pub steps_end : length w ≤ i → i + steps vs t layers q (drop i w) ≡ i
  unfolding steps
  steps_end h = rw (drop_of_length-le w {i = i} h) (omega arith)

-- the steps made are those of the longest prefix
pub steps_longest : (r : Rules) {n : ℕ} {was layers : List ℕ} (q : ℕ) (w : List ℕ) → Filled (finishing r) n was layers → length w ≤ n → Below r.arcs.values w
    → steps r.arcs.values r.arcs.targets layers q w ≡ longest w (accepted_words r q (length w))
unfolding steps
steps_longest r q [] f h b = sym (longest_end (accepted_words r q 0))
steps_longest r q (v ∷ w) f h b =
    let to : ℕ = target r.arcs q v in
    rw (f.done (length w) (omega arith), finishing_bit r (length w) to, steps_longest r to w f (omega arith) b.1)
    (sym (longest_step r q v w b.0))
