-- The tests of what is held, one law for each step of the code. Assumes nothing.
use mathlib.Core.Path.{◌≡◌, sym, ap₂, ◌∙◌}
use mathlib.Core.Bool.{Bool, true}
use mathlib.Core.List.{List}
use Prim.Native.Nat.{ℕ, ◌+◌, ◌-◌, ◌*◌, ◌^◌, ◌≤◌, ◌<◌, min}
use native.Mathlib.Omega.{arith}
use lib.ListN.{get_or, drop, take}
use lib.Dec.{ltb}
use lib.Pow.{pow_mono}
use borrow.Author.Tests.{eq-eqb, ne_eqb, ltb-true}
use Rattle.kinds.specs.Bits.{width}
use Rattle.meaning.specs.Bounds.{most_values}
use Rattle.rules.proofs.Checks.{both}
use Rattle.ledger.specs.Layout.{row_size, rows_size, head_size, opening_place}
use Rattle.ledger.specs.Memory.{all_below, row_right, rows_right, head_right, room_right, held_right, rows_of}
use Rattle.ledger.proofs.Numbers.{masks_below}
use Rattle.ledger.proofs.Entries.{rows_at}
use Rattle.machine.specs.Inner.{RowSafe, RowsSafe}

-- the bound of a mask of values that it has room for
pub few_bound : (v : ℕ) → v ≤ most_values → 2 ^ min v width ≡ 2 ^ v
few_bound v h = let e : min v width ≡ v = omega arith in rw e

module _ (n q v start : ℕ) (l : List ℕ) where
  pub held_3 : v ≤ most_values → head_right n q v start l ≡ true → room_right n v (get_or l 4 0) (get_or l 5 0) (take rows_size (drop head_size l)) ≡ true
      → (t : ℕ) → t ≡ 2 ^ min v width → (b : Bool) → b ≡ all_below t (take (opening_place + n - opening_place) (drop opening_place l)) → b ≡ held_right n q v start l
  unfolding held_right rows_of
  held_3 h e f t i b g =
      let z : opening_place + n - opening_place ≡ n = omega arith in
      g ∙ ap₂ (λ (t j : ℕ). all_below t (take j (drop opening_place l))) (i ∙ few_bound v h) z
      ∙ sym (masks_below v (take n (drop opening_place l))) ∙ rw (e, f)

-- one row
module _ (n v k p x : ℕ) where
  pub row_safe : v ≤ most_values → row_right n v k p x ≡ true → RowSafe k p x n n
  unfolding row_right
  row_safe h e = record {
    keep_there = λ q. ltb-true p n (both (ltb p n) (ltb x (2 ^ v)) (simp (eq-eqb k 1 q) at e)).0;
    keep_narrow = λ q. let a : x < 2 ^ v = ltb-true x (2 ^ v) (both (ltb p n) (ltb x (2 ^ v)) (simp (eq-eqb k 1 q) at e)).1 in
        let b : 2 ^ v ≤ 65536 = pow_mono h in omega arith;
    limit_there = λ q. ltb-true p n (simp (ne_eqb k 1 (λ z. omega arith), eq-eqb k 2 q) at e);
  }

pub rows_safe : (n v k : ℕ) (s : List ℕ) → v ≤ most_values → rows_right n v k s ≡ true → RowsSafe k s n n
rows_safe n v k s h e = record { at = λ i l. row_safe n v (get_or s (i * row_size) 0) (get_or s (i * row_size + 1) 0) (get_or s (i * row_size + 2) 0) h (rows_at n v s k i l e) }
