-- What is held at an opening. Assumes nothing.
use mathlib.Core.Path.{◌≡◌, refl, sym, ap, ap₂, ◌∙◌}
use mathlib.Core.List.{List, [], ◌∷◌, ◌++◌, append-nil}
use Prim.Native.Nat.{ℕ, ◌+◌, ◌-◌}
use native.Mathlib.Omega.{arith}
use lib.ListN.{length, drop, take, set, replicate, length-append, length-replicate, length-take, length-drop, replicate-append-replicate, drop_of_length-le}
use lib.Seq.{take_at, length-take-le}
use Rattle.rules.specs.Answers.{zeros}
use Rattle.ledger.specs.Sessions.{Opening, marks, decisions}
use Rattle.ledger.specs.Layout.{rows_size, head_size, spare_size, opening_place, held_size}
use Rattle.ledger.specs.Memory.{held_of, rows}
use Rattle.machine.specs.Copied.{copied}
use Rattle.machine.proofs.Copies.{copied_is}

-- two copies, one behind the other
module _ (n : ℕ) (ms ls s y : List ℕ) (a : length ms ≡ n) (b : length ls ≡ n) (c : length s ≡ n + n) (e : y ≡ copied (take n s) ms) where
  front_is : y ≡ ms
  front_is = e ∙ copied_is (take n s) ms (length-take-le n s (omega arith) ∙ sym a)

  pub store_is : (z : List ℕ) → z ≡ copied (take (length (y ++ drop n s) - n) (drop n (y ++ drop n s))) ls
      → take n (y ++ drop n s) ++ (z ++ drop (length (y ++ drop n s) - n) (drop n (y ++ drop n s))) ≡ ms ++ ls
  store_is z f =
      let g : length (y ++ drop n s) ≡ n + n = length-append y (drop n s) ∙ ap₂ ◌+◌ (ap length front_is ∙ a) (length-drop n s) ∙ omega arith in
      ap₂ (λ (u w : List ℕ). u ++ w) (take_at y (drop n s) n (ap length front_is ∙ a) ∙ front_is)
      (ap₂ (λ (u w : List ℕ). u ++ w) (f ∙ copied_is _ ls (simp (length-take, length-drop) (omega arith)))
      (drop_of_length-le (drop n (y ++ drop n s)) {i = length (y ++ drop n s) - n} (simp length-drop (omega arith))) ∙ append-nil ls)

head_set : (z t : List ℕ) (n q v start : ℕ)
    → set (set (set (set ((replicate head_size 0 ++ z) ++ t) 0 n) 1 q) 2 v) 3 start ≡ n ∷ q ∷ v ∷ start ∷ 0 ∷ 0 ∷ (replicate spare_size 0 ++ (z ++ t))
head_set z t n q v start = refl

zeros_front : (k : ℕ) → take {A = ℕ} opening_place (replicate (opening_place + k) 0) ≡ replicate head_size 0 ++ replicate rows_size 0
zeros_front k =
    ap (take opening_place) (sym (replicate-append-replicate opening_place k 0))
    ∙ take_at (replicate opening_place 0) (replicate k 0) opening_place (length-replicate {A = ℕ} opening_place 0)
    ∙ sym (replicate-append-replicate head_size rows_size 0)

pub begin_is : (n q v start : ℕ) (o : Opening) (l h y : List ℕ) → length l ≡ held_size n → h ≡ zeros l → y ≡ o.masks ++ o.limits
    → set (set (set (set (take opening_place h ++ (y ++ drop (length h - opening_place) (drop opening_place h))) 0 n) 1 q) 2 v) 3 start ≡ held_of n q v start o []
unfolding held_of rows decisions marks
begin_is n q v start o l h y d e f =
    let g : take opening_place h ≡ replicate head_size 0 ++ replicate rows_size 0 = ap (take opening_place) (e ∙ ap (λ (k : ℕ). replicate k 0) d) ∙ zeros_front (n + n) in
    let k : y ++ drop (length h - opening_place) (drop opening_place h) ≡ o.masks ++ o.limits =
    ap (λ (t : List ℕ). y ++ t) (drop_of_length-le (drop opening_place h) {i = length h - opening_place} (simp length-drop (omega arith))) ∙ append-nil y ∙ f in
    ap₂ (λ (a b : List ℕ). set (set (set (set (a ++ b) 0 n) 1 q) 2 v) 3 start) g k
    ∙ head_set (replicate rows_size 0) (o.masks ++ o.limits) n q v start
