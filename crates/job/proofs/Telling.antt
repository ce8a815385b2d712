-- A mended roster, printed: the change lines and the values, one after the other. Assumes nothing.
use mathlib.Core.Path.{◌≡◌, ap, ap₂, sym, ◌∙◌}
use mathlib.Core.Bool.{cond}
use mathlib.Core.List.{List, [], ◌∷◌, ◌++◌, append-nil, append_assoc}
use Prim.Native.Nat.{ℕ, suc, ◌+◌, ◌<◌}
use native.Mathlib.Numerals.{add-one}
use native.Mathlib.Omega.{arith}
use lib.Dec.{eqb}
use lib.ListN.{length, get_or, take}
use lib.Seq.{take-suc, length-take-le}
use borrow.Author.Tests.{eq-eqb, ne_eqb}
use Rattle.meaning.specs.Lists.{each}
use Rattle.meaning.proofs.Lists.{each_append}
use Rattle.job.specs.Mend.{change_line, change_lines}

-- a place that does not change, and one that does
module _ (i d v : ℕ) where
  pub change_none : v ≡ d → [] ≡ cond (eqb v d) [] (change_line i d v)
  change_none h = rw (eq-eqb v d h)

  pub change_some : (v ≡ d → ⊥) → change_line i d v ≡ cond (eqb v d) [] (change_line i d v)
  change_some h = rw (ne_eqb v d h)

-- one place more
change_snoc : (k : ℕ) (ds ws : List ℕ) (d v : ℕ) → length ds ≡ length ws
    → change_lines k (ds ++ d ∷ []) (ws ++ v ∷ []) ≡ change_lines k ds ws ++ cond (eqb v d) [] (change_line (k + length ds) d v)
unfolding change_lines
change_snoc k [] [] d v h = let e : k + 0 ≡ k = omega arith in append-nil (cond (eqb v d) [] (change_line k d v)) ∙ ap (λ (i : ℕ). cond (eqb v d) [] (change_line i d v)) (sym e)
change_snoc k [] (y ∷ ws) d v h = absurd (omega arith)
change_snoc k (x ∷ ds) [] d v h = absurd (omega arith)
change_snoc k (x ∷ ds) (y ∷ ws) d v h =
    let e : suc k + length ds ≡ k + suc (length ds) = omega arith in
    ap (λ (l : List ℕ). cond (eqb y x) [] (change_line k x y) ++ l) (change_snoc (suc k) ds ws d v (omega arith) ∙ ap (λ (i : ℕ). change_lines (suc k) ds ws ++ cond (eqb v d) [] (change_line i d v)) e)
    ∙ sym (append_assoc (cond (eqb y x) [] (change_line k x y)) (change_lines (suc k) ds ws) (cond (eqb v d) [] (change_line (k + suc (length ds)) d v)))

pub change_more : (ds ws : List ℕ) (i : ℕ) → length ds ≡ length ws → i < length ds
    → change_lines 0 (take i ds) (take i ws) ++ cond (eqb (get_or ws i 0) (get_or ds i 0)) [] (change_line i (get_or ds i 0) (get_or ws i 0)) ≡ change_lines 0 (take (i + 1) ds) (take (i + 1) ws)
change_more ds ws i e h =
    let a : length (take i ds) ≡ i = length-take-le i ds (omega arith) in
    let b : length (take i ws) ≡ i = length-take-le i ws (omega arith) in
    let z : 0 + length (take i ds) ≡ i = omega arith in
    sym (ap (λ (k : ℕ). change_lines 0 (take k ds) (take k ws)) (add-one i)
    ∙ (ap₂ (λ (x y : List ℕ). change_lines 0 x y) (take-suc ds i 0 h) (take-suc ws i 0 (omega arith))
    ∙ (change_snoc 0 (take i ds) (take i ws) (get_or ds i 0) (get_or ws i 0) (a ∙ sym b)
    ∙ ap (λ (k : ℕ). change_lines 0 (take i ds) (take i ws) ++ cond (eqb (get_or ws i 0) (get_or ds i 0)) [] (change_line k (get_or ds i 0) (get_or ws i 0))) z)))

pub each_more : (f : ℕ → List ℕ) (ws : List ℕ) (i : ℕ) → i < length ws → each f (take i ws) ++ f (get_or ws i 0) ≡ each f (take (i + 1) ws)
each_more f ws i h =
    sym (ap (λ (k : ℕ). each f (take k ws)) (add-one i) ∙ (ap (each f) (take-suc ws i 0 h) ∙ (each_append f (take i ws) (get_or ws i 0 ∷ []) ∙ ap (λ (l : List ℕ). each f (take i ws) ++ l) (append-nil (f (get_or ws i 0))))))
