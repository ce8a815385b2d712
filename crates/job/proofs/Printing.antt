-- What is printed of a wrong sheet, and the kept lines, one after the other. Assumes nothing.
use mathlib.Core.Path.{◌≡◌, ap, sym, ◌∙◌}
use mathlib.Core.List.{List, [], ◌∷◌, ◌++◌, append-nil, append_assoc}
use Prim.Native.Nat.{ℕ, suc, ◌+◌, ◌≤◌, ◌<◌}
use native.Mathlib.Numerals.{add-one}
use native.Mathlib.Omega.{arith}
use borrow.Author.Tests.{ne_eqb}
use lib.ListN.{length, get_or, take}
use lib.Seq.{take-suc, length-take-le}
use Rattle.text.specs.Writing.{most_place, Wrote}
use Rattle.text.proofs.Putting.{wrote_append}
use Rattle.job.specs.Output.{sheet_line, range_line, wrong_text, kept_line, kept_lines}

-- of a wrong sheet, by its answer
module _ (a n : ℕ) where
  pub text_range : a ≡ 13 → range_line n ≡ wrong_text a n
  unfolding wrong_text
  text_range e = rw e

  pub text_sheet : (a ≡ 13 → ⊥) → sheet_line n ≡ wrong_text a n
  unfolding wrong_text
  text_sheet e = rw (ne_eqb a 13 e)

-- one place more
kept_snoc : (k : ℕ) (ms : List ℕ) (m : ℕ) → kept_lines k (ms ++ m ∷ []) ≡ kept_lines k ms ++ kept_line (k + length ms) m
unfolding kept_lines
kept_snoc k [] m = let e : k + 0 ≡ k = omega arith in append-nil (kept_line k m) ∙ ap (λ (i : ℕ). kept_line i m) (sym e)
kept_snoc k (x ∷ ms) m =
    let e : suc k + length ms ≡ k + suc (length ms) = omega arith in
    ap (λ (l : List ℕ). kept_line k x ++ l) (kept_snoc (suc k) ms m ∙ ap (λ (i : ℕ). kept_lines (suc k) ms ++ kept_line i m) e)
    ∙ sym (append_assoc (kept_line k x) (kept_lines (suc k) ms) (kept_line (k + suc (length ms)) m))

module _ (b : List ℕ) (fits : length b ≤ most_place) (ms : List ℕ) (i : ℕ) where
  pub masks_more : (c d : List ℕ) (p r : ℕ) → i < length ms → Wrote b 0 (kept_lines 0 (take i ms)) c p → Wrote c p (kept_line i (get_or ms i 0)) d r → Wrote b 0 (kept_lines 0 (take (i + 1) ms)) d r
  masks_more c d p r h u w =
      let e : kept_lines 0 (take (i + 1) ms) ≡ kept_lines 0 (take i ms) ++ kept_line i (get_or ms i 0) =
      ap (λ (k : ℕ). kept_lines 0 (take k ms)) (add-one i) ∙ (ap (kept_lines 0) (take-suc ms i 0 h) ∙ (kept_snoc 0 (take i ms) (get_or ms i 0)
      ∙ ap (λ (k : ℕ). kept_lines 0 (take i ms) ++ kept_line k (get_or ms i 0)) (length_taken))) in
      rw e (wrote_append b fits 0 (kept_lines 0 (take i ms)) (kept_line i (get_or ms i 0)) c d p r u w)
    where
      length_taken : 0 + length (take i ms) ≡ i
      length_taken = let l : length (take i ms) ≡ i = length-take-le i ms (omega arith) in omega arith
