-- Entries as rows of three numbers. Assumes nothing.
use mathlib.Core.Path.{◌≡◌, refl, sym, ap, ◌∙◌}
use mathlib.Core.Bool.{Bool, true, false}
use mathlib.Core.List.{List}
use Prim.Native.Nat.{ℕ, zero, suc, ◌+◌, ◌*◌, ◌≤◌, ◌<◌}
use native.Mathlib.Omega.{arith}
use native.Mathlib.Numerals.{add-one}
use native.Mathlib.Nat.{eq-or-lt_of_le}
use mathlib.Core.Logic.{⊎_elim}
use lib.ListN.{get_or}
use borrow.Author.Tests.{eq-eqb, ne_eqb}
use Rattle.rules.proofs.Checks.{both, not_so}
use Rattle.ledger.specs.Sessions.{Entry, decision, mark, is_mark, marks}
use Rattle.ledger.specs.Layout.{keep_kind, limit_kind, row_size}
use Rattle.ledger.specs.Memory.{row_right, rows_right, entry_of, entry_at, entries_at}
use Rattle.ledger.proofs.Numbers.{and_both}

-- the row at i
abbrev pub row_at : ℕ → ℕ → List ℕ → ℕ → Bool
row_at n v s i = row_right n v (get_or s (i * row_size) 0) (get_or s (i * row_size + 1) 0) (get_or s (i * row_size + 2) 0)

module _ (n v : ℕ) (s : List ℕ) where
  pub rows_none : rows_right n v 0 s ≡ true
  unfolding rows_right
  rows_none = refl

  pub rows_more : (i : ℕ) → rows_right n v i s ≡ true → row_at n v s i ≡ true → rows_right n v (i + 1) s ≡ true
  unfolding rows_right
  rows_more i e f = ap (λ (k : ℕ). rows_right n v k s) (add-one i) ∙ and_both (rows_right n v i s) (row_at n v s i) e f

  pub rows_at : (k i : ℕ) → i < k → rows_right n v k s ≡ true → row_at n v s i ≡ true
  unfolding rows_right
  rows_at zero i h e = absurd (omega arith)
  rows_at (suc k) i h e =
      ⊎_elim
      (λ (q : i ≡ k). ap (row_at n v s) q ∙ (both (rows_right n v k s) (row_at n v s k) e).1)
      (λ (l : i < k). rows_at k i l (both (rows_right n v k s) (row_at n v s k) e).0)
      (eq-or-lt_of_le {n = i} {m = k} (omega arith))

  pub rows_no : (k i : ℕ) → i < k → row_at n v s i ≡ false → false ≡ rows_right n v k s
  rows_no k i h e = sym (not_so (rows_right n v k s) (λ t. let z : true ≡ false = sym (rows_at k i h t) ∙ e in absurd (let w : ◌≡◌ {A = ℕ} 0 1 = cc in omega arith)))

-- marks
pub marks_more : (s : List ℕ) (i m w : ℕ) → m ≡ marks (entries_at i s) → ((p x : ℕ) → w ≡ is_mark (entry_of (get_or s (i * row_size) 0) p x)) → m + w ≡ marks (entries_at (i + 1) s)
unfolding marks entries_at entry_at
marks_more s i m w e f =
    let g : is_mark (entry_at s i) ≡ w = sym (f (get_or s (i * row_size + 1) 0) (get_or s (i * row_size + 2) 0)) in
    let a : marks (entries_at (suc i) s) ≡ is_mark (entry_at s i) + marks (entries_at i s) = refl in
    let b : marks (entries_at (i + 1) s) ≡ marks (entries_at (suc i) s) = ap (λ (k : ℕ). marks (entries_at k s)) (add-one i) in
    omega arith

module _ (k p x : ℕ) where
  pub mark_1 : k ≡ keep_kind → 0 ≡ is_mark (entry_of k p x)
  unfolding entry_of is_mark
  mark_1 e = rw (eq-eqb k keep_kind e)

  pub mark_2 : (k ≡ keep_kind → ⊥) → k ≡ limit_kind → 0 ≡ is_mark (entry_of k p x)
  unfolding entry_of is_mark
  mark_2 d e = rw (ne_eqb k keep_kind d, eq-eqb k limit_kind e)

  pub mark_3 : (k ≡ keep_kind → ⊥) → (k ≡ limit_kind → ⊥) → 1 ≡ is_mark (entry_of k p x)
  unfolding entry_of is_mark
  mark_3 d e = rw (ne_eqb k keep_kind d, ne_eqb k limit_kind e)

pub one_mark : (e : Entry) → is_mark e ≤ 1
unfolding is_mark
one_mark (decision d) = omega arith
one_mark mark = omega arith

-- no more marks than entries
pub marks_le : (k : ℕ) (s : List ℕ) → marks (entries_at k s) ≤ k
unfolding marks entries_at
marks_le zero s = omega arith
marks_le (suc k) s = let a = one_mark (entry_at s k) in let b = marks_le k s in omega arith
