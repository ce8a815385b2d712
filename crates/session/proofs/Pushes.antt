-- One more entry in what is held. Assumes nothing.
use mathlib.Core.Path.{◌≡◌, refl, sym, ap, ◌∙◌}
use mathlib.Core.Bool.{true}
use mathlib.Core.List.{List, [], ◌∷◌, ◌++◌, append_assoc}
use Prim.Native.Nat.{ℕ, suc, ◌+◌, ◌-◌, ◌*◌, ◌≤◌, ◌<◌}
use native.Mathlib.Omega.{arith}
use lib.ListN.{length, get_or, set, replicate}
use Rattle.ledger.specs.Sessions.{Opening, Entry, is_mark, marks, is_decision, decisions}
use Rattle.ledger.proofs.Bounds.{entry_right, entries_right, WithinBounds}
use Rattle.ledger.specs.Layout.{most_decisions, most_marks, most_entries, row_size, rows_size, head_size, spare_size}
use Rattle.ledger.specs.Memory.{row_right, count_of, entry_of, entries_of, opening_of, held_of, rows, kind_of, place_of, amount_of, Held}
use Rattle.ledger.proofs.Numbers.{and_both}
use Rattle.ledger.proofs.Image.{one_each, count_all, rows_length, row_back, entry_row, reads_back, reads_within}
use Rattle.session.specs.Inner.{pushed}

-- room for one more entry
pub record Addable (n q v start k p x : ℕ) (l : List ℕ) : Type 0 where
  pub held : Held n q v start l
  pub row : row_right n v k p x ≡ true
  pub few : decisions (entry_of k p x ∷ entries_of l) ≤ most_decisions
  pub open_few : marks (entry_of k p x ∷ entries_of l) ≤ most_marks

pub pushed_is : (k p x s : ℕ) (l : List ℕ) → ((p x : ℕ) → s ≡ is_mark (entry_of k p x))
    → set (set (set (set (set l (head_size + (get_or l 4 0 + get_or l 5 0) * row_size) k) (head_size + (get_or l 4 0 + get_or l 5 0) * row_size + 1) p)
    (head_size + (get_or l 4 0 + get_or l 5 0) * row_size + 2) x) 4 (get_or l 4 0 + (1 - s))) 5 (get_or l 5 0 + s) ≡ pushed k p x l
unfolding pushed count_of
pushed_is k p x s l f = rw (f p x)

-- three stores behind a prefix
set_three' : (p t : List ℕ) (a b c x y z : ℕ)
    → set (set (set (p ++ (a ∷ b ∷ c ∷ t)) (length p) x) (suc (length p)) y) (suc (suc (length p))) z ≡ p ++ (x ∷ y ∷ z ∷ t)
set_three' [] t a b c x y z = refl
set_three' (q ∷ p) t a b c x y z = ap (λ (l : List ℕ). q ∷ l) (set_three' p t a b c x y z)

set_three : (p t : List ℕ) (a b c x y z i : ℕ) → length p ≡ i
    → set (set (set (p ++ (a ∷ b ∷ c ∷ t)) i x) (i + 1) y) (i + 2) z ≡ p ++ (x ∷ y ∷ z ∷ t)
set_three p t a b c x y z i e =
    let f : i + 1 ≡ suc (length p) = omega arith in
    let g : i + 2 ≡ suc (suc (length p)) = omega arith in
    rw (f, g, ← e) (set_three' p t a b c x y z)

-- the room that is left
pad_three : (k : ℕ) (m : List ℕ) → k < most_entries
    → replicate (rows_size - k * row_size) 0 ++ m ≡ 0 ∷ 0 ∷ 0 ∷ (replicate (rows_size - suc k * row_size) 0 ++ m)
pad_three k m h =
    let z : rows_size - k * row_size ≡ suc (suc (suc (rows_size - suc k * row_size))) = omega arith in ap (λ (j : ℕ). replicate j 0 ++ m) z

module _ (n q v start : ℕ) (o : Opening) (es : List Entry) where
  -- all before the room that is left, with the counts d and m
  front : ℕ → ℕ → List ℕ
  front d m = n ∷ q ∷ v ∷ start ∷ d ∷ m ∷ (replicate spare_size 0 ++ rows es)

  front_long : (d m : ℕ) → length (front d m) ≡ head_size + length es * row_size
  unfolding front
  front_long d m = let a = rows_length es in omega arith

  three_stored : (e : Entry) → length es < most_entries → (i d m : ℕ) → i ≡ head_size + length es * row_size
      → set (set (set (set (set (held_of n q v start o es) i (kind_of e)) (i + 1) (place_of e)) (i + 2) (amount_of e)) 4 d) 5 m
      ≡ n ∷ q ∷ v ∷ start ∷ d ∷ m ∷ (replicate spare_size 0 ++ (rows (e ∷ es) ++ (replicate (rows_size - suc (length es) * row_size) 0 ++ (o.masks ++ o.limits))))
  unfolding held_of rows front
  three_stored e h i d m z =
      let t : List ℕ = o.masks ++ o.limits in
      let u : List ℕ = front (decisions es) (marks es) in
      ap (λ (s : List ℕ). set (set (set (set (set (u ++ s) i (kind_of e)) (i + 1) (place_of e)) (i + 2) (amount_of e)) 4 d) 5 m) (pad_three (length es) t h)
      ∙ ap (λ (s : List ℕ). set (set s 4 d) 5 m)
      (set_three u (replicate (rows_size - suc (length es) * row_size) 0 ++ t) 0 0 0 (kind_of e) (place_of e) (amount_of e) i (front_long (decisions es) (marks es) ∙ sym z))
      ∙ ap (λ (s : List ℕ). n ∷ q ∷ v ∷ start ∷ d ∷ m ∷ (replicate spare_size 0 ++ s))
      (sym (append_assoc (rows es) (kind_of e ∷ place_of e ∷ amount_of e ∷ []) (replicate (rows_size - suc (length es) * row_size) 0 ++ t)))

-- the counts that are held
pub held_counts : (n q v start : ℕ) (l : List ℕ) → Held n q v start l → (get_or l 4 0 ≡ decisions (entries_of l)) × (get_or l 5 0 ≡ marks (entries_of l))
unfolding held_of
held_counts n q v start l h =
    let b = reads_back n q v start l h in (ap (λ (t : List ℕ). get_or t 4 0) b, ap (λ (t : List ℕ). get_or t 5 0) b)

moved : (i k k' p p' x x' d d' m m' : ℕ) (l l' : List ℕ) → k ≡ k' → p ≡ p' → x ≡ x' → d ≡ d' → m ≡ m' → l ≡ l'
    → set (set (set (set (set l i k) (i + 1) p) (i + 2) x) 4 d) 5 m ≡ set (set (set (set (set l' i k') (i + 1) p') (i + 2) x') 4 d') 5 m'
moved i k k' p p' x x' d d' m m' l l' a b c e f g = cc

module _ (n q v start k p x : ℕ) (l : List ℕ) (add : Addable n q v start k p x l) where
  abbrev e : Entry
  e = entry_of k p x

  abbrev es : List Entry
  es = entries_of l

  pub added_within : WithinBounds n v (opening_of n l) (e ∷ es)
  unfolding entries_right
  added_within = let f = reads_within n q v start l add.held in record {
    masks_long = f.masks_long;
    limits_long = f.limits_long;
    masks_right_lem = f.masks_right_lem;
    entries_right_lem = and_both (entry_right n v e) (entries_right n v es) (entry_row n v k p x add.row) f.entries_right_lem;
    few = add.few;
    open_few = add.open_few;
  }

  pub added_counts : (get_or l 4 0 ≤ most_decisions) × (get_or l 5 0 ≤ most_marks) × (get_or l 4 0 + get_or l 5 0 < most_entries)
  unfolding decisions marks
  added_counts =
      let c = held_counts n q v start l add.held in
      let f = reads_within n q v start l add.held in
      let w = one_each e in
      (omega (arith, f.few), omega (arith, f.open_few), omega (arith, add.few, add.open_few))

  -- what is held after the stores
  pub added_held : pushed k p x l ≡ held_of n q v start (opening_of n l) (e ∷ es)
  unfolding pushed count_of held_of decisions marks
  added_held =
      let c = held_counts n q v start l add.held in
      let g = row_back n v k p x add.row in
      let w = one_each e in
      let b = added_counts in
      let d : get_or l 4 0 + (1 - is_mark e) ≡ is_decision e + decisions es = omega arith in
      let m : get_or l 5 0 + is_mark e ≡ is_mark e + marks es = omega arith in
      let i : head_size + (get_or l 4 0 + get_or l 5 0) * row_size ≡ head_size + length es * row_size = omega (arith, count_all es) in
      moved _ _ _ _ _ _ _ _ _ _ _ _ _ (sym g.0) (sym g.1) (sym g.2) d m (reads_back n q v start l add.held)
      ∙ three_stored n q v start (opening_of n l) es e (omega (arith, count_all es)) (head_size + (get_or l 4 0 + get_or l 5 0) * row_size) (is_decision e + decisions es) (is_mark e + marks es) i
