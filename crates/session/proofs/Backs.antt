-- Back: the newest mark, and the entries before it. Assumes nothing.
use mathlib.Core.Path.{◌≡◌, refl, sym, ap, ap₂, ◌∙◌}
use mathlib.Core.Bool.{Bool, true, false, cond}
use mathlib.Core.List.{List, ◌∷◌, ◌++◌, append_assoc}
use mathlib.Core.Logic.{⊎_elim}
use Prim.Native.Nat.{ℕ, zero, suc, ◌+◌, ◌-◌, ◌*◌, ◌≤◌, ◌<◌}
use native.Mathlib.Omega.{arith}
use Rattle.std.specs.Prelude.{Option, None, Some}
use native.Mathlib.Nat.{eq-or-lt_of_le}
use lib.Dec.{eqb}
use lib.ListN.{length, get_or, drop, take, set, replicate, replicate-append-replicate}
use lib.Seq.{take-add, drop_at, drop-drop, take-take}
use borrow.Author.Tests.{eq-eqb, ne_eqb}
use Rattle.rules.specs.Answers.{zeros}
use Rattle.ledger.specs.Sessions.{Entry, decision, mark, is_mark, marks, is_decision, decisions, back_to}
use Rattle.ledger.proofs.Bounds.{WithinBounds}
use Rattle.ledger.specs.Layout.{most_entries, row_size, rows_size, head_size, spare_size, opening_place}
use Rattle.ledger.specs.Memory.{count_of, rows_of, entry_of, entry_at, entries_at, entries_of, opening_of, held_of, rows, rows_right, Held}
use Rattle.ledger.proofs.Numbers.{and_both, part_long}
use Rattle.ledger.proofs.Image.{count_all, entries_length, rows_length, rows_back, entries_in_range, reads_back, reads_within, room_rows, room_long, held_room, held_few}
use Rattle.ledger.proofs.Entries.{row_at, rows_at}
use Rattle.session.specs.Inner.{Counted, mark_at, undone_at}
use Rattle.session.proofs.Pushes.{held_counts}

-- the loop that looks for the newest mark: i entries are left to look at, and entry j is next
module _ (k i j : ℕ) (s : List ℕ) (z : i ≡ suc j) (inv : mark_at k s ≡ mark_at i s) where
  open_up : mark_at k s ≡ cond (eqb (is_mark (entry_at s j)) 1) (Some j) (mark_at j s)
  unfolding mark_at
  open_up = inv ∙ ap (λ (n : ℕ). mark_at n s) z

  module _ (w : Bool) (f : (p x : ℕ) → cond w 1 0 ≡ is_mark (entry_of (get_or s (j * row_size) 0) p x)) where
    is_mark_lem : cond w 1 0 ≡ is_mark (entry_at s j)
    unfolding entry_at
    is_mark_lem = f _ _

    pub mark_here : w ≡ true → Some j ≡ mark_at k s
    mark_here e =
        let n : is_mark (entry_at s j) ≡ 1 = sym is_mark_lem ∙ ap (λ (b : Bool). cond b 1 0) e in
        sym (open_up ∙ ap (λ (b : Bool). cond b (Some j) (mark_at j s)) (eq-eqb (is_mark (entry_at s j)) 1 n))

    pub mark_past : w ≡ false → mark_at k s ≡ mark_at j s
    mark_past e =
        let n : is_mark (entry_at s j) ≡ 0 = sym is_mark_lem ∙ ap (λ (b : Bool). cond b 1 0) e in
        open_up ∙ ap (λ (b : Bool). cond b (Some j) (mark_at j s)) (ne_eqb (is_mark (entry_at s j)) 1 (λ g. omega (arith, n)))

-- where there is no mark
pub none_of : (j : Option ℕ) → ((i : ℕ) → j ≡ Some i → ⊥) → j ≡ None
none_of None f = refl
none_of (Some i) f = absurd (f i refl)

pub mark_none : (k i : ℕ) (s : List ℕ) → mark_at k s ≡ mark_at i s → i ≤ 0 → None ≡ mark_at k s
unfolding mark_at
mark_none k i s e h = let z : i ≡ 0 = omega arith in sym (e ∙ ap (λ (n : ℕ). mark_at n s) z)

-- what the newest mark says of the entries
pub record Found (s : List ℕ) (es : List Entry) (j : Option ℕ) : Type 0 where
  pub none : j ≡ None → marks es ≡ 0
  pub back : (i : ℕ) → j ≡ Some i → back_to es ≡ entries_at i s
  pub one_less : (i : ℕ) → j ≡ Some i → marks es ≡ suc (marks (entries_at i s))

pub found : (s : List ℕ) (k : ℕ) → Found s (entries_at k s) (mark_at k s)
unfolding mark_at entries_at marks is_mark back_to
found s zero = record { none = λ z. refl; back = λ i h. cc; one_less = λ i h. cc }
found s (suc k) = go (entry_at s k) (entries_at k s) (mark_at k s) refl (found s k)
  where
    go : (e : Entry) (es : List Entry) (j : Option ℕ) → es ≡ entries_at k s → Found s es j → Found s (e ∷ es) (cond (eqb (is_mark e) 1) (Some k) j)
    go (decision d) es j q f = record { none = λ h. omega (arith, f.none h); back = f.back; one_less = λ i h. omega (arith, f.one_less i h) }
    go mark es j q f = record {
      none = λ h. cc;
      back = λ i h. let z : k ≡ i = cc in q ∙ ap (λ (i : ℕ). entries_at i s) z;
      one_less = λ i h. let z : k ≡ i = cc in omega (arith, ap marks (q ∙ ap (λ (i : ℕ). entries_at i s) z));
    }

pub mark_below : (s : List ℕ) (k i : ℕ) → mark_at k s ≡ Some i → i < k
unfolding mark_at
mark_below s zero i h = cc
mark_below s (suc k) i h = go (eqb (is_mark (entry_at s k)) 1) (mark_at k s) (mark_below s k) h
  where
    go : (b : Bool) (j : Option ℕ) → ((i : ℕ) → j ≡ Some i → i < k) → cond b (Some k) j ≡ Some i → i < suc k
    go true j f h = let z : k ≡ i = cc in omega arith
    go false j f h = omega (arith, f i h)

-- fewer entries
rows_prefix : (n v : ℕ) (s : List ℕ) (k : ℕ) → rows_right n v k s ≡ true → (i : ℕ) → i ≤ k → rows_right n v i s ≡ true
unfolding rows_right
rows_prefix n v s k e zero h = refl
rows_prefix n v s k e (suc i) h = and_both (rows_right n v i s) (row_at n v s i) (rows_prefix n v s k e i (omega arith)) (rows_at n v s k i h e)

-- a count that grows with every entry
module _ (one : Entry → ℕ) (all : List Entry → ℕ) (more : (e : Entry) (es : List Entry) → all (e ∷ es) ≡ one e + all es) where
  count_mono : (s : List ℕ) (i k : ℕ) → i ≤ k → all (entries_at i s) ≤ all (entries_at k s)
  unfolding entries_at
  count_mono s i zero h = let z : i ≡ 0 = omega arith in rw z (omega arith)
  count_mono s i (suc k) h =
      ⊎_elim (λ (e : i ≡ suc k). rw e (omega arith))
      (λ (l : i < suc k). omega (arith, count_mono s i k (omega arith), more (entry_at s k) (entries_at k s))) (eq-or-lt_of_le h)

marks_mono : (s : List ℕ) (i k : ℕ) → i ≤ k → marks (entries_at i s) ≤ marks (entries_at k s)
unfolding marks
marks_mono = count_mono is_mark marks (λ e es. refl)

decisions_mono : (s : List ℕ) (i k : ℕ) → i ≤ k → decisions (entries_at i s) ≤ decisions (entries_at k s)
unfolding decisions
decisions_mono = count_mono is_decision decisions (λ e es. refl)

module _ (n q v start : ℕ) (l : List ℕ) (h : Held n q v start l) where
  abbrev s : List ℕ
  s = rows_of l

  abbrev es : List Entry
  es = entries_of l

  all_long : length es ≡ count_of l
  unfolding entries_of
  all_long = entries_length (count_of l) s

  few_all : count_of l ≤ most_entries
  unfolding count_of
  few_all = let w = held_few n q v start l h.long h.right in omega (arith, w.0, w.1)

  pub counted : Counted l
  counted = let w = held_few n q v start l h.long h.right in record { few = w.0; open_few = w.1; long = omega (arith, h.long) }

  module _ (i : ℕ) (low : i ≤ count_of l) where
    abbrev ds : List Entry
    ds = entries_at i s

    rows_ok : rows_right n v i s ≡ true
    unfolding count_of
    rows_ok = let w = few_all in rows_prefix n v s (count_of l) (room_rows n v (get_or l 4 0) (get_or l 5 0) s (room_long n q v start l h.long h.right) w (held_room n q v start l h.long h.right)) i low

    pub undo_fits : WithinBounds n v (opening_of n l) ds
    unfolding entries_of
    undo_fits = let f = reads_within n q v start l h in record {
      masks_long = f.masks_long;
      limits_long = f.limits_long;
      masks_right_lem = f.masks_right_lem;
      entries_right_lem = entries_in_range n v s i rows_ok;
      few = omega (arith, f.few, decisions_mono s i (count_of l) low);
      open_few = omega (arith, f.open_few, marks_mono s i (count_of l) low);
    }

    -- the head and the entries that stay
    kept_front : take (head_size + i * row_size) l ≡ n ∷ q ∷ v ∷ start ∷ decisions es ∷ marks es ∷ (replicate spare_size 0 ++ rows ds)
    unfolding held_of rows_of
    kept_front =
        let w = few_all in
        take-add head_size (i * row_size) l
        ∙ ap₂ (λ (a b : List ℕ). a ++ b) (ap (take head_size) (reads_back n q v start l h))
        (sym (take-take (i * row_size) rows_size (drop head_size l) (omega arith))
        ∙ rows_back n v s i (let u = room_long n q v start l h.long h.right in omega arith) rows_ok)

    -- all behind the entries
    rest : drop (head_size + count_of l * row_size) l ≡ replicate (rows_size - count_of l * row_size) 0 ++ ((opening_of n l).masks ++ (opening_of n l).limits)
    unfolding held_of
    rest =
        let a = all_long in
        ap (drop (head_size + count_of l * row_size)) (reads_back n q v start l h)
        ∙ drop_at (n ∷ q ∷ v ∷ start ∷ decisions es ∷ marks es ∷ (replicate spare_size 0 ++ rows es))
        (replicate (rows_size - length es * row_size) 0 ++ ((opening_of n l).masks ++ (opening_of n l).limits)) (head_size + count_of l * row_size) (let b = rows_length es in omega arith)
        ∙ ap (λ (j : ℕ). replicate (rows_size - j * row_size) 0 ++ ((opening_of n l).masks ++ (opening_of n l).limits)) a

    zeros_join : (m : List ℕ) → replicate ((count_of l - i) * row_size) 0 ++ (replicate (rows_size - count_of l * row_size) 0 ++ m) ≡ replicate (rows_size - length ds * row_size) 0 ++ m
    zeros_join m =
        let a = entries_length i s in
        let w = few_all in
        let z : (count_of l - i) * row_size + (rows_size - count_of l * row_size) ≡ rows_size - length ds * row_size = omega arith in
        sym (append_assoc (replicate ((count_of l - i) * row_size) 0) (replicate (rows_size - count_of l * row_size) 0) m)
        ∙ ap (λ (t : List ℕ). t ++ m) (replicate-append-replicate ((count_of l - i) * row_size) (rows_size - count_of l * row_size) 0 ∙ ap (λ (j : ℕ). replicate j 0) z)

    undo_held : get_or l 5 0 - 1 ≡ marks ds → undone_at i l ≡ held_of n q v start (opening_of n l) ds
    unfolding undone_at held_of
    undo_held e =
        let m : List ℕ = (opening_of n l).masks ++ (opening_of n l).limits in
        let u : i - marks ds ≡ decisions ds = omega (arith, count_all ds, entries_length i s) in
        ap (λ (k : ℕ). set (set (take (head_size + i * row_size) l ++ (replicate ((count_of l - i) * row_size) 0 ++ drop (head_size + count_of l * row_size) l)) 4 (i - k)) 5 k) e
        ∙ ap₂ (λ (a b : List ℕ). set (set (a ++ (replicate ((count_of l - i) * row_size) 0 ++ b)) 4 (i - marks ds)) 5 (marks ds)) kept_front rest
        ∙ ap₂ (λ (d : ℕ) (t : List ℕ). n ∷ q ∷ v ∷ start ∷ d ∷ marks ds ∷ (replicate spare_size 0 ++ t)) u (ap (λ (t : List ℕ). rows ds ++ t) (zeros_join m))

  -- the newest mark of what is held
  module _ (j : Option ℕ) (is : j ≡ mark_at (count_of l) (rows_of l)) where
    found_now : Found s es j
    unfolding entries_of
    found_now = rw is (found s (count_of l))

    pub no_mark : j ≡ None → marks es ≡ 0
    no_mark z = found_now.none z

    module _ (i : ℕ) (z : j ≡ Some i) where
      low_now : i < count_of l
      low_now = mark_below (rows_of l) (count_of l) i (sym is ∙ z)

      pub undo_there : (i < get_or l 4 0 + get_or l 5 0) × (1 ≤ get_or l 5 0) × (get_or l 5 0 ≤ i + 1)
      unfolding count_of
      undo_there =
          let c = held_counts n q v start l h in
          let m = found_now.one_less i z in
          let w = low_now in
          let k = count_all (entries_at i s) in
          let b = entries_length i s in
          (omega arith, omega arith, omega arith)

      pub back_within : WithinBounds n v (opening_of n l) (back_to es)
      back_within = let w = low_now in rw (found_now.back i z) (undo_fits i (omega arith))

      pub some_marks : 0 < marks es
      some_marks = omega (arith, found_now.one_less i z)

      -- what is held after the stores
      pub back_held : undone_at i l ≡ held_of n q v start (opening_of n l) (back_to es)
      back_held =
          let c = held_counts n q v start l h in
          let w = low_now in
          undo_held i (omega arith) (omega (arith, found_now.one_less i z)) ∙ ap (held_of n q v start (opening_of n l)) (sym (found_now.back i z))

-- the stores of `undo`
pub undone_is : (i : ℕ) (l y : List ℕ) → i ≤ get_or l 4 0 + get_or l 5 0 → opening_place ≤ length l → get_or l 4 0 + get_or l 5 0 ≤ most_entries
    → y ≡ zeros (take (head_size + (get_or l 4 0 + get_or l 5 0) * row_size - (head_size + i * row_size)) (drop (head_size + i * row_size) l))
    → set (set (take (head_size + i * row_size) l ++ (y ++ drop (head_size + (get_or l 4 0 + get_or l 5 0) * row_size - (head_size + i * row_size)) (drop (head_size + i * row_size) l))) 4 (i - (get_or l 5 0 - 1))) 5 (get_or l 5 0 - 1)
    ≡ undone_at i l
unfolding undone_at count_of
undone_is i l y h g f e =
    let k : ℕ = get_or l 4 0 + get_or l 5 0 in
    let z : head_size + k * row_size - (head_size + i * row_size) ≡ (k - i) * row_size = omega arith in
    let w : head_size + i * row_size + (k - i) * row_size ≡ head_size + k * row_size = omega arith in
    let u : length (take (head_size + k * row_size - (head_size + i * row_size)) (drop (head_size + i * row_size) l)) ≡ (k - i) * row_size =
    part_long (head_size + k * row_size - (head_size + i * row_size)) (head_size + i * row_size) l (omega arith) ∙ z in
    ap₂ (λ (x t : List ℕ). set (set (take (head_size + i * row_size) l ++ (x ++ t)) 4 (i - (get_or l 5 0 - 1))) 5 (get_or l 5 0 - 1))
    (e ∙ ap (λ (j : ℕ). replicate j 0) u)
    (ap (λ (j : ℕ). drop j (drop (head_size + i * row_size) l)) z ∙ drop-drop ((k - i) * row_size) (head_size + i * row_size) l ∙ ap (λ (j : ℕ). drop j l) w)

pub newest_is : (l : List ℕ) (j : Option ℕ) → j ≡ mark_at (get_or l 4 0 + get_or l 5 0) (take rows_size (drop head_size l)) → j ≡ mark_at (count_of l) (rows_of l)
unfolding count_of rows_of
newest_is l j e = e
