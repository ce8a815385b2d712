-- What is held is the image of a session, and of one only. Assumes nothing.
use mathlib.Core.Path.{◌≡◌, refl, sym, ap, ap₂, ◌∙◌}
use mathlib.Core.Bool.{true, false}
use mathlib.Core.List.{List, [], ◌∷◌, ◌++◌, append_assoc}
use Prim.Native.Nat.{ℕ, zero, suc, ◌+◌, ◌-◌, ◌*◌, ◌≤◌}
use native.Mathlib.Omega.{arith}
use lib.ListN.{length, get_or, drop, take, replicate, length-append, length-replicate, length-take, length-drop, take-append-drop}
use lib.Seq.{take-add, take_at, drop_at, drop-drop, get_or-append-add, get_or_at, get_or-drop}
use lib.Dec.{eqb}
use borrow.Author.Tests.{eq-eqb, ne_eqb, eqb-true}
use Rattle.meaning.specs.Meaning.{Keep, Limit}
use Rattle.rules.specs.Checks.{masks_right}
use Rattle.rules.proofs.Checks.{both}
use Rattle.ledger.specs.Sessions.{Opening, opening, Entry, decision, mark, is_mark, marks, is_decision, decisions, decision_right}
use Rattle.ledger.proofs.Bounds.{entry_right, entries_right, WithinBounds}
use Rattle.ledger.specs.Layout.{most_decisions, most_marks, most_entries, row_size, rows_size, head_size, spare_size, opening_place}
use Rattle.ledger.specs.Memory.{Held, all_zero, row_right, rows_right, entry_of, entry_at, entries_at, head_right, room_right, held_right, rows_of, count_of, entries_of, opening_at, opening_of, held_of, rows, kind_of, place_of, amount_of}
use Rattle.ledger.proofs.Numbers.{and_both, zeros_are, zeros_yes}
use Rattle.ledger.proofs.Entries.{row_at}
use Rattle.ledger.proofs.Head.{head_all, head_last}

-- counts
pub one_each : (e : Entry) → is_decision e + is_mark e ≡ 1
unfolding is_decision is_mark
one_each (decision d) = refl
one_each mark = refl

pub count_all : (es : List Entry) → decisions es + marks es ≡ length es
unfolding decisions marks
count_all [] = refl
count_all (e ∷ es) = let a = one_each e in let b = count_all es in omega arith

pub rows_length : (es : List Entry) → length (rows es) ≡ length es * row_size
unfolding rows
rows_length [] = refl
rows_length (e ∷ es) = length-append (rows es) (kind_of e ∷ place_of e ∷ amount_of e ∷ []) ∙ (let a = rows_length es in omega arith)

pub entries_length : (k : ℕ) (s : List ℕ) → length (entries_at k s) ≡ k
unfolding entries_at
entries_length zero s = refl
entries_length (suc k) s = ap suc (entries_length k s)

-- writing and reading
pub entry_back : (e : Entry) → entry_of (kind_of e) (place_of e) (amount_of e) ≡ e
unfolding entry_of kind_of place_of amount_of
entry_back (decision (Keep p m)) = refl
entry_back (decision (Limit p c)) = refl
entry_back mark = refl

three : (xs t : List ℕ) (a b c k : ℕ) → length xs ≡ k → (get_or (xs ++ (a ∷ b ∷ c ∷ t)) k 0 ≡ a) × (get_or (xs ++ (a ∷ b ∷ c ∷ t)) (k + 1) 0 ≡ b) × (get_or (xs ++ (a ∷ b ∷ c ∷ t)) (k + 2) 0 ≡ c)
three xs t a b c k e = (
  get_or_at xs a (b ∷ c ∷ t) 0 k e,
  ap (λ (j : ℕ). get_or (xs ++ (a ∷ b ∷ c ∷ t)) (j + 1) 0) (sym e) ∙ get_or-append-add xs (a ∷ b ∷ c ∷ t) 1 0,
  ap (λ (j : ℕ). get_or (xs ++ (a ∷ b ∷ c ∷ t)) (j + 2) 0) (sym e) ∙ get_or-append-add xs (a ∷ b ∷ c ∷ t) 2 0,
)

-- the rows' next entry
next_entry : (e : Entry) (xs t : List ℕ) (k : ℕ) → length xs ≡ k * row_size → entry_at (xs ++ (kind_of e ∷ place_of e ∷ amount_of e ∷ t)) k ≡ e
unfolding entry_at
next_entry e xs t k h =
    let g = three xs t (kind_of e) (place_of e) (amount_of e) (k * row_size) h in
    rw (g.0, g.1, g.2) (entry_back e)

pub read_rows : (es : List Entry) (t : List ℕ) → entries_at (length es) (rows es ++ t) ≡ es
unfolding rows entries_at
read_rows [] t = refl
read_rows (e ∷ es) t =
    ap (entries_at (suc (length es))) (append_assoc (rows es) (kind_of e ∷ place_of e ∷ amount_of e ∷ []) t)
    ∙ ap₂ (λ (x : Entry) (xs : List Entry). x ∷ xs) (next_entry e (rows es) t (length es) (rows_length es)) (read_rows es (kind_of e ∷ place_of e ∷ amount_of e ∷ t))

-- a row in range is that of its entry
pub row_back : (n v k p x : ℕ) → row_right n v k p x ≡ true → (kind_of (entry_of k p x) ≡ k) × (place_of (entry_of k p x) ≡ p) × (amount_of (entry_of k p x) ≡ x)
unfolding row_right entry_of kind_of place_of amount_of
row_back n v zero p x e = let z : ◌≡◌ {A = ℕ} 0 1 = cc in absurd (omega arith)
row_back n v (suc zero) p x e = (refl, refl, refl)
row_back n v (suc (suc zero)) p x e = (refl, refl, refl)
row_back n v (suc (suc (suc zero))) p x e = (refl, sym (eqb-true p 0 (both (eqb p 0) (eqb x 0) e).0), sym (eqb-true x 0 (both (eqb p 0) (eqb x 0) e).1))
row_back n v (suc (suc (suc (suc k)))) p x e =
    let j : ℕ = suc (suc (suc (suc k))) in
    let f : false ≡ true = simp (ne_eqb j 1 (λ h. omega arith), ne_eqb j 2 (λ h. omega arith), ne_eqb j 3 (λ h. omega arith)) at e in
    let z : ◌≡◌ {A = ℕ} 0 1 = cc in absurd (omega arith)

three_of : (s : List ℕ) → 3 ≤ length s → take 3 s ≡ get_or s 0 0 ∷ get_or s 1 0 ∷ get_or s 2 0 ∷ []
three_of [] h = absurd (omega arith)
three_of (a ∷ []) h = absurd (omega arith)
three_of (a ∷ b ∷ []) h = absurd (omega arith)
three_of (a ∷ b ∷ c ∷ s) h = refl

same_three : (a b c a' b' c' : ℕ) → a ≡ a' → b ≡ b' → c ≡ c' → ◌≡◌ {A = List ℕ} (a ∷ b ∷ c ∷ []) (a' ∷ b' ∷ c' ∷ [])
same_three a b c a' b' c' e f g = cc

-- three numbers of a list
take_three : (s : List ℕ) (a : ℕ) → a + 3 ≤ length s → take 3 (drop a s) ≡ get_or s a 0 ∷ get_or s (a + 1) 0 ∷ get_or s (a + 2) 0 ∷ []
take_three s a h = three_of (drop a s) (simp length-drop (omega arith)) ∙ rw (get_or-drop, get_or-drop, get_or-drop) (ap (λ (j : ℕ). get_or s j 0 ∷ get_or s (a + 1) 0 ∷ get_or s (a + 2) 0 ∷ []) (omega arith))

pub rows_back : (n v : ℕ) (s : List ℕ) (k : ℕ) → k * row_size ≤ length s → rows_right n v k s ≡ true → take (k * row_size) s ≡ rows (entries_at k s)
unfolding rows_right rows entries_at entry_at
rows_back n v s zero h e = refl
rows_back n v s (suc k) h e =
    let f = row_back n v (get_or s (k * row_size) 0) (get_or s (k * row_size + 1) 0) (get_or s (k * row_size + 2) 0) (both (rows_right n v k s) (row_at n v s k) e).1 in
    let r = rows_back n v s k (omega arith) (both (rows_right n v k s) (row_at n v s k) e).0 in
    let z : suc k * row_size ≡ k * row_size + 3 = omega arith in
    ap (λ (j : ℕ). take j s) z ∙ take-add (k * row_size) 3 s
    ∙ ap₂ (λ (xs ys : List ℕ). xs ++ ys) r (take_three s (k * row_size) (omega arith) ∙ same_three _ _ _ _ _ _ (sym f.0) (sym f.1) (sym f.2))

six_of : (s : List ℕ) → 6 ≤ length s → take 6 s ≡ get_or s 0 0 ∷ get_or s 1 0 ∷ get_or s 2 0 ∷ get_or s 3 0 ∷ get_or s 4 0 ∷ get_or s 5 0 ∷ []
six_of [] h = absurd (omega arith)
six_of (a ∷ []) h = absurd (omega arith)
six_of (a ∷ b ∷ []) h = absurd (omega arith)
six_of (a ∷ b ∷ c ∷ []) h = absurd (omega arith)
six_of (a ∷ b ∷ c ∷ d ∷ []) h = absurd (omega arith)
six_of (a ∷ b ∷ c ∷ d ∷ e ∷ []) h = absurd (omega arith)
six_of (a ∷ b ∷ c ∷ d ∷ e ∷ f ∷ s) h = refl

same_six : (a b c d e f a' b' c' d' e' f' : ℕ) → a ≡ a' → b ≡ b' → c ≡ c' → d ≡ d' → e ≡ e' → f ≡ f' → ◌≡◌ {A = List ℕ} (a ∷ b ∷ c ∷ d ∷ e ∷ f ∷ []) (a' ∷ b' ∷ c' ∷ d' ∷ e' ∷ f' ∷ [])
same_six a b c d e f a' b' c' d' e' f' p q r s t u = cc

-- a list by its four parts
four : (l : List ℕ) → l ≡ take 6 l ++ (take spare_size (drop 6 l) ++ (take rows_size (drop head_size l) ++ drop opening_place l))
four l =
    sym (take-append-drop 6 l)
    ∙ ap (λ (x : List ℕ). take 6 l ++ x) (sym (take-append-drop spare_size (drop 6 l))
    ∙ ap (λ (x : List ℕ). take spare_size (drop 6 l) ++ x) (drop-drop spare_size 6 l ∙ sym (take-append-drop rows_size (drop head_size l)) ∙ ap (λ (x : List ℕ). take rows_size (drop head_size l) ++ x) (drop-drop rows_size head_size l)))

gap_long : (l : List ℕ) → opening_place ≤ length l → length (take spare_size (drop 6 l)) ≡ spare_size
gap_long l h = simp (length-take, length-drop) (omega arith)

module _ (n v d m : ℕ) (s : List ℕ) (long : length s ≡ rows_size) (few : d + m ≤ most_entries) (in-range : room_right n v d m s ≡ true) where
  abbrev es : List Entry
  es = entries_at (d + m) s

  pub room_marks : marks es ≡ m
  unfolding room_right
  room_marks = eqb-true (marks es) m (both (eqb (marks es) m) (all_zero (drop ((d + m) * row_size) s)) (both (rows_right n v (d + m) s) _ in-range).1).0

  pub room_decisions : decisions es ≡ d
  room_decisions = let a = count_all es in let b = entries_length (d + m) s in let e = room_marks in omega arith

  pub room_rows : rows_right n v (d + m) s ≡ true
  unfolding room_right
  room_rows = (both (rows_right n v (d + m) s) _ in-range).0

  pub room_is : s ≡ rows es ++ replicate (rows_size - length es * row_size) 0
  unfolding room_right
  room_is =
      let z : all_zero (drop ((d + m) * row_size) s) ≡ true = (both (eqb (marks es) m) _ (both (rows_right n v (d + m) s) _ in-range).1).1 in
      let w : length (drop ((d + m) * row_size) s) ≡ rows_size - length es * row_size = simp length-drop (omega (arith, entries_length (d + m) s)) in
      sym (take-append-drop ((d + m) * row_size) s)
      ∙ ap₂ (λ (x y : List ℕ). x ++ y) (rows_back n v s (d + m) (omega arith) room_rows) (zeros_are (drop ((d + m) * row_size) s) z ∙ ap (λ (j : ℕ). replicate j 0) w)

module _ (n q v start : ℕ) (l : List ℕ) (long : length l ≡ opening_place + (n + n)) (in-range : held_right n q v start l ≡ true) where
  pub held_head : head_right n q v start l ≡ true
  unfolding held_right
  held_head = (both (head_right n q v start l) _ in-range).0

  pub held_room : room_right n v (get_or l 4 0) (get_or l 5 0) (rows_of l) ≡ true
  unfolding held_right
  held_room = (both (room_right n v (get_or l 4 0) (get_or l 5 0) (rows_of l)) _ (both (head_right n q v start l) _ in-range).1).0

  pub held_masks : masks_right v (take n (drop opening_place l)) ≡ true
  unfolding held_right
  held_masks = (both (room_right n v (get_or l 4 0) (get_or l 5 0) (rows_of l)) _ (both (head_right n q v start l) _ in-range).1).1

  pub held_few : (get_or l 4 0 ≤ most_decisions) × (get_or l 5 0 ≤ most_marks)
  held_few = let g = head_all n q v start l held_head in (g.0.d_high, g.0.m_high)

  pub room_long : length (rows_of l) ≡ rows_size
  unfolding rows_of
  room_long = simp (length-take, length-drop) (omega arith)

  opening_reads : drop opening_place l ≡ (opening_of n l).masks ++ (opening_of n l).limits
  unfolding opening_of opening_at
  opening_reads = sym (take-append-drop n (drop opening_place l))

  -- what is held is the image of the session read from it
  pub held_reads : l ≡ held_of n q v start (opening_of n l) (entries_of l)
  unfolding held_of entries_of count_of opening_of opening_at rows_of
  held_reads =
      let h = head_all n q v start l held_head in
      let few : get_or l 4 0 + get_or l 5 0 ≤ most_entries = omega (arith, h.0.d_high, h.0.m_high) in
      let s : List ℕ = take rows_size (drop head_size l) in
      let gap : take spare_size (drop 6 l) ≡ replicate spare_size 0 = zeros_are (take spare_size (drop 6 l)) h.1 ∙ ap (λ (j : ℕ). replicate j 0) (gap_long l (omega arith)) in
      four l
      ∙ ap₂ (λ (x y : List ℕ). x ++ y)
      (six_of l (omega arith) ∙ same_six _ _ _ _ _ _ _ _ _ _ _ _ h.0.n_is h.0.q_is h.0.v_is h.0.start_is
      (sym (room_decisions n v (get_or l 4 0) (get_or l 5 0) (rows_of l) room_long few held_room)) (sym (room_marks n v (get_or l 4 0) (get_or l 5 0) (rows_of l) room_long few held_room)))
      (ap₂ (λ (x y : List ℕ). x ++ y) gap
      (ap₂ (λ (x y : List ℕ). x ++ y) (room_is n v (get_or l 4 0) (get_or l 5 0) (rows_of l) room_long few held_room) opening_reads
      ∙ append_assoc (rows (entries_at (get_or l 4 0 + get_or l 5 0) s)) _ _))

-- entries and rows in range
row_entry : (n v : ℕ) (e : Entry) → row_right n v (kind_of e) (place_of e) (amount_of e) ≡ entry_right n v e
unfolding row_right kind_of place_of amount_of entry_right decision_right
row_entry n v (decision (Keep p m)) = refl
row_entry n v (decision (Limit p c)) = refl
row_entry n v mark = refl

next_row : (n v : ℕ) (e : Entry) (xs t : List ℕ) (k : ℕ) → length xs ≡ k * row_size → row_at n v (xs ++ (kind_of e ∷ place_of e ∷ amount_of e ∷ t)) k ≡ entry_right n v e
next_row n v e xs t k h =
    let g = three xs t (kind_of e) (place_of e) (amount_of e) (k * row_size) h in
    rw (g.0, g.1, g.2) (row_entry n v e)

pub rows_in_range : (n v : ℕ) (es : List Entry) (t : List ℕ) → entries_right n v es ≡ true → rows_right n v (length es) (rows es ++ t) ≡ true
unfolding rows rows_right entries_right
rows_in_range n v [] t e = refl
rows_in_range n v (x ∷ es) t e =
    ap (rows_right n v (suc (length es))) (append_assoc (rows es) (kind_of x ∷ place_of x ∷ amount_of x ∷ []) t)
    ∙ and_both (rows_right n v (length es) (rows es ++ (kind_of x ∷ place_of x ∷ amount_of x ∷ t))) (row_at n v (rows es ++ (kind_of x ∷ place_of x ∷ amount_of x ∷ t)) (length es))
    (rows_in_range n v es (kind_of x ∷ place_of x ∷ amount_of x ∷ t) (both (entry_right n v x) (entries_right n v es) e).1)
    (next_row n v x (rows es) t (length es) (rows_length es) ∙ (both (entry_right n v x) (entries_right n v es) e).0)

pub entry_row : (n v k p x : ℕ) → row_right n v k p x ≡ true → entry_right n v (entry_of k p x) ≡ true
entry_row n v k p x e = let f = row_back n v k p x e in sym (row_entry n v (entry_of k p x)) ∙ rw (f.0, f.1, f.2) e

pub entries_in_range : (n v : ℕ) (s : List ℕ) (k : ℕ) → rows_right n v k s ≡ true → entries_right n v (entries_at k s) ≡ true
unfolding rows_right entries_right entries_at entry_at
entries_in_range n v s zero e = refl
entries_in_range n v s (suc k) e =
    and_both (entry_right n v (entry_at s k)) (entries_right n v (entries_at k s))
    (entry_row n v (get_or s (k * row_size) 0) (get_or s (k * row_size + 1) 0) (get_or s (k * row_size + 2) 0) (both (rows_right n v k s) (row_at n v s k) e).1)
    (entries_in_range n v s k (both (rows_right n v k s) (row_at n v s k) e).0)

-- a session in range, written
module _ (n q v start : ℕ) (o : Opening) (es : List Entry) (fits : WithinBounds n v o es) where
  short : length es * row_size ≤ rows_size
  short = omega (arith, count_all es, fits.few, fits.open_few)

  abbrev mem : List ℕ
  mem = held_of n q v start o es

  abbrev pad : List ℕ
  pad = replicate (rows_size - length es * row_size) 0

  whole : length (rows es ++ pad) ≡ rows_size
  whole = length-append (rows es) pad ∙ ap₂ ◌+◌ (rows_length es) (length-replicate (rows_size - length es * row_size) 0) ∙ (let h = short in omega arith)

  pub room_of : rows_of mem ≡ rows es ++ pad
  unfolding rows_of held_of
  room_of = ap (take rows_size) (sym (append_assoc (rows es) pad (o.masks ++ o.limits))) ∙ take_at (rows es ++ pad) (o.masks ++ o.limits) rows_size whole

  pub tail_of : drop opening_place mem ≡ o.masks ++ o.limits
  unfolding held_of
  tail_of = ap (drop rows_size) (sym (append_assoc (rows es) pad (o.masks ++ o.limits))) ∙ drop_at (rows es ++ pad) (o.masks ++ o.limits) rows_size whole

  opening_parts : opening_at n (o.masks ++ o.limits) ≡ o
  unfolding opening_at
  opening_parts = ap₂ opening (take_at o.masks o.limits n fits.masks_long) (drop_at o.masks o.limits n fits.masks_long)

  pub opening_of_lem : opening_of n mem ≡ o
  unfolding opening_of
  opening_of_lem = ap (opening_at n) tail_of ∙ opening_parts

  pub count_of_lem : count_of mem ≡ length es
  unfolding count_of held_of
  count_of_lem = count_all es

  pub entries_of_lem : entries_of mem ≡ es
  unfolding entries_of
  entries_of_lem = ap₂ entries_at count_of_lem room_of ∙ read_rows es pad

  pub long_of : length mem ≡ opening_place + (n + n)
  unfolding held_of
  long_of =
      let a = whole in let b = length-append (rows es) pad in let d = length-append (rows es) (pad ++ (o.masks ++ o.limits)) in
      let e = length-append pad (o.masks ++ o.limits) in let f = length-append o.masks o.limits in
      omega (arith, fits.masks_long, fits.limits_long)

  pub head_of : head_right n q v start mem ≡ true
  unfolding held_of
  head_of = sym (head_last n q v start mem (record { n_is = refl; q_is = refl; v_is = refl; start_is = refl; d_high = fits.few; m_high = fits.open_few })) ∙ zeros_yes spare_size

  pub room_in_of : room_right n v (decisions es) (marks es) (rows es ++ pad) ≡ true
  unfolding room_right
  room_in_of =
      rw (count_all es)
      (and_both (rows_right n v (length es) (rows es ++ pad)) _ (rows_in_range n v es pad fits.entries_right_lem)
      (and_both (eqb (marks (entries_at (length es) (rows es ++ pad))) (marks es)) _
      (eq-eqb _ _ (ap marks (read_rows es pad)))
      (ap all_zero (drop_at (rows es) pad (length es * row_size) (rows_length es)) ∙ zeros_yes (rows_size - length es * row_size))))

  counts : (P : ℕ → ℕ → Type 0) → P (decisions es) (marks es) → P (get_or mem 4 0) (get_or mem 5 0)
  unfolding held_of
  counts P p = p

  pub held_of_lem : held_right n q v start mem ≡ true
  unfolding held_right
  held_of_lem =
      and_both (head_right n q v start mem) _ head_of
      (and_both (room_right n v (get_or mem 4 0) (get_or mem 5 0) (rows_of mem)) _ (counts (λ (d m : ℕ). room_right n v d m (rows_of mem) ≡ true) (ap (room_right n v (decisions es) (marks es)) room_of ∙ room_in_of))
      (ap (λ (t : List ℕ). masks_right v (take n t)) tail_of ∙ ap (masks_right v) (take_at o.masks o.limits n fits.masks_long) ∙ fits.masks_right_lem))

-- the session that is read is in range
module _ (n q v start : ℕ) (l : List ℕ) (h : Held n q v start l) where
  pub reads_back : l ≡ held_of n q v start (opening_of n l) (entries_of l)
  reads_back = held_reads n q v start l h.long h.right

  pub reads_within : WithinBounds n v (opening_of n l) (entries_of l)
  unfolding opening_of opening_at entries_of count_of
  reads_within =
      let g = head_all n q v start l (held_head n q v start l h.long h.right) in
      let few : get_or l 4 0 + get_or l 5 0 ≤ most_entries = omega (arith, g.0.d_high, g.0.m_high) in
      let r = held_room n q v start l h.long h.right in
      let w = room_long n q v start l h.long h.right in
      record {
        masks_long = simp (length-take, length-drop) (omega (arith, h.long));
        limits_long = simp (length-drop) (omega (arith, h.long));
        masks_right_lem = held_masks n q v start l h.long h.right;
        entries_right_lem = entries_in_range n v (rows_of l) (get_or l 4 0 + get_or l 5 0) (room_rows n v (get_or l 4 0) (get_or l 5 0) (rows_of l) w few r);
        few = omega (arith, g.0.d_high, room_decisions n v (get_or l 4 0) (get_or l 5 0) (rows_of l) w few r);
        open_few = omega (arith, g.0.m_high, room_marks n v (get_or l 4 0) (get_or l 5 0) (rows_of l) w few r);
      }
