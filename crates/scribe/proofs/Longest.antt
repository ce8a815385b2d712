-- The longest right sheet has 18,212 bytes. Assumes nothing.
use mathlib.Core.Path.{◌≡◌, refl, ap, ◌∙◌}
use mathlib.Core.Logic.{inr}
use mathlib.Core.Bool.{true, cond}
use mathlib.Core.List.{List, [], ◌∷◌, append-nil}
use Prim.Native.Nat.{ℕ, zero, suc, ◌+◌, ◌-◌, ◌*◌, ◌/◌, ◌%◌, ◌^◌, ◌≤◌, ◌<◌}
use native.Mathlib.Decide.{dec_lt}
use native.Mathlib.Omega.{arith}
use lib.Arith.{digits_lt, digits_div, digits_mod}
use lib.Dec.{ltb}
use lib.ListN.{length, get_or, replicate, length-append, get_or-replicate}
use borrow.Author.Tests.{lt-ltb, le-ltb}
use Rattle.kinds.proofs.Bits.{bit_ones}
use Rattle.meaning.specs.Bounds.{most_states, most_values, most_cost, table_size}
use Rattle.meaning.specs.Lists.{from, each}
use Rattle.rules.specs.Checks.{size_right, tables_long, rules_right}
use Rattle.meaning.specs.Meaning.{Arcs, Rules, rules_of}
use Rattle.rules.specs.declared.Size.{Size}
use Rattle.rules.proofs.Checks.{both}
use Rattle.rules.proofs.Lawful.{lawful, lawful_right}
use Rattle.text.specs.Numbers.{decimal}
use Rattle.text.proofs.Decimals.{decimal_small, decimal_step, decimal_length, field_length}
use Rattle.sheet.specs.Lines.{Line, final, arc, size_of, size_text, line_text, place}
use Rattle.sheet.specs.Sheets.{final_line, lines_of, sheet_text, text_of, sheet, read_sheet}
use Rattle.sheet.specs.Inner.{Sized}
use Rattle.sheet.proofs.Texts.{LineIn, Rising, Sheeted, sheet_read}
use Rattle.sheet.proofs.Tables.{place_line, lines_flat, lines_rising}
use Rattle.sheet.proofs.Filled.{place_top}
use Rattle.sheet.proofs.OneText.{size_in_lem}
use Rattle.meaning.proofs.Lists.{each_append, each_each}
use Rattle.scribe.specs.Writing.{longest_sheet}

-- the lengths of lines, by their numbers
size_length : (z : Size) → length (size_text z) ≡ 8 + length (decimal z.states) + length (decimal z.values) + length (decimal z.start.0)
unfolding size_text
size_length z = simp (field_length) (omega arith)

final_length : (q : ℕ) → length (line_text (final q)) ≡ 7 + length (decimal q)
unfolding line_text
final_length q = simp (field_length) (omega arith)

arc_length : (q v t c : ℕ) → length (line_text (arc q v t c)) ≡ 8 + length (decimal q) + length (decimal v) + length (decimal t) + length (decimal c)
unfolding line_text
arc_length q v t c = simp (field_length) (omega arith)

-- how many digits a number below 100 has: quicker to compute than the digits
digits : ℕ → ℕ
digits n = cond (ltb n 10) 1 2

digits_are : (n : ℕ) → n < 100 → digits n ≡ length (decimal n)
unfolding digits
digits_are n h = go (dec_lt n 10)
  where
    go : Dec (n < 10) → cond (ltb n 10) 1 2 ≡ length (decimal n)
    go (yes l) = rw (lt-ltb n 10 l, decimal_small n l)
    go (no l) = rw (le-ltb n 10 (omega arith), decimal_step n (omega arith), decimal_small (n / 10) (omega arith))

-- a sheet of the largest size has a place for every line of any sheet, in the same order
abbrev widest : Size
widest = size_of most_states most_values 63

abbrev all_places : ℕ
all_places = most_states + table_size

-- the most that the line at a place of it can have
room : ℕ → ℕ
room k = let a = k - most_states in cond (ltb k most_states) (7 + digits k) (14 + digits (a / most_values) + digits (a % most_values))

room_final : (q : ℕ) → q < most_states → room q ≡ 7 + length (decimal q)
unfolding room
room_final q h = rw (lt-ltb q most_states h, digits_are q (omega arith))

room_arc : (k : ℕ) → k < table_size → room (most_states + k) ≡ 14 + length (decimal (k / most_values)) + length (decimal (k % most_values))
unfolding room
room_arc k h =
    let e : most_states + k - most_states ≡ k = omega arith in
    rw (le-ltb (most_states + k) most_states (omega arith), e, digits_are (k / most_values) (omega arith), digits_are (k % most_values) (omega arith))

line_fits : (l : Line) → LineIn widest l → length (line_text l) ≤ room (place widest l)
unfolding place
line_fits (final q) h = omega (arith, final_length q, room_final q h)
line_fits (arc q v t c) h =
    rw (room_arc (q * most_values + v) (digits_lt h.0 h.1), digits_div q h.1, digits_mod q h.1)
    (omega (arith, arc_length q v t c, decimal_length 1 t (omega arith), decimal_length 3 c (omega (arith, h.3))))

-- sums
sum : (ℕ → ℕ) → ℕ → ℕ → ℕ
sum f i zero = 0
sum f i (suc n) = f i + sum f (suc i) n

sum_split : (f : ℕ → ℕ) (i m n : ℕ) → sum f i (m + n) ≡ sum f i m + sum f (i + m) n
unfolding sum
sum_split f i zero n = let a : i + 0 ≡ i = omega arith in let b : 0 + n ≡ n = omega arith in rw (a, b) (omega arith)
sum_split f i (suc m) n =
    let a : i + suc m ≡ suc i + m = omega arith in
    let b : suc m + n ≡ suc (m + n) = omega arith in
    rw (a, b, sum) (omega (arith, sum_split f (suc i) m n))

sum_each : (f : ℕ → List ℕ) (g : ℕ → ℕ) (s i n : ℕ) → ((k : ℕ) → k < i + n → length (f k) ≡ g (k + s)) → length (each f (from i n)) ≡ sum g (i + s) n
unfolding sum
sum_each f g s i zero e = refl
sum_each f g s i (suc n) e =
    let a : suc (i + s) ≡ suc i + s = omega arith in
    rw (length-append (f i) (each f (from (suc i) n)), e i (omega arith), a, sum_each f g s (suc i) n (λ k l. e k (omega arith)))

-- all rooms together, computed
rooms : sum room 0 all_places ≡ 18198
unfolding digits room sum
rooms = refl

module _ (z : Size) (g : Sized z) where
  wider : (l : Line) → LineIn z l → LineIn widest l
  wider (final q) h = omega (arith, g.few_states_lem)
  wider (arc q v t c) h = (omega (arith, g.few_states_lem), omega (arith, g.few_values), omega (arith, g.few_states_lem), h.3)

  later : (l m : Line) → LineIn z l → LineIn z m → place z l < place z m → place widest l < place widest m
  unfolding place
  later (final p) (final q) h k lt = lt
  later (final p) (arc q v t c) h k lt = omega (arith, g.few_states_lem)
  later (arc p u s b) (final q) h k lt = absurd (omega arith)
  later (arc p u s b) (arc q v t c) h k lt = go (dec_lt p q) (dec_lt q p)
    where
      go : Dec (p < q) → Dec (q < p) → most_states + (p * most_values + u) < most_states + (q * most_values + v)
      go (yes a) d = omega (arith, g.few_values)
      go (no a) (yes d) = let w : q * z.values + v < p * z.values = digits_lt d k.1 in absurd (omega arith)
      go (no a) (no d) = let e : p ≡ q = omega arith in let w : p * z.values ≡ q * z.values = ap (λ (n : ℕ). n * z.values) e in omega arith

  -- lines whose places in the widest sheet are from i on
  lines_short : (n i : ℕ) (ls : List Line) → Rising z n ls → ((l : Line) → LineIn z l → n ≤ place z l → i ≤ place widest l)
      → length (each line_text ls) ≤ sum room i (all_places - i)
  unfolding sum size_right
  lines_short n i [] r h = omega arith
  lines_short n i (l ∷ ls) r h =
      let k : ℕ = place widest l in
      let w : LineIn widest l = wider l r.0 in
      let a : i ≤ k = h l r.0 r.1 in
      let b : k < all_places = place_top widest (size_in_lem most_states most_values 63 refl) l w in
      let e : k - i + suc (all_places - suc k) ≡ all_places - i = omega arith in
      let f : i + (k - i) ≡ k = omega arith in
      let s : sum room i (all_places - i) ≡ sum room i (k - i) + (room k + sum room (suc k) (all_places - suc k)) = rw (e, f) at (sum_split room i (k - i) (suc (all_places - suc k))) in
      rw (length-append (line_text l) (each line_text ls))
      (omega (arith, line_fits l w, lines_short (suc (place z l)) (suc k) ls r.2 (λ m x y. later l m r.0 x y)))

-- NO RIGHT SHEET IS LONGER
pub text_short : (z : Size) (ls : List Line) → Sized z → Rising z 0 ls → length (text_of z ls) ≤ longest_sheet
unfolding text_of
text_short z ls g r =
    let q : z.states ≤ most_states = g.few_states_lem in
    let v : z.values ≤ most_values = g.few_values in
    let s : z.start.0 < z.states = g.start_state in
    rw (length-append (size_text z) (each line_text ls))
    (omega (arith, rooms, lines_short z g 0 0 ls r (λ l a b. omega arith), size_length z, decimal_length 1 z.states (omega arith), decimal_length 1 z.values (omega arith), decimal_length 1 z.start.0 (omega arith)))

pub sheet_short : (text : List ℕ) (z : Size) (ls : List Line) → read_sheet text ≡ sheet z ls → length text ≤ longest_sheet
sheet_short text z ls e = let w : Sheeted text z ls = sheet_read text z ls e in rw w.text (text_short z ls w.size w.rising)

pub right_short : (q v s : ℕ) (t c : List ℕ) (a : ℕ) → rules_right q v s t c a ≡ true → length (sheet_text (rules_of q v t c a) s) ≤ longest_sheet
unfolding rules_right sheet_text
right_short q v s t c a h =
    let p = both (size_right q v s) _ h in
    let g : Sized (size_of q v s) = size_in_lem q v s p.0 in
    text_short (size_of q v s) (lines_of (rules_of q v t c a)) g (lines_rising (rules_of q v t c a) s g (lawful q v t c a (both (tables_long t c) _ p.1).1))

-- and one right sheet is that long: each number with as many digits as it may have, every state accepting, no arc missing
abbrev full_targets : List ℕ
full_targets = replicate table_size 63

abbrev full_costs : List ℕ
full_costs = replicate table_size most_cost

abbrev every_state : ℕ
every_state = 2 ^ most_states - 1

abbrev full : Rules
full = rules_of most_states most_values full_targets full_costs every_state

full_target : (k : ℕ) → k < table_size → get_or full_targets k 0 ≡ 63
full_target k h = get_or-replicate {A = ℕ} table_size k 63 0 h

full_cost : (k : ℕ) → k < table_size → get_or full_costs k 0 ≡ most_cost
full_cost k h = get_or-replicate table_size k most_cost 0 h

pub longest_right : rules_right most_states most_values 63 full_targets full_costs every_state ≡ true
unfolding rules_right size_right tables_long
longest_right = lawful_right full (record { bits = omega arith; entry = λ k h. inr (rw (full_target k h) (omega arith), rw (full_cost k h) (omega arith)) })

-- a rule set whose lines are all there and fill their places
full_length : (r : Rules) (s : ℕ) → ((q : ℕ) → q < 0 + r.arcs.states → length (each line_text (final_line r.accepting q)) ≡ room (q + 0))
    → ((k : ℕ) → k < 0 + r.arcs.states * r.arcs.values → length (each line_text (place_line r.arcs k)) ≡ room (k + r.arcs.states))
    → length (sheet_text r s) ≡ length (size_text (size_of r.arcs.states r.arcs.values s)) + sum room 0 (r.arcs.states + r.arcs.states * r.arcs.values)
unfolding sheet_text text_of
full_length r s x y =
    let qs = from 0 r.arcs.states in
    let ks = from 0 (r.arcs.states * r.arcs.values) in
    rw (lines_flat r, length-append, each_append line_text (each (final_line r.accepting) qs) (each (place_line r.arcs) ks), length-append, each_each line_text (final_line r.accepting) qs, each_each line_text (place_line r.arcs) ks, sum_each (λ q. each line_text (final_line r.accepting q)) room 0 0 _ x, sum_each (λ k. each line_text (place_line r.arcs k)) room r.arcs.states 0 _ y, sum_split) (omega arith)

full_final : (q : ℕ) → q < 0 + most_states → length (each line_text (final_line every_state q)) ≡ room (q + 0)
full_final q h =
    let e : q + 0 ≡ q = omega arith in
    rw (e, bit_ones most_states q, lt-ltb q most_states (omega arith), append-nil (line_text (final q)), final_length q, room_final q (omega arith))

full_arc : (a : Arcs) (k : ℕ) → a.values ≡ most_values → get_or a.targets k 0 ≡ 63 → get_or a.costs k 0 ≡ most_cost → 63 < a.states → k < table_size
    → length (each line_text (place_line a k)) ≡ room (k + most_states)
unfolding decimal
full_arc a k v t c q h =
    let e : k + most_states ≡ most_states + k = omega arith in
    rw (e, t, c, v, lt-ltb 63 a.states q, append-nil (line_text (arc (k / most_values) (k % most_values) 63 most_cost)), room_arc k h)
    (omega (arith, arc_length (k / most_values) (k % most_values) 63 most_cost))

pub longest_sheet_lem : length (sheet_text (rules_of most_states most_values full_targets full_costs every_state) 63) ≡ longest_sheet
unfolding size_text decimal
longest_sheet_lem =
    full_length full 63 full_final (λ k h. full_arc full.arcs k refl (full_target k (omega arith)) (full_cost k (omega arith)) (omega arith) (omega arith)) ∙ omega (arith, rooms)
