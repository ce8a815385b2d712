-- WHAT IS ASKED OF THE PROGRAM `pattern`: what it prints for which input, that the writer takes each of its sheets, and that its buffers suffice. Assumes nothing.
use mathlib.Core.Path.{◌≡◌, refl, sym, ap, ap₂, ◌∙◌, subst}
use mathlib.Core.Bool.{Bool, true, false, cond}
use mathlib.Core.Logic.{◌↔◌}
use mathlib.Core.List.{List, [], ◌∷◌, ◌++◌, append_assoc}
use Prim.Native.Nat.{ℕ, suc, ◌+◌, ◌-◌, ◌*◌, ◌≤◌}
use native.Mathlib.Omega.{arith}
use native.Mathlib.Decide.{dec_le}
use lib.Dec.{eqb}
use lib.ListN.{length, get_or, take, drop, replicate, length-append, take-append-drop}
use lib.Seq.{take-suc, take_all, take-length, take_at, take-take, length-take-le}
use borrow.Author.Tests.{eqb-true, eqb-false, eq-eqb, ne_eqb}
use Rattle.meaning.specs.Bounds.{most_states, most_values, table_size}
use Rattle.meaning.specs.Meaning.{Rules}
use Rattle.rules.specs.Checks.{tables_long, rules_right}
use Rattle.numbering.specs.Numbering.{MoreThan}
use Rattle.text.specs.Bytes.{tab, feed}
use Rattle.text.specs.Numbers.{decimal, Field, number, malformed, outside, read_field}
use Rattle.text.specs.Writing.{Wrote}
use Rattle.text.proofs.Decimals.{decimal_length, field_length, field_decimal, Fielded, field_read}
use Rattle.patterns.specs.Pattern.{Pattern}
use Rattle.patterns.specs.Line.{Kind, Spells, by_letter, by_group, plain, starred, plussed, asked, single, joined, alone, barred, RightLine}
use Rattle.patterns.specs.Places.{onward}
use Rattle.patterns.specs.Outcome.{Outcome, made_of, states_of, count_right, pattern_of}
use Rattle.patterns.proofs.Demand.{wrong_exactly, many_exactly, done_exactly}
use Rattle.sheet.specs.Lines.{size_text}
use Rattle.sheet.specs.Sheets.{text_of, sheet_text}
use Rattle.sheet.specs.Reading.{read_left, read_of}
use Rattle.scribe.specs.Writing.{longest_sheet, write_left, write_of}
use Rattle.scribe.proofs.Longest.{right_short}
use Rattle.scribe.proofs.Outcomes.{right_writes, right_room}
use Rattle.scribe.proofs.RoundTrip.{written_reads}
use Rattle.drafter.specs.Drafting.{longest_input, line_of, values_line, pattern_line, states_line, draft_of, drafted, pattern_job_text, InputFor, with_feed, without}
use Rattle.drafter.proofs.Making.{line_fed, line_whole, last_of, zeros_long, count_in, made_right}

-- THE WRITER WRITES THE SHEET OF A PATTERN, into any buffer that has room for it, and what it wrote reads as the same rule set
module _ (l : List ℕ) (v : ℕ) (t c : List ℕ) (count : count_right v ≡ true) (long : tables_long t c ≡ true) (done : (pattern_of l v t c).answer ≡ 0) where
  abbrev made : Outcome
  made = pattern_of l v t c

  right : rules_right made.states made.values made.start made.targets made.costs made.accepting ≡ true
  right = made_right l v t c count long (λ h. absurd (omega arith)) (λ h. absurd (omega arith))

  pub pattern_writes : (b : List ℕ) → ((write_of (made_of made) made.start b).answer ≡ 0) ↔ (length (sheet_text (made_of made) made.start) ≤ length b)
  pattern_writes b = (right_room (made_of made) made.start b right, λ h. ap (λ r. r.answer) (right_writes (made_of made) made.start b right h))

  pub pattern_reads : (b : List ℕ) (n : ℕ) (b2 xs ys : List ℕ) → write_of (made_of made) made.start b ≡ write_left 0 n b2 → tables_long xs ys ≡ true → let k = made.states * made.values in
      read_of (take n b2) xs ys ≡ read_left 0 0 made.states made.values made.start made.accepting (take k made.targets ++ drop k xs) (take k made.costs ++ drop k ys)
  pattern_reads b n b2 xs ys = written_reads made.states made.values made.start made.targets made.costs made.accepting b n b2 xs ys

-- a text whose last byte is no line feed
record Unfed (s : List ℕ) : Type 0 where
  some : 1 ≤ length s
  unfed : get_or s (length s - 1) 0 ≡ feed → ⊥

unfed_behind : (s t : List ℕ) → Unfed t → Unfed (s ++ t)
unfed_behind s t u = record { some = omega (arith, u.some, length-append s t); unfed = λ e. u.unfed (sym (last_of s t u.some) ∙ e) }

unfed_byte : (s : List ℕ) (b : ℕ) → (b ≡ feed → ⊥) → Unfed (s ++ (b ∷ []))
unfed_byte s b h = unfed_behind s (b ∷ []) (record { some = omega arith; unfed = h })

-- so ends every right line
spelled_unfed : {k : Kind} {d : ℕ} {p : Pattern} {s : List ℕ} → Spells k d p s → Unfed s
spelled_unfed (by_letter v h) = unfed_byte [] (97 + v) (λ e. absurd (omega arith))
spelled_unfed (by_group {s = s} m) = unfed_byte (40 ∷ s) 41 (λ e. absurd (omega arith))
spelled_unfed (plain m) = spelled_unfed m
spelled_unfed (starred {s = s} m) = unfed_byte s 42 (λ e. absurd (omega arith))
spelled_unfed (plussed {s = s} m) = unfed_byte s 43 (λ e. absurd (omega arith))
spelled_unfed (asked {s = s} m) = unfed_byte s 63 (λ e. absurd (omega arith))
spelled_unfed (single m) = spelled_unfed m
spelled_unfed (joined {s = s} {t = t} m n) = unfed_behind s t (spelled_unfed n)
spelled_unfed (alone m) = spelled_unfed m
spelled_unfed (barred {s = s} {t = t} m n) = unfed_behind s (124 ∷ t) (unfed_behind (124 ∷ []) t (spelled_unfed n))

-- a right line never ends with a line feed
pub right_without : (v : ℕ) (l : List ℕ) (p : Pattern) → RightLine v l p → InputFor v l (decimal v ++ (tab ∷ l))
right_without v l p r = without (spelled_unfed r.spelled).unfed

behind_tab : (l : List ℕ) → (get_or (tab ∷ l) (length (tab ∷ l) - 1) 0 ≡ feed) ↔ (get_or l (length l - 1) 0 ≡ feed)
behind_tab [] = (λ e. absurd (omega arith), λ e. absurd (omega arith))
behind_tab (b ∷ l) = let w = last_of (tab ∷ []) (b ∷ l) (omega arith) in (λ e. sym w ∙ e, λ e. w ∙ e)

input_line : (v : ℕ) (l s : List ℕ) → InputFor v l s → line_of s ≡ decimal v ++ (tab ∷ l)
input_line v l s with_feed = ap line_of (sym (append_assoc (decimal v) (tab ∷ l) (feed ∷ []))) ∙ cut (decimal v ++ (tab ∷ l))
  where
    cut : (x : List ℕ) → line_of (x ++ (feed ∷ [])) ≡ x
    cut x = sym (line_fed (x ++ (feed ∷ [])) (last_of x (feed ∷ []) (omega arith))) ∙ take_at x (feed ∷ []) (length (x ++ (feed ∷ [])) - 1) (omega (arith, length-append x (feed ∷ [])))
input_line v l s (without h) = sym (line_whole s (λ e. h ((behind_tab l).0 (sym (last_of (decimal v) (tab ∷ l) (omega arith)) ∙ e))))

-- the texts are told from each other by their second bytes, `pattern` and `values` by the first
sheet_second : (r : Rules) (s : ℕ) → get_or (sheet_text r s) 1 0 ≡ 105
unfolding sheet_text text_of size_text
sheet_second r s = refl

abbrev second : List ℕ → ℕ
second x = get_or x 1 0

prints_pattern : (o : Outcome) → (draft_of o ≡ pattern_line) ↔ (o.answer ≡ 15)
unfolding draft_of
prints_pattern o = (λ e. fwd (eqb o.answer 15) refl (eqb o.answer 14) e, λ h. rw (eq-eqb o.answer 15 h))
  where
    fwd : (a : Bool) → eqb o.answer 15 ≡ a → (b : Bool) → cond a pattern_line (cond b states_line (sheet_text (made_of o) o.start)) ≡ pattern_line → o.answer ≡ 15
    fwd true h b e = eqb-true o.answer 15 h
    fwd false h true e = let z : ◌≡◌ {A = ℕ} 116 97 = ap second e in absurd (omega arith)
    fwd false h false e = let z : ◌≡◌ {A = ℕ} 105 97 = sym (sheet_second (made_of o) o.start) ∙ ap second e in absurd (omega arith)

prints_states : (o : Outcome) → (draft_of o ≡ states_line) ↔ (o.answer ≡ 14)
unfolding draft_of
prints_states o = (λ e. fwd (eqb o.answer 15) (eqb o.answer 14) refl e, λ h. rw (ne_eqb o.answer 15 (λ k. absurd (omega arith)), eq-eqb o.answer 14 h))
  where
    fwd : (a b : Bool) → eqb o.answer 14 ≡ b → cond a pattern_line (cond b states_line (sheet_text (made_of o) o.start)) ≡ states_line → o.answer ≡ 14
    fwd true b h e = let z : ◌≡◌ {A = ℕ} 97 116 = ap second e in absurd (omega arith)
    fwd false true h e = eqb-true o.answer 14 h
    fwd false false h e = let z : ◌≡◌ {A = ℕ} 105 116 = sym (sheet_second (made_of o) o.start) ∙ ap second e in absurd (omega arith)

not_values : (o : Outcome) → draft_of o ≡ values_line → ⊥
unfolding draft_of
not_values o e = go (eqb o.answer 15) (eqb o.answer 14) e
  where
    go : (a b : Bool) → cond a pattern_line (cond b states_line (sheet_text (made_of o) o.start)) ≡ values_line → ⊥
    go true b e = let z : ◌≡◌ {A = ℕ} 112 118 = ap (λ (x : List ℕ). get_or x 0 0) e in absurd (omega arith)
    go false true e = let z : ◌≡◌ {A = ℕ} 116 97 = ap second e in absurd (omega arith)
    go false false e = let z : ◌≡◌ {A = ℕ} 105 97 = sym (sheet_second (made_of o) o.start) ∙ ap second e in absurd (omega arith)

abbrev read : ℕ → List ℕ → Outcome
read v l = pattern_of l v (replicate table_size 0) (replicate table_size 0)

module _ (v : ℕ) (l s : List ℕ) (low : 1 ≤ v) (high : v ≤ most_values) (input : InputFor v l s) where
  printed : pattern_job_text s ≡ draft_of (read v l)
  unfolding pattern_job_text drafted
  printed = rw (input_line v l s input, field_decimal 1 most_values v l low high)

  count : count_right v ≡ true
  count = count_in v low high

  -- IT PRINTS `pattern` exactly if the line is not right
  pub draft_pattern : (pattern_job_text s ≡ pattern_line) ↔ ((p : Pattern) → RightLine v l p → ⊥)
  draft_pattern =
      let a = prints_pattern (read v l) in
      let w = wrong_exactly l v (replicate table_size 0) (replicate table_size 0) count zeros_long in
      (λ e. w.0 (a.0 (sym printed ∙ e)), λ n. printed ∙ a.1 (w.1 n))

  module _ (p : Pattern) (line : RightLine v l p) where
    -- `states` exactly if a right line has more than 64 states
    pub draft_states : (pattern_job_text s ≡ states_line) ↔ MoreThan (onward p) v 0 most_states
    draft_states =
        let a = prints_states (read v l) in
        let w = many_exactly l v (replicate table_size 0) (replicate table_size 0) count zeros_long p line in
        (λ e. w.0 (a.0 (sym printed ∙ e)), λ n. printed ∙ a.1 (w.1 n))

    -- AND THE SHEET'S TEXT if it has not
    pub draft_sheet : length (states_of v p) ≤ most_states → pattern_job_text s ≡ sheet_text (made_of (read v l)) (read v l).start
    unfolding draft_of
    draft_sheet few =
        let z = (done_exactly l v (replicate table_size 0) (replicate table_size 0) count zeros_long p line).1 few in
        printed ∙ rw (ne_eqb (read v l).answer 15 (λ h. absurd (omega arith)), ne_eqb (read v l).answer 14 (λ h. absurd (omega arith)))

fed_some : (s : List ℕ) → get_or s (length s - 1) 0 ≡ feed → 1 ≤ length s
fed_some [] h = absurd (omega arith)
fed_some (b ∷ s) h = omega arith

-- every input whose line begins with a number in range and a tab is one of these
line_input : (v : ℕ) (l s : List ℕ) → line_of s ≡ decimal v ++ (tab ∷ l) → InputFor v l s
line_input v l s e = go (eqb (get_or s (length s - 1) 0) feed) refl
  where
    go : (b : Bool) → eqb (get_or s (length s - 1) 0) feed ≡ b → InputFor v l s
    go true k =
        let h : get_or s (length s - 1) 0 ≡ feed = eqb-true _ _ k in
        let some : 1 ≤ length s = fed_some s h in
        let n : suc (length s - 1) ≡ length s = omega arith in
        let w : s ≡ take (length s - 1) s ++ (get_or s (length s - 1) 0 ∷ []) = sym (take-length s) ∙ ap (λ (k : ℕ). take k s) (sym n) ∙ take-suc s (length s - 1) 0 (omega arith) in
        let u : s ≡ decimal v ++ (tab ∷ (l ++ (feed ∷ []))) =
        w ∙ ap₂ (λ (x : List ℕ) (b : ℕ). x ++ (b ∷ [])) (line_fed s h ∙ e) h ∙ append_assoc (decimal v) (tab ∷ l) (feed ∷ []) in
        subst (InputFor v l) (sym u) with_feed
    go false k =
        let h : get_or s (length s - 1) 0 ≡ feed → ⊥ = eqb-false _ _ k in
        let u : s ≡ decimal v ++ (tab ∷ l) = line_whole s h ∙ e in
        subst (InputFor v l) (sym u) (without (λ z. h (ap (λ (x : List ℕ). get_or x (length x - 1) 0) u ∙ last_of (decimal v) (tab ∷ l) (omega arith) ∙ (behind_tab l).1 z)))

-- `values` exactly if the input is for no V in range and no line
pub draft_values : (s : List ℕ) → (pattern_job_text s ≡ values_line) ↔ ((v : ℕ) (l : List ℕ) → 1 ≤ v → v ≤ most_values → InputFor v l s → ⊥)
unfolding pattern_job_text drafted
draft_values s = (λ e v l low high input. not_values (read v l) (sym (printed v l s low high input) ∙ e), bwd (read_field 1 most_values (line_of s)) refl)
  where
    bwd : (x : Field) → read_field 1 most_values (line_of s) ≡ x → ((v : ℕ) (l : List ℕ) → 1 ≤ v → v ≤ most_values → InputFor v l s → ⊥) → drafted x ≡ values_line
    bwd malformed e n = refl
    bwd outside e n = refl
    bwd (number v l) e n = let f = field_read 1 most_values (line_of s) v l e in absurd (n v l f.low f.high (line_input v l s f.text))

-- IT PRINTS NO MORE THAN ITS BUFFER HOLDS
drafted_short : (x : Field) (s : List ℕ) → read_field 1 most_values s ≡ x → length (drafted x) ≤ longest_sheet
unfolding drafted draft_of
drafted_short malformed s e = omega arith
drafted_short outside s e = omega arith
drafted_short (number v l) s e = go (eqb (read v l).answer 15) refl (eqb (read v l).answer 14) refl
  where
    go : (a : Bool) → eqb (read v l).answer 15 ≡ a → (b : Bool) → eqb (read v l).answer 14 ≡ b
        → length (cond a pattern_line (cond b states_line (sheet_text (made_of (read v l)) (read v l).start))) ≤ longest_sheet
    go true h b k = omega arith
    go false h true k = omega arith
    go false h false k =
        let f = field_read 1 most_values s v l e in
        let r = made_right l v (replicate table_size 0) (replicate table_size 0) (count_in v f.low f.high) zeros_long (eqb-false _ _ h) (eqb-false _ _ k) in
        right_short (read v l).states (read v l).values (read v l).start (read v l).targets (read v l).costs (read v l).accepting r

pub pattern_job_short : (s : List ℕ) → length (pattern_job_text s) ≤ longest_sheet
unfolding pattern_job_text
pattern_job_short s = drafted_short (read_field 1 most_values (line_of s)) (line_of s) refl

pub pattern_job_fits : (input before after : List ℕ) (next : ℕ) → Wrote before 0 (pattern_job_text input) after next → next ≤ longest_sheet
pattern_job_fits input before after next w = omega (arith, pattern_job_short input, w.ends)

-- IT NEED NOT READ ON PAST THE LONGEST INPUT: where the line is as long, no line is right behind any V
module _ (x : List ℕ) (v : ℕ) (l : List ℕ) (e : read_field 1 most_values x ≡ number v l) where
  field : Fielded 1 most_values x v l
  field = field_read 1 most_values x v l e

  digits : length (decimal v) ≤ 2
  digits = decimal_length 1 v (omega (arith, field.high))

  too_long : longest_input ≤ length x → drafted (number v l) ≡ pattern_line
  unfolding drafted
  too_long h =
      let n : length x ≡ length (decimal v) + suc (length l) = ap length field.text ∙ field_length v tab l in
      (prints_pattern (read v l)).1
      ((wrong_exactly l v (replicate table_size 0) (replicate table_size 0) (count_in v field.low field.high) zeros_long).1 (λ p r. absurd (omega (arith, r.short, digits))))

  -- another text with the same three bytes in front
  same_count : (y : List ℕ) → take 3 x ≡ take 3 y → (m : List ℕ) × (read_field 1 most_values y ≡ number v m)
  same_count y h =
      let k = suc (length (decimal v)) in
      let head = decimal v ++ (tab ∷ []) in
      let fx : take k x ≡ head = ap (take k) (field.text ∙ sym (append_assoc (decimal v) (tab ∷ []) l)) ∙ take_at head l k (omega (arith, field_length v tab [])) in
      let fy : take k y ≡ head = sym (take-take k 3 y (omega (arith, digits))) ∙ ap (take k) (sym h) ∙ take-take k 3 x (omega (arith, digits)) ∙ fx in
      let w : y ≡ decimal v ++ (tab ∷ drop k y) = sym (take-append-drop k y) ∙ ap (λ (z : List ℕ). z ++ drop k y) fy ∙ append_assoc (decimal v) (tab ∷ []) (drop k y) in
      (drop k y, ap (read_field 1 most_values) w ∙ field_decimal 1 most_values v (drop k y) field.low field.high)

number_alike : (x y : List ℕ) → longest_input ≤ length x → longest_input ≤ length y → take 3 x ≡ take 3 y → (v : ℕ) (l : List ℕ) → read_field 1 most_values x ≡ number v l
    → drafted (read_field 1 most_values x) ≡ drafted (read_field 1 most_values y)
number_alike x y h k e v l p =
    let q = same_count x v l p y e in
    ap drafted p ∙ too_long x v l p h ∙ sym (ap drafted q.1 ∙ too_long y v q.0 q.1 k)

long_alike : (x y : List ℕ) → longest_input ≤ length x → longest_input ≤ length y → take 3 x ≡ take 3 y → drafted (read_field 1 most_values x) ≡ drafted (read_field 1 most_values y)
unfolding drafted
long_alike x y h k e = go (read_field 1 most_values x) refl (read_field 1 most_values y) refl
  where
    go : (f : Field) → read_field 1 most_values x ≡ f → (g : Field) → read_field 1 most_values y ≡ g → drafted (read_field 1 most_values x) ≡ drafted (read_field 1 most_values y)
    go (number v l) p g q = number_alike x y h k e v l p
    go malformed p (number w m) q = sym (number_alike y x k h (sym e) w m q)
    go outside p (number w m) q = sym (number_alike y x k h (sym e) w m q)
    go malformed p malformed q = ap drafted (p ∙ sym q)
    go malformed p outside q = ap drafted p ∙ sym (ap drafted q)
    go outside p malformed q = ap drafted p ∙ sym (ap drafted q)
    go outside p outside q = ap drafted (p ∙ sym q)

-- a line is its input but for one byte at the end
line_long : (s : List ℕ) → length s - 1 ≤ length (line_of s)
unfolding line_of
line_long s = go (eqb (get_or s (length s - 1) 0) feed)
  where
    go : (b : Bool) → length s - 1 ≤ length (cond b (take (length s - 1) s) s)
    go true = omega (arith, length-take-le (length s - 1) s (omega arith))
    go false = omega arith

line_front : (s : List ℕ) (n : ℕ) → n ≤ length s - 1 → take n (line_of s) ≡ take n s
unfolding line_of
line_front s n h = go (eqb (get_or s (length s - 1) 0) feed)
  where
    go : (b : Bool) → take n (cond b (take (length s - 1) s) s) ≡ take n s
    go true = take-take n (length s - 1) s h
    go false = refl

pub long_same : (s : List ℕ) → pattern_job_text (take (suc longest_input) s) ≡ pattern_job_text s
unfolding pattern_job_text
long_same s = go (dec_le (length s) (suc longest_input))
  where
    go : Dec (length s ≤ suc longest_input) → drafted (read_field 1 most_values (line_of (take (suc longest_input) s))) ≡ drafted (read_field 1 most_values (line_of s))
    go (yes h) = ap (λ (x : List ℕ). drafted (read_field 1 most_values (line_of x))) (take_all (suc longest_input) s h)
    go (no h) =
        let n : length (take (suc longest_input) s) ≡ suc longest_input = length-take-le (suc longest_input) s (omega arith) in
        long_alike (line_of (take (suc longest_input) s)) (line_of s) (omega (arith, line_long (take (suc longest_input) s))) (omega (arith, line_long s))
        (line_front (take (suc longest_input) s) 3 (omega arith) ∙ take-take 3 (suc longest_input) s (omega arith) ∙ sym (line_front s 3 (omega arith)))
