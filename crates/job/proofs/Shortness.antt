-- What a program prints has 1,823 bytes at the most, which examples/longest.job prints by rota. Assumes nothing.
use mathlib.Core.Path.{◌≡◌, refl, sym, ◌∙◌}
use mathlib.Core.Bool.{Bool, true, false, cond, ◌&&◌}
use mathlib.Core.List.{List, [], ◌∷◌, ◌++◌, map}
use Prim.Native.Nat.{ℕ, zero, suc, ◌+◌, ◌-◌, ◌^◌, ◌≤◌, ◌<◌}
use native.Mathlib.Omega.{arith}
use lib.Dec.{eqb, ltb}
use lib.ListN.{length, replicate, length-append, length-replicate}
use lib.Pow.{pow_mono}
use borrow.Author.Tests.{eqb-true, ltb-false}
use Rattle.meaning.specs.Meaning.{Rules, rules_of, Place, places, rosters, kept_at, kept, Decision, verdict, verdict_of}
use Rattle.meaning.specs.Lists.{from}
use Rattle.meaning.specs.Bounds.{most_values, table_size, top}
use Rattle.meaning.proofs.Members.{length_places}
use Rattle.meaning.proofs.Kept.{kept_lt}
use Rattle.meaning.proofs.Verdicts.{verdict_cheap}
use Rattle.meaning.proofs.Decisions.{length_decides}
use Rattle.text.specs.Bytes.{feed}
use Rattle.text.specs.Lines.{Judged, lines, on_judged}
use Rattle.std.specs.Prelude.{Ok, Err}
use Rattle.text.specs.Numbers.{decimal}
use Rattle.text.specs.Writing.{Wrote}
use Rattle.text.proofs.Decimals.{decimal_length, field_length}
use Rattle.sheet.specs.Reading.{Outcome, read_of}
use Rattle.sheet.proofs.WrongLine.{read_line_lem}
use Rattle.job.specs.Input.{longest_input, longest_output, most_days, most_lines, before, parted, after, read_days, read_decision, Job, days, wrong_line, with_decision, read_decisions}
use Rattle.job.specs.Output.{long_text, none_text, sheet_line, range_line, wrong_text, job_line, kept_line, least_line, kept_lines, verdict_text}
use Rattle.job.specs.Job.{Program, asked, days_done, done_text, rota, job_done, sheet_done, program_text, job_text}
use Rattle.job.proofs.Planning.{right_size, days_range}
use Rattle.job.proofs.Reading.{read_right}

-- the most that is printed
abbrev pub most_printed : ℕ
most_printed = 1823

-- the lines
wrong_text_lem : (a n : ℕ) → n < 100000 → length (wrong_text a n) ≤ most_printed
unfolding wrong_text range_line sheet_line
wrong_text_lem a n h = go (eqb a 13)
  where
    go : (k : Bool) → length (cond k (range_line n) (sheet_line n)) ≤ most_printed
    go true = simp (field_length) (omega (arith, decimal_length 4 n h))
    go false = simp (field_length) (omega (arith, decimal_length 4 n h))

pub job_line_lem : (n : ℕ) → n < 1000 → length (job_line n) ≤ most_printed
unfolding job_line
job_line_lem n h = simp (field_length) (omega (arith, decimal_length 2 n h))

kept_line_lem : (i m : ℕ) → m < 100000 → length (kept_line i m) ≤ 12 + length (decimal i)
unfolding kept_line
kept_line_lem i m h = simp (field_length) (omega (arith, decimal_length 4 m h))

least_line_lem : (c : ℕ) → c < 1000000 → length (least_line c) ≤ 13
unfolding least_line
least_line_lem c h = simp (field_length) (omega (arith, decimal_length 5 c h))

-- the kept lines of n places from i on, where every mask has five digits
kept_room : ℕ → ℕ → ℕ
kept_room i zero = 0
kept_room i (suc n) = 12 + length (decimal i) + kept_room (suc i) n

room_more : (i n k : ℕ) → kept_room i n ≤ kept_room i (n + k)
unfolding kept_room
room_more i zero k = omega arith
room_more i (suc n) k = let e : suc n + k ≡ suc (n + k) = omega arith in rw e (omega (arith, room_more (suc i) n k))

room_most : kept_room 0 most_days ≡ 1810
unfolding decimal kept_room
room_most = refl

kept_lines_lem : (f : ℕ → ℕ) → ((i : ℕ) → f i < 100000) → (i n : ℕ) → length (kept_lines i (map f (from i n))) ≤ kept_room i n
unfolding kept_lines kept_room
kept_lines_lem f g i zero = omega arith
kept_lines_lem f g i (suc n) = rw (length-append (kept_line i (f i)) (kept_lines (suc i) (map f (from (suc i) n)))) (omega (arith, kept_line_lem i (f i) (g i), kept_lines_lem f g (suc i) n))

-- what a filter tells
masks_short : (r : Rules) (q : ℕ) (ps : List Place) → r.arcs.values ≤ most_values → length ps ≤ most_days → length (kept_lines 0 (verdict_of r q 0 ps).masks) ≤ 1810
unfolding verdict_of kept
masks_short r q ps hv hn =
    let p : 2 ^ r.arcs.values ≤ 2 ^ most_values = pow_mono hv in
    let k : length (kept_lines 0 (kept r.arcs.values (length ps) (rosters r q 0 ps))) ≤ kept_room 0 (length ps) =
    kept_lines_lem (kept_at r.arcs.values (rosters r q 0 ps)) (λ i. omega (arith, kept_lt r.arcs.values (rosters r q 0 ps) i)) 0 (length ps) in
    let e : length ps + (most_days - length ps) ≡ most_days = omega arith in
    let m : kept_room 0 (length ps) ≤ kept_room 0 most_days = rw e at (room_more 0 (length ps) (most_days - length ps)) in
    omega (arith, room_most)

top_short : (c : ℕ) → c ≤ top → c < 1000000
unfolding top
top_short c h = omega arith

text_short : (a c : ℕ) (ks : List ℕ) → length (kept_lines 0 ks) ≤ 1810 → c ≤ top → length (verdict_text (verdict a ks c)) ≤ most_printed
unfolding verdict_text
text_short a c ks hk hc = go (eqb a 0)
  where
    go : (t : Bool) → length (cond t (kept_lines 0 ks ++ least_line c) none_text) ≤ most_printed
    go true = rw (length-append (kept_lines 0 ks) (least_line c)) (omega (arith, least_line_lem c (top_short c hc)))
    go false = omega arith

verdict_short : (r : Rules) (q : ℕ) (ps : List Place) → r.arcs.values ≤ most_values → length ps ≤ most_days → length (verdict_text (verdict_of r q 0 ps)) ≤ most_printed
verdict_short r q ps hv hn = text_short (verdict_of r q 0 ps).answered (verdict_of r q 0 ps).cheapest (verdict_of r q 0 ps).masks (masks_short r q ps hv hn) (verdict_cheap r q 0 ps (omega arith))

-- a job's days and its wrong line; and of a right job, which has c lines with the days line, there are no more than it may have
abbrev pub JobIn : ℕ → Job → Type 0
JobIn c (days n ds) = (n ≤ most_days) × (c ≤ 514)
JobIn c (wrong_line k) = k ≤ 514

with_in : (c : ℕ) (d : Decision) (j : Job) → JobIn c j → JobIn c (with_decision d j)
with_in c d (days n ds) h = h
with_in c d (wrong_line k) h = h

pub decisions_in : (n v k room : ℕ) (ls : List (List ℕ)) → n ≤ most_days → k + room ≤ 514 → JobIn (k + length ls) (read_decisions n v k room ls)
unfolding read_decisions
decisions_in n v k room [] h r = (h, omega arith)
decisions_in n v k zero (l ∷ ls) h r = omega arith
decisions_in n v k (suc room) (l ∷ ls) h r =
    let e : k + suc (length ls) ≡ suc k + length ls = omega arith in
    rw e (go (read_decision n v l) (decisions_in n v (suc k) room ls h (omega arith)))
  where
    go : (x : Judged Decision) → JobIn (suc k + length ls) (read_decisions n v (suc k) room ls) → JobIn (suc k + length ls) (on_judged x (λ d. with_decision d (read_decisions n v (suc k) room ls)) (λ y. wrong_line k))
    go (Ok d) m = with_in (suc k + length ls) d (read_decisions n v (suc k) room ls) m
    go (Err f) m = omega arith

pub asked_length : (r : Rules) (n : ℕ) (ds : List Decision) → length (asked r n ds) ≡ n
asked_length r n ds =
    length_decides (places (replicate n (2 ^ r.arcs.values - 1)) (replicate n top)) ds
    ∙ (length_places (replicate n (2 ^ r.arcs.values - 1)) (replicate n top) (length-replicate n (2 ^ r.arcs.values - 1) ∙ sym (length-replicate n top)) ∙ length-replicate n (2 ^ r.arcs.values - 1))

done_short : (r : Rules) (s c : ℕ) (j : Job) → r.arcs.values ≤ most_values → JobIn c j → length (done_text r s j) ≤ most_printed
unfolding done_text
done_short r s c (wrong_line k) hv h = job_line_lem k (omega arith)
done_short r s c (days n ds) hv h = verdict_short r s (asked r n ds) hv (omega (arith, asked_length r n ds, h.0))

-- a program that prints no more
abbrev pub Short : Program → Type 0
Short p = (r : Rules) (s n : ℕ) (ls : List (List ℕ)) → r.arcs.values ≤ most_values → n ≤ most_days → length (p r s n ls) ≤ most_printed

rota_short : Short rota
unfolding rota
rota_short r s n ls hv hn = done_short r s (2 + length ls) (read_decisions n r.arcs.values 2 most_lines ls) hv (decisions_in n r.arcs.values 2 most_lines ls hn (omega arith))

-- the sheet is a part of the input
before_length : (start : Bool) (s : List ℕ) → length (before start s) ≤ length s
unfolding before
before_length start [] = omega arith
before_length start (b ∷ s) = go (start && eqb b feed) (before_length (eqb b feed) s)
  where
    go : (t : Bool) → length (before (eqb b feed) s) ≤ length s → length (cond t [] (b ∷ before (eqb b feed) s)) ≤ suc (length s)
    go true h = omega arith
    go false h = omega arith

module _ (p : Program) (short : Short p) where
  days_done_lem : (r : Rules) (s : ℕ) (ls : List (List ℕ)) → r.arcs.values ≤ most_values → length (days_done (p r s) ls) ≤ most_printed
  unfolding days_done
  days_done_lem r s [] hv = job_line_lem 1 (omega arith)
  days_done_lem r s (l ∷ ls) hv = go (read_days l) refl
    where
      go : (x : Judged ℕ) → read_days l ≡ x → length (on_judged x (λ n. p r s n ls) (λ y. job_line 1)) ≤ most_printed
      go (Ok n) e = short r s n ls hv (days_range l n (sym e)).1
      go (Err f) e = job_line_lem 1 (omega arith)

  -- of a right sheet
  job_done_lem : (s x t c : List ℕ) → (read_of x t c).answer ≡ 0 → length (job_done p s (read_of x t c)) ≤ most_printed
  unfolding job_done
  job_done_lem s x t c e = go (parted true s)
    where
      r : Outcome
      r = read_of x t c

      few : r.values ≤ most_values
      few = (right_size _ _ _ _ _ _ (read_right x t c r.answer r.line r.states r.values r.start r.accepting r.targets r.costs refl e)).few_values

      go : (k : Bool) → length (cond k (days_done (p (rules_of r.states r.values r.targets r.costs r.accepting) r.start) (lines (after true s))) (job_line 1)) ≤ most_printed
      go true = days_done_lem (rules_of r.states r.values r.targets r.costs r.accepting) r.start (lines (after true s)) few
      go false = job_line_lem 1 (omega arith)

  sheet_done_lem : (s x t c : List ℕ) → length x ≤ longest_input → length (sheet_done p s (read_of x t c)) ≤ most_printed
  unfolding sheet_done
  sheet_done_lem s x t c h = go (eqb (read_of x t c).answer 0) refl
    where
      go : (k : Bool) → eqb (read_of x t c).answer 0 ≡ k → length (cond k (job_done p s (read_of x t c)) (wrong_text (read_of x t c).answer (read_of x t c).line)) ≤ most_printed
      go true e = job_done_lem s x t c (eqb-true _ _ e)
      go false e = wrong_text_lem (read_of x t c).answer (read_of x t c).line (omega (arith, read_line_lem x t c))

  pub program_most : (s : List ℕ) → length (program_text p s) ≤ most_printed
  unfolding program_text
  program_most s = go (ltb longest_input (length s)) refl
    where
      go : (k : Bool) → ltb longest_input (length s) ≡ k → length (cond k long_text (sheet_done p s (read_of (before true s) (replicate table_size 0) (replicate table_size 0)))) ≤ most_printed
      go true e = omega arith
      go false e = sheet_done_lem s (before true s) (replicate table_size 0) (replicate table_size 0) (omega (arith, before_length true s, ltb-false longest_input (length s) e))

-- NO OUTPUT IS LONGER THAN WHAT A PROGRAM LENDS FOR IT
pub job_most : (s : List ℕ) → length (job_text s) ≤ most_printed
unfolding job_text
job_most s = program_most rota rota_short s

pub job_short : (s : List ℕ) → length (job_text s) ≤ longest_output
job_short s = omega (arith, job_most s)

-- so the length that `job` gives, which counts as far as places can be counted, is no larger
pub job_fits : (input before after : List ℕ) (next : ℕ) → Wrote before 0 (job_text input) after next → next ≤ longest_output
job_fits input before after next w = omega (arith, job_short input, w.ends)
