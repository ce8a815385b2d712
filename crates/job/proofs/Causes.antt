-- `sheet` and `range` are printed exactly for wrong sheets, each for its cause. Assumes nothing.
use mathlib.Core.Path.{◌≡◌, refl, ap, sym, ◌∙◌}
use mathlib.Core.Logic.{◌⊎◌, inl, inr, ⊎_elim, ◌↔◌}
use mathlib.Core.Bool.{Bool, true, false, cond}
use mathlib.Core.List.{List, [], ◌∷◌, ◌++◌}
use Prim.Native.Nat.{ℕ, ◌+◌, ◌≤◌, ◌<◌}
use native.Mathlib.Omega.{arith}
use native.Mathlib.Decide.{dec_le}
use lib.Dec.{eqb}
use lib.ListN.{length, get_or, drop}
use Rattle.std.specs.Prelude.{Ok, Err}
use Rattle.meaning.specs.Meaning.{Rules, Place, rules_of, rosters, verdict_of}
use Rattle.mending.specs.Mending.{mended}
use Rattle.rules.specs.declared.Size.{Size}
use Rattle.text.specs.Bytes.{feed}
use Rattle.text.specs.Numbers.{field_end}
use Rattle.text.specs.Lines.{Judged, lines, on_judged}
use Rattle.text.specs.declared.lines.Fault.{Fault}
use Rattle.text.proofs.Decimals.{decimal_one}
use Rattle.sheet.specs.Lines.{Line}
use Rattle.sheet.specs.Sheets.{sheet, read_sheet}
use Rattle.sheet.specs.Faults.{FirstWrong}
use Rattle.sheet.specs.Reading.{Outcome, fault_answer}
use Rattle.sheet.proofs.Answering.{reads_right, two_answers}
use Rattle.sheet.proofs.FirstWrong.{right_or_wrong}
use Rattle.job.specs.Input.{longest_input, most_lines, before, parted, after, read_days, Job, days, wrong_line, read_decisions}
use Rattle.job.specs.Output.{none_text, sheet_line, range_line, wrong_text, job_line, kept_line, least_line, kept_lines, verdict_text}
use Rattle.job.specs.Job.{Program, asked, days_done, done_text, rota, job_done, sheet_done, program_text, job_text}
use Rattle.job.specs.Mend.{before_drawn, from_drawn, changes_line, mended_text, wish, wrong_wish, read_wish, wish_text, mend_text, mend, mend_job_text}
use Rattle.job.specs.Mend.{Wish as WishSpec}
use Rattle.job.proofs.Reading.{blank_table, blank_long, long_input, short_input, prints_wrong}

-- the first byte of what is printed: that of `range` is 114 and that of `sheet` 115, and all other words begin with a smaller one
abbrev first_byte : List ℕ → ℕ
first_byte l = get_or l 0 0

lines_apart : (a b m n : ℕ) → (a ≡ 5) ⊎ (a ≡ 13) → (b ≡ 5) ⊎ (b ≡ 13) → wrong_text a m ≡ wrong_text b n → (a ≡ b) × (m ≡ n)
unfolding wrong_text sheet_line range_line field_end
lines_apart a b m n (inl x) (inl y) e =
    let u : wrong_text 5 m ≡ wrong_text 5 n = rw (x, y) at e in (x ∙ sym y, decimal_one (feed ∷ []) m n refl (ap (λ (l : List ℕ). drop 6 l) u))
lines_apart a b m n (inl x) (inr y) e =
    let u : wrong_text 5 m ≡ wrong_text 13 n = rw (x, y) at e in let v : ◌≡◌ {A = ℕ} 115 114 = ap first_byte u in absurd (omega arith)
lines_apart a b m n (inr x) (inl y) e =
    let u : wrong_text 13 m ≡ wrong_text 5 n = rw (x, y) at e in let v : ◌≡◌ {A = ℕ} 114 115 = ap first_byte u in absurd (omega arith)
lines_apart a b m n (inr x) (inr y) e =
    let u : wrong_text 13 m ≡ wrong_text 13 n = rw (x, y) at e in (x ∙ sym y, decimal_one (feed ∷ []) m n refl (ap (λ (l : List ℕ). drop 6 l) u))

wrong_first : (a n : ℕ) → 114 ≤ first_byte (wrong_text a n)
unfolding wrong_text sheet_line range_line
wrong_first a n = go (eqb a 13)
  where
    go : (k : Bool) → 114 ≤ first_byte (cond k (range_line n) (sheet_line n))
    go true = omega arith
    go false = omega arith

job_first : (n : ℕ) → first_byte (job_line n) < 114
unfolding job_line
job_first n = omega arith

-- a program that prints neither word itself
abbrev Apart : Program → Type 0
Apart p = (r : Rules) (s n : ℕ) (ls : List (List ℕ)) → first_byte (p r s n ls) < 114

module _ (p : Program) (apart : Apart p) (s : List ℕ) where
  long_first : longest_input < length s → first_byte (program_text p s) < 114
  long_first h = rw (← long_input p s h) (omega arith)

  days_first : (r : Rules) (q : ℕ) (ls : List (List ℕ)) → first_byte (days_done (p r q) ls) < 114
  unfolding days_done
  days_first r q [] = job_first 1
  days_first r q (l ∷ ls) = go (read_days l)
    where
      go : (x : Judged ℕ) → first_byte (on_judged x (λ n. p r q n ls) (λ y. job_line 1)) < 114
      go (Ok n) = apart r q n ls
      go (Err f) = job_first 1

  job_done_first : (r : Outcome) → first_byte (job_done p s r) < 114
  unfolding job_done
  job_done_first r = go (parted true s)
    where
      go : (k : Bool) → first_byte (cond k (days_done (p (rules_of r.states r.values r.targets r.costs r.accepting) r.start) (lines (after true s))) (job_line 1)) < 114
      go true = days_first (rules_of r.states r.values r.targets r.costs r.accepting) r.start (lines (after true s))
      go false = job_first 1

  right_first : (z : Size) (ls : List Line) → length s ≤ longest_input → read_sheet (before true s) ≡ sheet z ls → first_byte (program_text p s) < 114
  unfolding sheet_done
  right_first z ls h e = rw (← short_input p s h, reads_right (before true s) blank_table blank_table z ls blank_long e) (job_done_first _)

  -- EXACTLY THEN: for each of the two words, by the answer that a fault gets
  pub wrong_exactly : (n : ℕ) (g : Fault) → (program_text p s ≡ wrong_text (fault_answer g) n) ↔ ((length s ≤ longest_input) × ((f : Fault) × (fault_answer f ≡ fault_answer g) × FirstWrong (before true s) n f))
  wrong_exactly n g = (λ e. short e (dec_le (length s) longest_input), λ (h, (f, a, w)). prints_wrong p s n f h w ∙ ap (λ (k : ℕ). wrong_text k n) a)
    where
      told : program_text p s ≡ wrong_text (fault_answer g) n → first_byte (program_text p s) < 114 → ⊥
      told e l = let w : 114 ≤ first_byte (wrong_text (fault_answer g) n) = wrong_first (fault_answer g) n in let k = ap first_byte e in omega arith

      short : program_text p s ≡ wrong_text (fault_answer g) n → Dec (length s ≤ longest_input)
          → (length s ≤ longest_input) × ((f : Fault) × (fault_answer f ≡ fault_answer g) × FirstWrong (before true s) n f)
      short e (no h) = absurd (told e (long_first (omega arith)))
      short e (yes h) =
          ⊎_elim
          (λ (z, ls, r). absurd (told e (right_first z ls h r)))
          (λ (m, f, w).
          let (a, k) = lines_apart (fault_answer f) (fault_answer g) m n (two_answers f) (two_answers g) (sym (prints_wrong p s m f h w) ∙ e) in
          (h, (f, a, rw k at w)))
          (right_or_wrong (before true s))

-- both programs print neither themselves
rota_apart : Apart rota
unfolding rota done_text verdict_text kept_lines kept_line least_line
rota_apart r s n ls = go (read_decisions n r.arcs.values 2 most_lines ls)
  where
    kept_first : (ms : List ℕ) (c : ℕ) → first_byte (kept_lines 0 ms ++ least_line c) < 114
    kept_first [] c = omega arith
    kept_first (m ∷ ms) c = omega arith

    told : (k : Bool) (ms : List ℕ) (c : ℕ) → first_byte (cond k (kept_lines 0 ms ++ least_line c) none_text) < 114
    told true ms c = kept_first ms c
    told false ms c = omega arith

    go : (j : Job) → first_byte (done_text r s j) < 114
    go (wrong_line k) = job_first k
    go (days k ds) = let v = verdict_of r s 0 (asked r k ds) in told (eqb v.answered 0) v.masks v.cheapest

mend_apart : Apart mend
unfolding mend mend_text wish_text mended_text changes_line
mend_apart r s n ls = go (read_decisions n r.arcs.values 2 most_lines (before_drawn ls))
  where
    told : (ds : List ℕ) (ws : List (List ℕ)) → first_byte (mended_text ds ws) < 114
    told ds [] = omega arith
    told ds (w ∷ ws) = omega arith

    wished : (ps : List Place) (x : WishSpec) → first_byte (wish_text r s ps x) < 114
    wished ps (wrong_wish k) = job_first k
    wished ps (wish ds k) = told ds (mended ds k (rosters r s 0 ps))

    go : (j : Job) → first_byte (mend_text r s ls j) < 114
    go (wrong_line k) = job_first k
    go (days k ds) = wished (asked r k ds) (read_wish k r.arcs.values (2 + length (before_drawn ls)) (from_drawn ls))

-- `range` OR `sheet` IS PRINTED EXACTLY for such a sheet
pub job_wrong_exactly : (s : List ℕ) (n : ℕ) (g : Fault) → (job_text s ≡ wrong_text (fault_answer g) n) ↔ ((length s ≤ longest_input) × ((f : Fault) × (fault_answer f ≡ fault_answer g) × FirstWrong (before true s) n f))
unfolding job_text
job_wrong_exactly = wrong_exactly rota rota_apart

pub mend_job_wrong_exactly : (s : List ℕ) (n : ℕ) (g : Fault) → (mend_job_text s ≡ wrong_text (fault_answer g) n) ↔ ((length s ≤ longest_input) × ((f : Fault) × (fault_answer f ≡ fault_answer g) × FirstWrong (before true s) n f))
unfolding mend_job_text
mend_job_wrong_exactly = wrong_exactly mend mend_apart
