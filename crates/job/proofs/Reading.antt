-- What is printed by what the reader says of the sheet. Assumes nothing.
use mathlib.Core.Path.{◌≡◌, refl, ap, sym, ◌∙◌, subst}
use mathlib.Core.Bool.{true, false}
use mathlib.Core.List.{List}
use Prim.Native.Nat.{ℕ, ◌-◌, ◌<◌, ◌≤◌}
use native.Mathlib.Omega.{arith}
use lib.ListN.{length, take, drop, replicate, length-drop}
use lib.Seq.{take_all}
use borrow.Author.Tests.{eq-eqb, ne_eqb, lt-ltb, le-ltb}
use Rattle.meaning.specs.Meaning.{rules_of}
use Rattle.meaning.specs.Bounds.{table_size}
use Rattle.std.specs.Prelude.{Err}
use Rattle.rules.specs.Checks.{tables_long, rules_right}
use Rattle.rules.specs.Answers.{number_of}
use Rattle.rules.specs.declared.Answer.{Answer}
use Rattle.rules.proofs.Refusals.{number_some}
use Rattle.text.specs.Lines.{lines}
use Rattle.text.specs.declared.lines.Fault.{Fault}
use Rattle.sheet.specs.Faults.{FirstWrong}
use Rattle.sheet.specs.Reading.{Outcome, read_left, fault_answer, unread_answer, unread_line, read_given, read_of}
use Rattle.sheet.specs.declared.Unread.{Unread}
use Rattle.sheet.proofs.Answering.{reads_wrong, fault_answers}
use Rattle.sheet.proofs.FirstWrong.{first_wrong}
use Rattle.sheet.proofs.OneText.{one_text}
use Rattle.job.specs.Input.{longest_input, before, parted, after}
use Rattle.job.specs.Output.{long_text, wrong_text, job_line}
use Rattle.job.specs.Job.{Program, days_done, job_done, sheet_done, program_text}

module _ (p : Program) (s : List ℕ) (r : Outcome) (a n q v b m : ℕ) (t c : List ℕ) (e : read_left a n q v b m t c ≡ r) where
  pub sheet_wrong : (a ≡ 0 → ⊥) → wrong_text a n ≡ sheet_done p s r
  unfolding sheet_done
  sheet_wrong h = subst (λ (o : Outcome). wrong_text a n ≡ sheet_done p s o) e (rw (ne_eqb a 0 h))

  pub job_missing : a ≡ 0 → parted true s ≡ false → job_line 1 ≡ sheet_done p s r
  unfolding sheet_done job_done
  job_missing h k = subst (λ (o : Outcome). job_line 1 ≡ sheet_done p s o) e (rw (eq-eqb a 0 h, k))

  pub job_there : (x : List ℕ) → x ≡ after true s → a ≡ 0 → parted true s ≡ true → days_done (p (rules_of q v t c m) b) (lines x) ≡ sheet_done p s r
  unfolding sheet_done job_done
  job_there x w h k =
      subst (λ (o : Outcome). days_done (p (rules_of q v t c m) b) (lines x) ≡ sheet_done p s o) e (rw (eq-eqb a 0 h, k, w))

-- a sheet that is not read, by its answer and its line
pub sheet_unread : (p : Program) (s : List ℕ) (r : Outcome) (u : Unread) (t c : List ℕ) → read_given (Err u) t c ≡ r → (a : Answer) (n : ℕ) → number_of a ≡ unread_answer u → n ≡ unread_line u
    → wrong_text (number_of a) n ≡ sheet_done p s r
sheet_unread p s r u t c e a n d f = rw (d, f) (sheet_wrong p s r (unread_answer u) (unread_line u) 0 0 0 0 t c e (λ z. number_some a (d ∙ z)))

-- the rest of the input, as a part that is lent
pub rest_is : (s : List ℕ) (i : ℕ) → take (length s - i) (drop i s) ≡ drop i s
rest_is s i = take_all (length s - i) (drop i s) (omega (arith, length-drop i s))

-- a sheet that is read is a right rule set
pub read_right : (text xs ys : List ℕ) (a n q v b m : ℕ) (t c : List ℕ) → read_left a n q v b m t c ≡ read_of text xs ys → a ≡ 0 → rules_right q v b t c m ≡ true
read_right text xs ys a n q v b m t c e h = (one_text text xs ys n q v b m t c (sym e ∙ ap (λ (i : ℕ). read_left i n q v b m t c) h)).right

-- the input's length
pub long_input : (p : Program) (s : List ℕ) → longest_input < length s → long_text ≡ program_text p s
unfolding program_text
long_input p s h = rw (lt-ltb longest_input (length s) h)

pub short_input : (p : Program) (s : List ℕ) → length s ≤ longest_input → sheet_done p s (read_of (before true s) (replicate table_size 0) (replicate table_size 0)) ≡ program_text p s
unfolding program_text
short_input p s h = rw (le-ltb longest_input (length s) h)

-- the tables that a program has itself
abbrev pub blank_table : List ℕ
blank_table = replicate table_size 0

pub blank_long : tables_long blank_table blank_table ≡ true
unfolding tables_long
blank_long = refl

-- OF A WRONG SHEET its first wrong line is printed: behind `range` where its first fault is a number out of range, behind `sheet` otherwise
pub prints_wrong : (p : Program) (s : List ℕ) (n : ℕ) (f : Fault) → length s ≤ longest_input → FirstWrong (before true s) n f → program_text p s ≡ wrong_text (fault_answer f) n
prints_wrong p s n f h w =
    let e = reads_wrong (before true s) blank_table blank_table n f blank_long ((first_wrong (before true s) n f).1 w) in
    sym (sheet_wrong p s (read_of (before true s) blank_table blank_table) (fault_answer f) n 0 0 0 0 blank_table blank_table (sym e) (fault_answers f) ∙ short_input p s h)
