-- What a reading comes to: short tables, a wrong sheet, or a right one. Assumes nothing.
use mathlib.Core.Path.{◌≡◌, refl}
use mathlib.Core.Logic.{◌⊎◌, inl, inr, ⊎_elim}
use mathlib.Core.Bool.{true, false}
use mathlib.Core.List.{List}
use Prim.Native.Nat.{ℕ}
use native.Mathlib.Omega.{arith}
use Rattle.rules.specs.Checks.{tables_long}
use Rattle.rules.specs.Answers.{decided}
use Rattle.rules.specs.declared.Size.{Size}
use Rattle.text.specs.declared.lines.Fault.{Fault}
use Rattle.text.specs.declared.lines.Fault.TheVariants.{Form, Range, Order, Cut}
use Rattle.sheet.specs.Lines.{Line}
use Rattle.sheet.specs.Sheets.{Sheet, sheet, wrong_at, read_sheet, accepting_of, targets_of, costs_of}
use Rattle.sheet.specs.Reading.{read_left, fault_answer, sheet_answer, wrong_line, read_of}

module _ (s t c : List ℕ) where
  pub reads_short : tables_long t c ≡ false → read_of s t c ≡ read_left 2 0 0 0 0 0 t c
  unfolding read_of decided
  reads_short h = rw h

  pub reads_wrong : (n : ℕ) (f : Fault) → tables_long t c ≡ true → read_sheet s ≡ wrong_at n f → read_of s t c ≡ read_left (fault_answer f) n 0 0 0 0 t c
  unfolding read_of decided
  reads_wrong n Form h e = rw (h, e)
  reads_wrong n Range h e = rw (h, e)
  reads_wrong n Order h e = rw (h, e)
  reads_wrong n Cut h e = rw (h, e)

  pub reads_right : (z : Size) (ls : List Line) → tables_long t c ≡ true → read_sheet s ≡ sheet z ls
      → read_of s t c ≡ read_left 0 0 z.states z.values z.start.0 (accepting_of ls) (targets_of z ls t) (costs_of z ls c)
  unfolding read_of decided
  reads_right z ls h e = rw (h, e)

  -- with full tables the sheet decides
  pub long_told : tables_long t c ≡ true → ((read_of s t c).answer ≡ sheet_answer (read_sheet s)) × ((read_of s t c).line ≡ wrong_line (read_sheet s))
  long_told h = go (read_sheet s) refl
    where
      go : (x : Sheet) → read_sheet s ≡ x → ((read_of s t c).answer ≡ sheet_answer (read_sheet s)) × ((read_of s t c).line ≡ wrong_line (read_sheet s))
      go (sheet z ls) e = rw (reads_right z ls h e, e) (refl, refl)
      go (wrong_at n f) e = rw (reads_wrong n f h e, e) (refl, refl)

-- a fault is answered with 5 or 13, so never with 0
pub two_answers : (f : Fault) → (fault_answer f ≡ 5) ⊎ (fault_answer f ≡ 13)
two_answers Form = inl refl
two_answers Range = inr refl
two_answers Order = inl refl
two_answers Cut = inl refl

pub fault_answers : (f : Fault) → fault_answer f ≡ 0 → ⊥
fault_answers f e = ⊎_elim (λ a. omega arith) (λ a. omega arith) (two_answers f)
