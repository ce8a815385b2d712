-- The number of a wrong line: at most one past the lines of the sheet, which are at most its bytes. Assumes nothing.
use mathlib.Core.Path.{◌≡◌, refl}
use mathlib.Core.Bool.{Bool, true, false}
use mathlib.Core.List.{List, [], ◌∷◌}
use Prim.Native.Nat.{ℕ, suc, ◌+◌, ◌≤◌, ◌<◌}
use native.Mathlib.Omega.{arith}
use lib.ListN.{length}
use Rattle.std.specs.Prelude.{Ok, Err}
use Rattle.rules.specs.Checks.{tables_long}
use Rattle.rules.specs.declared.Size.{Size}
use Rattle.text.specs.Lines.{Judged, lines, on_judged}
use Rattle.text.proofs.Cutting.{lines_length}
use Rattle.sheet.specs.Lines.{Line, place, read_size, read_line}
use Rattle.sheet.specs.Sheets.{Sheet, sheet, wrong_at, with_line, read_rest, read_lines, read_sheet}
use Rattle.sheet.specs.Reading.{read_of}
use Rattle.sheet.proofs.Answering.{reads_short, reads_wrong, reads_right}

abbrev SheetIn : ℕ → Sheet → Type 0
SheetIn b (sheet z ls) = Unit
SheetIn b (wrong_at n f) = n ≤ b

with_line_in : (b : ℕ) (l : Line) (x : Sheet) → SheetIn b x → SheetIn b (with_line l x)
with_line_in b l (sheet z ls) h = tt
with_line_in b l (wrong_at n f) h = h

rest_in : (b : ℕ) (z : Size) (next n : ℕ) (ls : List (List ℕ)) → n + length ls ≤ suc b → SheetIn b (read_rest z next n ls)
unfolding read_rest
rest_in b z next n [] h = tt
rest_in b z next n (l ∷ ls) h = go (read_line z next l) (λ i. rest_in b z i (suc n) ls (omega arith))
  where
    go : (x : Judged Line) → ((i : ℕ) → SheetIn b (read_rest z i (suc n) ls)) → SheetIn b (on_judged x (λ a. with_line a (read_rest z (suc (place z a)) (suc n) ls)) (wrong_at n))
    go (Ok a) m = with_line_in b a (read_rest z (suc (place z a)) (suc n) ls) (m (suc (place z a)))
    go (Err f) m = omega arith

read_in : (b : ℕ) (ls : List (List ℕ)) → length ls < b → SheetIn b (read_lines ls)
unfolding read_lines
read_in b [] h = omega arith
read_in b (l ∷ ls) h = go (read_size l)
  where
    go : (x : Judged Size) → SheetIn b (on_judged x (λ z. read_rest z 0 2 ls) (wrong_at 1))
    go (Ok z) = rest_in b z 0 2 ls (omega arith)
    go (Err f) = omega arith

pub read_line_lem : (s t c : List ℕ) → (read_of s t c).line ≤ suc (length s)
unfolding read_sheet
read_line_lem s t c = go (tables_long t c) refl (read_sheet s) refl (read_in (suc (length s)) (lines s) (omega (arith, lines_length s)))
  where
    go : (k : Bool) → tables_long t c ≡ k → (x : Sheet) → read_sheet s ≡ x → SheetIn (suc (length s)) (read_lines (lines s)) → (read_of s t c).line ≤ suc (length s)
    go true h (sheet z ls) e i = rw (reads_right s t c z ls h e) (omega arith)
    go true h (wrong_at n f) e i = rw (reads_wrong s t c n f h e) (rw e at i)
    go false h x e i = rw (reads_short s t c h) (omega arith)
