-- Laws of what reading a sheet answers. Assumes nothing.
use mathlib.Core.Path.{◌≡◌, refl, ap, sym, ◌∙◌}
use mathlib.Core.Bool.{true, false}
use mathlib.Core.List.{List, [], ◌∷◌, ◌++◌}
use Prim.Native.Nat.{ℕ, ◌*◌, ◌≤◌}
use native.Mathlib.Omega.{arith}
use lib.ListN.{length}
use Rattle.std.specs.Prelude.{Result, Ok, Err}
use Rattle.meaning.specs.Bounds.{table_size, no_target}
use Rattle.rules.specs.Checks.{tables_long}
use Rattle.rules.proofs.Checks.{arcs_few, never}
use Rattle.rules.specs.declared.Outline.{Outline}
use Rattle.sheet.specs.Lines.{Line}
use Rattle.sheet.specs.Sheets.{Sheet, sheet, wrong_at, read_sheet, accepting_of, puts, the_target, the_cost, blank, targets_of, costs_of}
use Rattle.sheet.specs.Reading.{sheet_given, read_given, read_of}
use Rattle.sheet.specs.Inner.{Sized, Took}
use Rattle.sheet.specs.declared.Unread.{Unread}
use Rattle.sheet.specs.declared.Unread.TheVariants.{WrongLength, WrongLine}
use Rattle.sheet.proofs.Texts.{sheet_read}
use Rattle.sheet.proofs.Answering.{reads_short, reads_wrong, reads_right}

-- a part with no room, put back
pub no_room : (ys xs : List ℕ) → length ys ≡ 0 → ys ++ xs ≡ xs
no_room [] xs h = refl
no_room (y ∷ ys) xs h = absurd (omega arith)

module _ (s t c : List ℕ) where
  pub left_short : tables_long t c ≡ false → read_given (Err WrongLength) t c ≡ read_of s t c
  left_short h = sym (reads_short s t c h)

  -- what a refusal gives, the sheet's first wrong line tells
  pub left_wrong : (u : Unread) (t2 c2 : List ℕ) → tables_long t c ≡ true → Err u ≡ sheet_given (read_sheet s) → t2 ≡ t → c2 ≡ c → read_given (Err u) t2 c2 ≡ read_of s t c
  left_wrong u t2 c2 h e x y = rw (x, y) (go (read_sheet s) refl e)
    where
      go : (x : Sheet) → read_sheet s ≡ x → Err u ≡ sheet_given x → read_given (Err u) t c ≡ read_of s t c
      go (sheet z ls) k g = never cc
      go (wrong_at n f) k g = let v : u ≡ WrongLine n f = cc in rw (v, reads_wrong s t c n f h k)

-- what a sheet that was taken tells
pub record Right (x : Sheet) (o : Outline) : Type 0 where
  pub ls : List Line
  pub is : x ≡ sheet o.size ls
  pub mask : o.accepting ≡ accepting_of ls

pub took_right : (x : Sheet) (o : Outline) → Ok o ≡ sheet_given x → Right x o
took_right (sheet z ls) o e = let k : o ≡ record { size = z; accepting = accepting_of ls } = cc in record { ls = ls; is = rw k; mask = rw k }
took_right (wrong_at n f) o e = never cc

right_sized : (s : List ℕ) (o : Outline) → Right (read_sheet s) o → Sized o.size
right_sized s o r = (sheet_read s o.size r.ls r.is).size

pub right_few : (s : List ℕ) (o : Outline) → Right (read_sheet s) o → o.size.states * o.size.values ≤ table_size
right_few s o r = let g : Sized o.size = right_sized s o r in arcs_few g.few_states_lem g.few_values

pub left_filled : (s t c : List ℕ) (o : Outline) (r : Result Outline Unread) (t1 c1 t2 c2 t3 c3 : List ℕ) → tables_long t c ≡ true → Right (read_sheet s) o → t1 ≡ t → c1 ≡ c
    → (t2 ≡ blank (o.size.states * o.size.values) no_target t1) × (c2 ≡ blank (o.size.states * o.size.values) 0 c1) → Took (read_sheet s) t2 c2 r t3 c3
    → read_given r t3 c3 ≡ read_of s t c
unfolding targets_of costs_of
left_filled s t c o r t1 c1 t2 c2 t3 c3 h x a b w k =
    let z = o.size in
    let g : r ≡ Ok (record { size = z; accepting = accepting_of x.ls }) = k.gives ∙ ap sheet_given x.is in
    let p : t3 ≡ targets_of z x.ls t = k.targets z x.ls x.is ∙ ap (puts z.values the_target x.ls) (w.0 ∙ ap (blank (z.states * z.values) no_target) a) in
    let q : c3 ≡ costs_of z x.ls c = k.costs z x.ls x.is ∙ ap (puts z.values the_cost x.ls) (w.1 ∙ ap (blank (z.states * z.values) 0) b) in
    rw (g, p, q, reads_right s t c z x.ls h x.is)
