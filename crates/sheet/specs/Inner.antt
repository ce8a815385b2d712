-- What only the inner functions' contracts cite: the code's answers in the words of the definitions.
use Rattle.std.specs.Prelude.{◌≡◌, ◌||◌, Result, Ok, Err, List, ℕ, ◌≤◌, ◌<◌}
use Rattle.kinds.specs.Bits.{bit, mask_of}
use Rattle.meaning.specs.Lists.{any}
use Rattle.meaning.specs.Bounds.{most_states, most_values}
use Rattle.rules.specs.declared.Size.{Size}
use Rattle.rules.specs.declared.Outline.{Outline}
use Rattle.text.specs.Lines.{Judged}
use Rattle.sheet.specs.Lines.{Line, final, arc}
use Rattle.sheet.specs.Sheets.{Sheet, sheet, names, puts, the_target, the_cost}
use Rattle.sheet.specs.Reading.{sheet_given}
use Rattle.sheet.specs.declared.Unread.{Unread}
use Rattle.sheet.specs.declared.lines.Row.{Row}
use Rattle.sheet.specs.declared.lines.Row.TheVariants as row

-- a size in range
pub record Sized (z : Size) : Type 0 where
  pub some_states : 1 ≤ z.states
  pub few_states_lem : z.states ≤ most_states
  pub some_values : 1 ≤ z.values
  pub few_values : z.values ≤ most_values
  pub start_state : z.start.0 < z.states

-- the line that a row is; a row in range
abbrev pub line_of : Row → Line
line_of (row.Final q) = final q.0
line_of (row.Arc q v t c) = arc q.0 v.0 t.0 c

abbrev pub row_view : Judged Row → Judged Line
row_view (Ok r) = Ok (line_of r)
row_view (Err f) = Err f

abbrev pub RowIn : Size → Row → Type 0
RowIn z (row.Final q) = q.0 < z.states
RowIn z (row.Arc q v t c) = (q.0 < z.states) × (v.0 < z.values)

-- what lines have put into the accepting mask and the tables
pub record Put (values : ℕ) (ls : List Line) (m : ℕ) (t c : List ℕ) (m2 : ℕ) (t2 c2 : List ℕ) : Type 0 where
  pub mask : m2 ≡ mask_of (λ q. bit m q || any (names q) ls) most_states
  pub targets : t2 ≡ puts values the_target ls t
  pub costs : c2 ≡ puts values the_cost ls c

-- a sheet that was taken: what it gives, and what a right one has put into the tables
pub record Took (x : Sheet) (t c : List ℕ) (r : Result Outline Unread) (t2 c2 : List ℕ) : Type 0 where
  pub gives : r ≡ sheet_given x
  pub targets : (z : Size) (ls : List Line) → x ≡ sheet z ls → t2 ≡ puts z.values the_target ls t
  pub costs : (z : Size) (ls : List Line) → x ≡ sheet z ls → c2 ≡ puts z.values the_cost ls c
