use mathlib.Core.Path.{ap}
use Prim.Native.Nat.{ℕ, ◌+◌}
use Rattle.sheet.specs.Lines.{place}
use Rattle.sheet.proofs.lines.after_row.Goals as goal

pub returns-in-Final : goal.returns-in-Final
unfolding place
returns-in-Final c = rw c.in-Final.is (ap (λ (k : ℕ). k + 1) c.from.ensures)

pub returns-in-Arc : goal.returns-in-Arc
unfolding place
returns-in-Arc c = rw c.in-Arc.is (ap (λ (k : ℕ). k + 1) c.arc_place.ensures)
