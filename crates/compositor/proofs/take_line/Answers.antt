use native.Mathlib.Omega.{arith}
use Rattle.compositor.proofs.Lining.{line_long, line_letters_wrong, line_room, line_bad, line_short, line_right}
use Rattle.compositor.proofs.take_line.Goals as goal

pub returns-then-line-gt-MOST_BYTES : goal.returns-then-line-gt-MOST_BYTES
returns-then-line-gt-MOST_BYTES c = line_long _ _ (omega arith)

pub returns-in_err-marks : goal.returns-in_err-marks
returns-in_err-marks c = rw c.from_residual.ensures (line_letters_wrong _ _ c.in_err-marks.ensures)

pub read_group-requires : goal.read_group-requires
read_group-requires c = line_room _ _ _ c.in_ok-marks.ensures

pub returns-in_err-p : goal.returns-in_err-p
returns-in_err-p c = rw c.from_residual-in_err-p.ensures (line_bad _ _ _ c.in_ok-marks.ensures (omega arith) _ _ c.read_group.ensures c.in_err-p.was)

pub returns-then-p-line : goal.returns-then-p-line
returns-then-p-line c = line_short _ _ _ c.in_ok-marks.ensures (omega arith) _ _ c.read_group.ensures _ c.in_ok-p.was c.if-p-line.true

pub returns : goal.returns
returns c = line_right _ _ _ c.in_ok-marks.ensures (omega arith) _ _ c.read_group.ensures _ c.in_ok-p.was c.if-p-line.false
