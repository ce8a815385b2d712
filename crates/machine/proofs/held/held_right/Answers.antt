use native.Mathlib.Omega.{arith}
use mathlib.Core.Path.{sym, ◌∙◌}
use Rattle.ledger.specs.Layout.{rows_size, head_size}
use Rattle.ledger.proofs.Numbers.{part_long}
use Rattle.ledger.proofs.Head.{head_all}
use Rattle.machine.proofs.Ranges.{held_3}
use Rattle.machine.proofs.held.held_right.Goals as goal
use Rattle.machine.proofs.held.held_right.Goals.{then-head_right, else-head_right}

pub room_right-requires : goal.room_right-requires
room_right-requires c = let g = (head_all _ _ _ _ _ (sym c.head_right.ensures ∙ c.if-head_right.true)).0 in (c.requires.1, g.d_high, g.m_high, part_long rows_size head_size c.args.held.now (omega arith))

pub returns-then-room_right : goal.returns-then-room_right
returns-then-room_right c =
    elim c.if-head_right.branch [
      | then-head_right w ↦ held_3 _ _ _ _ _ c.requires.1 (sym c.head_right.ensures ∙ w.if-head_right.true) (sym w.room_right.ensures ∙ sym w.value-is ∙ c.if-room_right.true) _ c.bound.ensures _ c.all_below.ensures
      | else-head_right w ↦ cc
    ]
