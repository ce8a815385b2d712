use mathlib.Core.Path.{◌∙◌}
use Rattle.planner.proofs.Both.{ready_filled, told_ok, walk_room, mends_some, mends_none}
use native.Mathlib.Omega.{arith}
use Rattle.planner.proofs.whole.mend_from.Goals as goal
use Rattle.planner.proofs.whole.mend_from.Goals.{in-Some, in_default}

pub walk-requires : goal.walk-requires
walk-requires c = let p = c.requires in
    let n = c.fewest-counted in
    let s = n.ensures.some p.0 p.1 _ (told_ok _ n.ensures p.0 p.1 c.unwrap_or-found.ensures c.in-Some.is) in
    (ready_filled p.0 n.auto.work s.0, p.1, walk_room p.0 _ _ c.args.spent p.1 s.1 s.0, p.3)

pub returns : goal.returns
returns c = let p = c.requires in
    let n = c.fewest-counted in
    let f = c.unwrap_or-found.ensures in
    elim c.match-found.branch [
      | in-Some w ↦ let s = n.ensures.some p.0 p.1 _ (told_ok _ n.ensures p.0 p.1 f w.in-Some.is) in
          rw (w.found-is, w.roster-is) (mends_some p.0 _ _ _ p.1 s.1 p.2 c.wipe.ensures n.auto.work s.0 w.walk.ensures)
      | in_default w ↦ rw (w.found-is ∙ w.in_default.is) (mends_none p.0 _ _ _ p.1 (n.ensures.none p.0 p.1 (told_ok _ n.ensures p.0 p.1 f w.in_default.is)) p.2 c.wipe.ensures n.auto.work (omega arith) w.roster-is)
    ]
