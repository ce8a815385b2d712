use Prim.Native.Nat.{max}
use mathlib.Core.Path.{◌≡◌, ◌∙◌}
use lib.ListN.{get_or}
use native.Mathlib.Omega.{arith}
use Rattle.rooms.proofs.Filling.{filled_none, filled_more, filled_end}
use Rattle.rooms.proofs.rows.settle.Goals as goal

pub loop-n-init : goal.loop-n-init
loop-n-init c = (filled_none _ _, filled_none _ _)

pub loop-n-preserved : goal.loop-n-preserved
loop-n-preserved c = let l = c.loop-n.invariant in
    let e : max (get_or c.loop-n.row c.loop-n.n 0) c.args.least ≡ max (get_or c.args.row.now c.loop-n.n 0) c.args.least = rw (l.0.left c.loop-n.n (omega arith)) in
    (filled_more _ (omega arith) l.0 (c.max-need.ensures ∙ e), filled_more _ (omega arith) l.1 (c.max-need.ensures ∙ e))

pub returns : goal.returns
returns c = let l = c.loop-n.invariant in (filled_end l.0 (omega arith) (omega arith), filled_end l.1 (omega arith) (omega arith))
