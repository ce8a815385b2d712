use native.Mathlib.Omega.{arith}
use Rattle.reach.specs.Turning.{net_in}
use Rattle.reach.proofs.Rising.{past_noted}
use Rattle.reach.proofs.forward.spread.Goals as goal

pub returns : goal.returns
returns c = let p = c.requires in
    let a = c.args in
    let n = c.note.ensures in
    (c.span_after-after.ensures.0, c.span_after-after.ensures.1, c.gather-found.ensures, past_noted (net_in a.arcs.now) a.arcs.now.states a.arcs.now.values _ a.mask.0 a.front.now _ a.fronts.now a.onwards.now a.held.now _ _ _ a.arcs.now.in_range.0 (omega (arith, c.slot_of-slot.ensures, p.7)) p.8 p.10 c.gather-found.ensures n.0 n.1 n.2)
