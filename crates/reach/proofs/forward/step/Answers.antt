use mathlib.Core.Path.{◌∙◌}
use Rattle.rooms.proofs.Filling.{copied_filled}
use Rattle.reach.proofs.Needing.{filled_low}
use Rattle.reach.proofs.Rising.{spread_low}
use Rattle.reach.proofs.Passing.{stepped_is}
use native.Mathlib.Omega.{arith}
use Rattle.reach.proofs.forward.step.Goals as goal

pub keep-kept-requires : goal.keep-kept-requires
keep-kept-requires c = let p = c.requires in
    let s = c.args.arcs.now.in_range.0 in
    (omega (arith, s, p.4), c.copy.auto.row ∙ p.5, p.7, p.11, filled_low p.5 p.13 (copied_filled _ _ p.1 (omega (arith, s, p.5)) c.copy.ensures) p.12.low)

pub spread-requires : goal.spread-requires
spread-requires c = let p = c.requires in
    (p.0, p.2, p.3, p.4, p.6, p.8, p.9, p.10, p.11, p.14, p.15, p.16)

pub advance-requires : goal.advance-requires
advance-requires c = let p = c.requires in
    let s = c.args.arcs.now.in_range.0 in
    (s, omega (arith, c.copy.auto.row, s, p.5), omega (arith, s, p.4), omega (arith, c.spread.auto.onward, s, p.6), filled_low p.5 p.13 (copied_filled _ _ p.1 (omega (arith, s, p.5)) c.copy.ensures) p.12.low, spread_low c.spread.ensures.2)

pub shape_of-needs : goal.shape_of-needs
shape_of-needs c = c.copy.auto.row

pub returns : goal.returns
returns c = let p = c.requires in
    let s = c.spread in
    (stepped_is p.14 (copied_filled _ _ p.1 (omega (arith, c.args.arcs.now.in_range.0, p.5)) c.copy.ensures) c.keep-kept.ensures s.ensures.2 c.advance.ensures.0 c.advance.ensures.1, s.ensures.0, s.ensures.1, s.ensures.3)
