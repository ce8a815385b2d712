use Prim.Native.Nat.{◌+◌, ◌*◌}
use native.Mathlib.Omega.{arith}
use borrow.Rule.Slice.PartMut.{mid_len}
use Rattle.rooms.specs.Tables.{turned, need, rooms_by}
use Rattle.rooms.specs.Changes.{near_best, near_needs, row_for}
use Rattle.rooms.proofs.Layering.{laid_settled}
use Rattle.rooms.proofs.Nearing.{spare_on}
use mathlib.Core.Path.{◌∙◌}
use Rattle.rooms.proofs.near.lay_row.Goals as goal

pub near_row-requires : goal.near_row-requires
near_row-requires c = let a = c.args in
    let p = c.requires in
    let l = c.load_fewer in
    let s = spare_on p.7 l.auto.fewer p.8 p.9 l.ensures in
    (p.0, p.1, p.2, p.3, l.auto.fewer ∙ p.7, s.low, s.bare, p.10, p.11, omega (arith, mid_len (row_for a.i a.j * 64) (row_for a.i a.j * 64 + 64) a.work.now (omega (arith, p.5, p.6)), p.0), p.12)

pub returns : goal.returns
unfolding near_needs
returns c = let a = c.args in
    let p = c.requires in
    let l = c.load_fewer in
    let n = c.near_row in
    let s = c.settle in
    let y = laid_settled {g = λ q. need (near_best (turned a.targets.now a.costs.now) (rooms_by l.new.fewer) (rooms_by a.needs.now) a.values a.mask.0 a.drawn.0 q)} (row_for a.i a.j) a.least a.work.now p.0 (omega (arith, p.5, p.6)) n.auto.row n.ensures s.auto.row s.ensures in
    (l.ensures, y.0, y.1)
