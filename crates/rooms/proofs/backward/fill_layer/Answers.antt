use Prim.Native.Nat.{◌+◌, ◌*◌}
use native.Mathlib.Omega.{arith}
use borrow.Rule.Slice.PartMut.{mid_len}
use Rattle.rooms.proofs.Layering.{laid_settled}
use Rattle.rooms.proofs.backward.fill_layer.Goals as goal

pub make_row-requires : goal.make_row-requires
make_row-requires c = let a = c.args in let p = c.requires in
    (p.0, p.1, p.2, p.3, p.4, p.5, p.6, omega (arith, mid_len (a.i * 64) (a.i * 64 + 64) a.work.now p.8, p.0), p.9)

pub returns : goal.returns
returns c = laid_settled _ _ _ c.requires.0 c.requires.8 c.make_row.auto.row c.make_row.ensures c.settle.auto.row c.settle.ensures
