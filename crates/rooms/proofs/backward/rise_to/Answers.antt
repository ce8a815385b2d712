use Prim.Native.Nat.{ℕ, ◌+◌, ◌*◌}
use mathlib.Core.Path.{◌≡◌, refl, subst}
use Rattle.rooms.specs.Tables.{LikeLayer}
use native.Mathlib.Omega.{arith}
use borrow.Rule.Slice.PartMut.{mid_len}
use Rattle.rules.proofs.Checks.{test_passed}
use Rattle.rooms.proofs.Filling.{low_part}
use Rattle.rooms.proofs.Falling.{alike_is}
use Rattle.rooms.proofs.backward.rise_to.Goals as goal

pub risen-requires : goal.risen-requires
risen-requires c = let p = c.requires in (omega (arith, mid_len ((c.args.like + 1) * 64) ((c.args.like + 1) * 64 + 64) c.args.work.now p.8), omega arith, c.rise_from-rise.ensures, low_part (c.args.like + 1) p.0 (omega arith) (omega arith) p.9)

pub returns-then-risen : goal.returns-then-risen
returns-then-risen c = λ r e. let d : c.rise_from-rise.result ≡ r = cc in
    subst (λ (x : ℕ). LikeLayer c.args.states x c.args.masks.now c.args.limits.now c.args.i c.args.like c.args.needs.now c.args.work.now) d
    (alike_is _ _ c.requires.0 c.rise_from-rise.ensures c.if-masks-i.false c.requires.1 c.least_at.ensures c.clear_of.ensures (test_passed refl c.if-not-clear_of.false) c.risen.ensures c.if-risen.true)
