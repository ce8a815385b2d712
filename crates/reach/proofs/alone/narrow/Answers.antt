use native.Mathlib.Omega.{arith}
use Rattle.reach.proofs.Narrowing.{narrowed_is}
use Rattle.reach.proofs.alone.narrow.Goals as goal

pub returns : goal.returns
returns c = let a = c.args in
    narrowed_is a.masks.now _ a.place a.value.0 c.meet.result.0 c.single.result.0 c.copy_from_slice.ensures.after (omega (arith, c.type_inv.masks a.place)) c.single.ensures c.meet.ensures
