use mathlib.Core.Path.{sym}
use lib.ListN.{length-take, length-drop}
use Rattle.std.proofs.lemmas.Bool.{eqb-false}
use Rattle.reach.proofs.Rising.{known_is, slot_low}
use native.Mathlib.Omega.{arith}
use Rattle.reach.proofs.past.rise_to.Goals as goal

pub risen-requires : goal.risen-requires
risen-requires c = let p = c.requires in
    let z = eqb-false _ _ (sym c.if-eq.ensures) in
    (simp (length-take, length-drop) (omega arith), p.2, c.rise_from-rise.ensures, slot_low p.0 p.1 (omega (arith, z)) p.6)

pub returns-then-risen : goal.returns-then-risen
returns-then-risen c = known_is c.requires.0 c.rise_from-rise.ensures (eqb-false _ _ (sym c.if-eq.ensures)) c.if-held-slot.false c.risen.ensures c.if-risen.true
