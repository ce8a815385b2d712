use mathlib.Core.Path.{refl}
use Rattle.reach.proofs.Rising.{laid_copy}
use native.Mathlib.Omega.{arith}
use Rattle.reach.proofs.past.note.Goals as goal

pub returns : goal.returns
returns c = let p = c.requires in
    let a = c.args in
    (laid_copy a.slot a.front.now a.fronts.now p.0 p.2 (omega arith) c.copy.auto.row c.copy.ensures, laid_copy a.slot a.onward.now a.onwards.now p.0 p.3 (omega arith) c.copy-2.auto.row c.copy-2.ensures, refl)
