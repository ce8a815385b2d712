use borrow.Author.Rules.{rules}
use native.Mathlib.Omega.{arith}
use Rattle.planner.proofs.Answering.{work_wiped, work_kept, mend_refused, ready, mend_found}
use Rattle.planner.proofs.mend.Goals as goal

pub returns-then-number-gt2 : goal.returns-then-number-gt2
returns-then-number-gt2 c = mend_refused _ _ _ _ _ _ _ _ c.in-Err.ensures (work_wiped _ (omega (arith, c.number.ensures)) c.wipe.ensures)

pub returns-else-number-gt2 : goal.returns-else-number-gt2
returns-else-number-gt2 c = mend_refused _ _ _ _ _ _ _ _ c.in-Err.ensures (work_kept _ (omega (arith, c.number.ensures)))

pub mend_from-found-requires : goal.mend_from-found-requires
mend_from-found-requires c = let r = ready _ _ _ _ _ _ _ c.in_default.ensures in
    (r.0, r.1, search rules, r.2)

pub returns : goal.returns
returns c = mend_found _ _ _ _ _ _ _ c.in_default.ensures c.in-Some.ensures
