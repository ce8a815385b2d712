use lib.ListN.{drop}
use lib.Seq.{length-take-le}
use Rattle.rules.specs.Checks.{rules_in}
use Rattle.text.specs.Lines.{lines}
use Rattle.text.proofs.Putting.{wrote_is}
use Rattle.job.specs.Output.{job_line}
use Rattle.job.proofs.Planning.{right_size, ready_for, mend_wrong, mend_all}
use native.Mathlib.Omega.{arith}
use Rattle.job.proofs.repair.carry_mend.Goals as goal

pub asked_for-requires : goal.asked_for-requires
asked_for-requires c = let p = c.requires in
    let d = c.drawn_at-wish.ensures in
    (p.1, p.2, (right_size _ _ _ _ _ _ p.0).few_values, omega (arith, length-take-le c.drawn_at-wish.result.at c.args.text.now d.high, d.low))

pub mend_wish-requires : goal.mend_wish-requires
mend_wish-requires c = let p = c.requires in
    let d = c.drawn_at-wish.ensures in
    (ready_for c.args.rules.now p.0 p.1 p.2 c.in-Ok.ensures.2, d.high, d.bounded)

pub returns-in-Err : goal.returns-in-Err
unfolding job_line
returns-in-Err c = let a = c.args in
    let d = c.drawn_at-wish.ensures in
    wrote_is _ _ _ _ _ _ (mend_wrong (rules_in a.rules.now) a.rules.now.size.start.0 a.days (lines (drop a.from a.text.now)) d.before_is _ c.in-Err.ensures) c.put_line.ensures

pub returns-in-Ok : goal.returns-in-Ok
returns-in-Ok c = let a = c.args in
    let d = c.drawn_at-wish.ensures in
    let k = c.in-Ok.ensures in
    wrote_is _ _ _ _ _ _ (mend_all (rules_in a.rules.now) a.rules.now.size.start.0 a.days (lines (drop a.from a.text.now)) d.before_is k.0 k.1 k.2 _ _ d.from_is d.counted) c.mend_wish.ensures
