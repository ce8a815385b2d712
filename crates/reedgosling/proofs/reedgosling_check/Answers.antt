use mathlib.Core.Path.{ap}
use mathlib.Core.Bool.{cond}
use Prim.Native.Nat.{ℕ}
use Rattle.mending.specs.Outcomes.{Said}
use Rattle.reedgosling.proofs.Given.{said_no}
use Rattle.reedgosling.proofs.reedgosling_check.Goals as goal

pub returns : goal.returns
returns c = let e = c.check_roster-checked.ensures in
    rw (c.from.ensures, c.number_of.ensures, c.told.ensures, c.unwrap_or.ensures, said_no c.check_roster-checked.result, ← c.rule_set-rules.ensures c.args.places)
    (ap (λ (y : Said). y.answer) e, ap (λ (y : Said). cond {A = ℕ} y.says 1 0) e)
