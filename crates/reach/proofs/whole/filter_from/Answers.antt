use mathlib.Core.Path.{refl}
use native.Mathlib.Omega.{arith}
use lib.ListN.{get_or-replicate}
use Rattle.rules.proofs.Checks.{test_failed, test_passed}
use Rattle.reach.proofs.Both.{filter_runs_not}
use Rattle.reach.proofs.whole.filter_from.Goals as goal

pub returns-then-not-in_order : goal.returns-then-not-in_order
returns-then-not-in_order c = filter_runs_not refl (λ s a b d. c.in_order.ensures.wrong (test_failed refl c.if-not-in_order.true) a b d)

pub passes-requires : goal.passes-requires
passes-requires c = let o = c.in_order.ensures.right (test_passed refl c.if-not-in_order.false) in
    (o.0, o.1, o.2, refl, record { none = λ e. absurd (omega (arith, e)) })

pub returns-then-not-worth : goal.returns-then-not-worth
returns-then-not-worth c = c.passes.ensures

pub passes-requires-2 : goal.passes-requires-2
passes-requires-2 c = let o = c.in_order.ensures.right (test_passed refl c.if-not-in_order.false) in
    (o.0, o.1, o.2, refl, record { none = λ e k h. get_or-replicate 1024 k 4294967040 0 h })

pub returns : goal.returns
returns c = c.passes-2.ensures
