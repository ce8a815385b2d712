use mathlib.Core.Path.{◌≡◌, refl, sym, ap, ◌∙◌}
use Rattle.std.proofs.Common.{rules}
use Rattle.rules.specs.Inner.{finishing}
use Prim.Native.Nat.{ℕ, ◌-◌}
use lib.ListN.{length}
use native.Mathlib.Omega.{arith}
use Rattle.meaning.specs.Prefixes.{behind}
use Rattle.meaning.proofs.Prefixes.{longest_few}
use Rattle.rules.specs.Report.{outcome}
use Rattle.rules.proofs.Checks.{refuses, passes, is_done}
use Rattle.rules.proofs.Finishing.{finishing_some}
use Rattle.rules.proofs.Walk.{values_below, steps_longest}
use Rattle.rules.proofs.report_drawn.Goals as goal

pub returns-then-not-holds : goal.returns-then-not-holds
returns-then-not-holds c =
    let e : length c.args.roster.now ≡ length c.lay-first.new.layers = search rules in
    let d : c.lay-first.result ≡ finishing _ (length c.args.roster.now) = rw e c.lay-first.ensures.0 in
    refuses _ _ _ _ _ (sym (c.if-not-holds.ensures ∙ finishing_some _ _ _ c.requires.4 d refl))

pub overflow_sub-result : goal.overflow_sub-result
overflow_sub-result c =
    let e : length c.args.roster.now ≡ length c.lay-first.new.layers = search rules in
    rw (c.steps_made-made.ensures ∙ steps_longest _ _ _ c.lay-first.ensures.1 (omega arith) (values_below _ _ c.requires.6)) (longest_few _ _)

pub returns : goal.returns
unfolding behind
returns c =
    let e : length c.args.roster.now ≡ length c.lay-first.new.layers = search rules in
    let w = c.steps_made-made.ensures ∙ steps_longest _ _ _ c.lay-first.ensures.1 (omega arith) (values_below _ _ c.requires.6) in
    let d : c.lay-first.result ≡ finishing _ (length c.args.roster.now) = rw e c.lay-first.ensures.0 in
    passes _ _ _ _ _ (sym (c.if-not-holds.ensures ∙ finishing_some _ _ _ c.requires.4 d refl))
    (ap (λ (m : ℕ). outcome 0 (length c.args.roster.now - m)) w ∙ is_done _ _)
