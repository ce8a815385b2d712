use mathlib.Core.Path.{sym, ap, ◌∙◌}
use mathlib.Core.List.{[]}
use native.Mathlib.Omega.{arith}
use borrow.Author.Tests.{eqb-true}
use Rattle.std.proofs.lemmas.Result.{err_from_is_err_and}
use Rattle.meaning.specs.Prefixes.{accepted_words}
use Rattle.meaning.proofs.Prefixes.{costs_apart}
use Rattle.rules.specs.Inner.{report_rest}
use Rattle.rules.specs.Report.{report_of}
use Rattle.rules.proofs.Checks.{refuses, passes}
use Rattle.rules.proofs.Refusals.{refused_first, others_decide, first_passed}
use Rattle.rules.proofs.prefix_report.Goals as goal

pub returns-in_err-checked : goal.returns-in_err-checked
unfolding report_of
returns-in_err-checked c = let p = err_from_is_err_and c.from_residual.result c.from_residual.ensures.1 in
    rw (p.1, p.2) (refused_first _ _ _ _ _ _ c.in_err-checked.ensures)

pub returns-then-not-values_right : goal.returns-then-not-values_right
unfolding report_of
returns-then-not-values_right c = others_decide _ _ _ _ _ c.in_ok-checked.ensures (refuses _ _ _ _ _ (sym c.if-not-values_right.ensures))

pub report_drawn-requires : goal.report_drawn-requires
report_drawn-requires c = let f = first_passed _ _ c.in_ok-checked.ensures in
    (f.size.few_states_lem, f.size.few_values, f.targets_long, f.lawful.bits, f.size.start_state, omega (arith, f.sizes.few_places, eqb-true _ _ f.slices_long), sym c.if-not-values_right.ensures)

pub returns : goal.returns
unfolding report_of
returns c = let f = first_passed _ _ c.in_ok-checked.ensures in
    others_decide _ _ _ _ _ c.in_ok-checked.ensures (passes _ _ _ _ _ (sym c.if-not-values_right.ensures)
    (c.report_drawn.ensures ∙ ap (report_rest c.args.roster.now) (costs_apart _ _ _ [] c.args.rules.now.costs.now _ _ _ ∙ ap (accepted_words _ _) (eqb-true _ _ f.slices_long))))
