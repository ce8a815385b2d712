use native.Mathlib.Omega.{arith}
use mathlib.Core.Path.{sym, ap, ◌∙◌}
use lib.ListN.{length}
use Rattle.std.proofs.lemmas.Result.{err_from_is_err_and}
use Rattle.rules.proofs.Checks.{long_tables}
use Rattle.sheet.proofs.Outcomes.{no_room, left_short, left_wrong, took_right, right_few, left_filled}
use Rattle.sheet.proofs.read_sheet.Goals as goal

pub returns-then-not-tables_long-clause-leaves : goal.returns-then-not-tables_long-clause-leaves
returns-then-not-tables_long-clause-leaves c = left_short _ _ _ (sym c.if-not-tables_long.ensures)

pub returns-in_err-size-clause-leaves : goal.returns-in_err-size-clause-leaves
returns-in_err-size-clause-leaves c = let p = err_from_is_err_and c.from_residual.result c.from_residual.ensures.1 in
    rw (p.1, p.2) (left_wrong _ _ _ _ _ _ (sym c.if-not-tables_long.ensures) (sym c.in_err-size.was ∙ c.take_sheet.ensures.gives) (no_room c.take_sheet.new.targets c.args.targets.now c.take_sheet.auto.targets) (no_room c.take_sheet.new.costs c.args.costs.now c.take_sheet.auto.costs))

pub overflow_mul-size : goal.overflow_mul-size
overflow_mul-size c = omega (arith, right_few c.args.text.now _ (took_right _ _ (sym c.in_ok-size.was ∙ c.take_sheet.ensures.gives)))

pub clear-requires : goal.clear-requires
clear-requires c = omega (arith, right_few c.args.text.now _ (took_right _ _ (sym c.in_ok-size.was ∙ c.take_sheet.ensures.gives)), long_tables c.args.targets.now c.args.costs.now (sym c.if-not-tables_long.ensures), ap length (no_room c.take_sheet.new.targets c.args.targets.now c.take_sheet.auto.targets), ap length (no_room c.take_sheet.new.costs c.args.costs.now c.take_sheet.auto.costs))

pub take_sheet-requires-2 : goal.take_sheet-requires-2
take_sheet-requires-2 c = omega (arith, c.clear.auto.targets, c.clear.auto.costs, long_tables c.args.targets.now c.args.costs.now (sym c.if-not-tables_long.ensures), ap length (no_room c.take_sheet.new.targets c.args.targets.now c.take_sheet.auto.targets), ap length (no_room c.take_sheet.new.costs c.args.costs.now c.take_sheet.auto.costs))

pub returns-clause-leaves : goal.returns-clause-leaves
returns-clause-leaves c =
    left_filled _ _ _ _ c.take_sheet-2.result _ _ _ _ _ _ (sym c.if-not-tables_long.ensures) (took_right _ _ (sym c.in_ok-size.was ∙ c.take_sheet.ensures.gives)) (no_room c.take_sheet.new.targets c.args.targets.now c.take_sheet.auto.targets) (no_room c.take_sheet.new.costs c.args.costs.now c.take_sheet.auto.costs) c.clear.ensures c.take_sheet-2.ensures
