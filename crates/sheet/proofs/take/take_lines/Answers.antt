use mathlib.Core.Path.{◌≡◌, sym, ◌∙◌}
use Rattle.std.proofs.Common.{rules}
use Rattle.sheet.specs.declared.Unread.TheVariants.{WrongLine}
use Rattle.std.proofs.lemmas.Result.{err_from_is_err_and}
use Rattle.sheet.proofs.Taking.{taking_start, taking_more, taking_wrong, taking_end, row_in}
use Rattle.sheet.proofs.Judging.{ok_before, err_before}
use Rattle.sheet.proofs.take.take_lines.Goals as goal

pub loop-at-init : goal.loop-at-init
loop-at-init c = taking_start _ _ _ _ _ c.requires.0

pub returns-in_err-row : goal.returns-in_err-row
returns-in_err-row c =
    let p = err_from_is_err_and c.from_residual.result c.from_residual.ensures.1 in
    let b = err_before _ _ _ _ c.map_err.ensures.cases c.in_err-row.was in
    let q : c.in_err-row.field-0.0 ≡ WrongLine c.loop-at.number b.0 = search rules in
    rw (p.1, p.2, q) (taking_wrong _ _ _ _ _ _ _ _ _ _ _ c.loop-at.invariant _ c.row_of.result _ (c.line_end-end.ensures.inside c.loop-at-test.true) c.row_of.ensures b.1)

pub put_row-accepting-requires : goal.put_row-accepting-requires
put_row-accepting-requires c = (
  c.loop-at.invariant.same_targets ∙ c.requires.2 ∙ sym c.loop-at.invariant.same_costs,
  c.requires.1,
  row_in _ _ _ c.row_of.result _ c.requires.1 c.row_of.ensures (ok_before _ _ _ _ c.map_err.ensures.cases c.in_ok-row.was),
)

pub loop-at-preserved : goal.loop-at-preserved
loop-at-preserved c =
    taking_more _ _ _ _ _ _ _ _ _ _ _ c.loop-at.invariant _ c.row_of.result _ _ _ _ _ (c.line_end-end.ensures.inside c.loop-at-test.true) c.row_of.ensures (ok_before _ _ _ _ c.map_err.ensures.cases c.in_ok-row.was)
    c.put_row-accepting.ensures c.after_row-next.ensures c.put_row-accepting.auto.targets c.put_row-accepting.auto.costs

pub returns : goal.returns
returns c = taking_end _ _ _ _ _ _ _ _ _ _ _ c.loop-at.invariant c.loop-at-test.false
