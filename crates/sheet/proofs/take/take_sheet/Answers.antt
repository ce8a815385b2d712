use mathlib.Core.Path.{◌≡◌}
use Prim.Native.Nat.{◌<◌}
use lib.ListN.{length}
use Rattle.std.proofs.Common.{rules}
use Rattle.std.proofs.lemmas.Result.{err_from_is_err_and}
use Rattle.sheet.specs.declared.Unread.TheVariants.{WrongLine}
use Rattle.sheet.proofs.Judging.{ok_before, err_before}
use Rattle.sheet.proofs.Taking.{took_wrong, sheet_empty, took_top, top_wrong, top_sized}
use Rattle.sheet.proofs.take.take_sheet.Goals as goal

pub returns-then-is_empty : goal.returns-then-is_empty
returns-then-is_empty c = took_wrong _ _ _ _ _ _ _ (sheet_empty c.args.text.now (search rules))

pub returns-in_err-size : goal.returns-in_err-size
returns-in_err-size c =
    let p = err_from_is_err_and c.from_residual.result c.from_residual.ensures.1 in
    let b = err_before _ _ _ _ c.map_err.ensures.cases c.in_err-size.was in
    let q : c.in_err-size.field-0.0 ≡ WrongLine 1 b.0 = search rules in
    let n : 0 < length c.args.text.now = search rules in
    rw (p.1, p.2, q) (took_wrong _ _ _ _ _ _ _ (top_wrong _ _ (c.line_end-end.ensures.inside n) _ c.size_line.ensures _ b.1))

pub take_lines-requires : goal.take_lines-requires
take_lines-requires c =
    let n : 0 < length c.args.text.now = search rules in
    let l = c.line_end-end.ensures.inside n in
    (l.high, top_sized _ _ l _ c.size_line.ensures _ (ok_before _ _ _ _ c.map_err.ensures.cases c.in_ok-size.was), c.requires)

pub returns : goal.returns
returns c =
    let n : 0 < length c.args.text.now = search rules in
    took_top _ _ (c.line_end-end.ensures.inside n) _ c.size_line.ensures _ (ok_before _ _ _ _ c.map_err.ensures.cases c.in_ok-size.was) _ _ c.take_lines.result _ _ c.take_lines.ensures
