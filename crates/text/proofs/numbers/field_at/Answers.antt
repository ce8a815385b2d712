use native.Mathlib.Omega.{arith}
use mathlib.Core.Path.{sym}
use Rattle.std.proofs.lemmas.Result.{err_from_is_err_and}
use Rattle.text.proofs.Scans.{value_in, field_not, field_short, field_tab, field_other, tab_sort, sort_tab, sort_is, sort_not}
use Rattle.text.proofs.numbers.field_at.Goals as goal
use Rattle.text.proofs.numbers.field_at.Goals.{then-end-line-via-then-end-line, then-end-line-via-else-end-line+then-ne}

pub returns-in_err-value : goal.returns-in_err-value
returns-in_err-value c = let p = err_from_is_err_and c.from_residual.result c.from_residual.ensures.1 in rw (p.1, p.2) (field_not _ _ _ c.number_at.ensures _ c.in_err-value.was)

pub returns-then-end-line : goal.returns-then-end-line
returns-then-end-line c =
    elim c.then-end-line.branch [
      | then-end-line-via-then-end-line w ↦ field_short _ _ _ c.number_at.ensures _ c.in_ok-value.was (omega arith)
      | then-end-line-via-else-end-line+then-ne w ↦
          field_other _ _ _ c.number_at.ensures _ c.in_ok-value.was (omega (arith, value_in _ _ _ c.number_at.ensures _ c.in_ok-value.was)) (λ e. sort_not _ _ _ _ w.sort_of.ensures w.ne.ensures w.if-ne.true (sym (sort_tab _ e)))
    ]

pub returns : goal.returns
returns c = field_tab _ _ _ c.number_at.ensures _ c.in_ok-value.was (omega (arith, value_in _ _ _ c.number_at.ensures _ c.in_ok-value.was)) (tab_sort _ (sort_is _ _ _ _ c.sort_of.ensures c.ne.ensures c.if-ne.false))
