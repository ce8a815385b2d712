use native.Mathlib.Omega.{arith}
use mathlib.Core.Path.{◌∙◌}
use Rattle.text.proofs.Scans.{ends_end, ends_tab, ends_other, tab_sort, sort_same, sort_other}
use Rattle.text.proofs.numbers.field_ends.Goals as goal

pub returns-then-end-line : goal.returns-then-end-line
returns-then-end-line c = ends_end c.args.line.now c.args.end (omega arith)

pub returns-then-eq : goal.returns-then-eq
returns-then-eq c = c.if-eq.true ∙ ends_tab c.args.line.now c.args.end (omega arith) (tab_sort _ (sort_same _ _ _ _ c.sort_of-sort.ensures c.eq.ensures c.if-eq.true))

pub returns-else-eq : goal.returns-else-eq
returns-else-eq c = ends_other c.args.line.now c.args.end (omega arith) (sort_other _ _ _ _ c.sort_of-sort.ensures c.eq.ensures c.if-eq.false) _ _ c.sort_of-sort.ensures c.eq-else-eq.ensures
