use mathlib.Core.Path.{sym, ◌∙◌}
use native.Mathlib.Omega.{arith}
use Rattle.rules.proofs.Checks.{tables_start, tables_more, tables_fail, tables_end}
use Rattle.rules.proofs.arcs.tables_right.Goals as goal

pub loop-k-init : goal.loop-k-init
loop-k-init c = tables_start _ _ _ _ _ _ (omega arith)

pub returns-then-not-arc_right : goal.returns-then-not-arc_right
returns-then-not-arc_right c = sym (c.loop-k.invariant ∙ tables_fail _ _ _ _ _ _ (omega arith) (sym c.if-not-arc_right.ensures))

pub loop-k-preserved : goal.loop-k-preserved
loop-k-preserved c = c.loop-k.invariant ∙ tables_more _ _ _ _ _ _ _ (omega arith) (sym c.if-not-arc_right.ensures)

pub returns : goal.returns
returns c = c.accepting_right.ensures ∙ sym (c.loop-k.invariant ∙ tables_end _ _ _ _ _ _ (omega arith))
