use mathlib.Core.Path.{sym, ◌∙◌}
use native.Mathlib.Omega.{arith}
use Rattle.rooms.specs.Tables.{turned, rooms_by}
use Rattle.rooms.proofs.Raising.{values_none, values_more}
use Rattle.rooms.proofs.Nearing.{drawn_high, drawn_out, drawn_in}
use Rattle.rooms.proofs.near.near_row.Goals as goal
use Rattle.rooms.proofs.near.near_row.Goals.{else-from-values-via-then-from-values+else-has, else-from-values-via-else-from-values}

pub make_row-requires : goal.make_row-requires
make_row-requires c = let p = c.requires in (p.0, p.1, p.2, p.3, p.4, p.5, p.6, p.9, p.10)

pub lessen-requires : goal.lessen-requires
lessen-requires c = let p = c.requires in
    (omega arith, (p.0, p.2, p.3, values_more (omega (arith, p.1, c.from.ensures, c.if-from-values.true)) values_none, omega (arith, p.7), p.8, omega (arith, p.9, c.make_row.auto.row)))

pub returns-then-has : goal.returns-then-has
returns-then-has c = let a = c.args in
    drawn_in (turned a.targets.now a.costs.now) (rooms_by a.fewer.now) a.same.now a.values a.mask.0 a.drawn.0 (omega arith) (sym c.has.ensures ∙ c.if-has.true) c.make_row.ensures c.lessen.ensures

pub returns-else-from-values : goal.returns-else-from-values
returns-else-from-values c = let a = c.args in
    elim c.else-from-values.branch [
      | else-from-values-via-then-from-values+else-has w ↦ drawn_out (turned a.targets.now a.costs.now) (rooms_by a.fewer.now) a.same.now a.values a.mask.0 a.drawn.0 (sym w.has.ensures ∙ w.if-has.false) c.make_row.ensures
      | else-from-values-via-else-from-values w ↦ drawn_high (turned a.targets.now a.costs.now) (rooms_by a.fewer.now) a.same.now a.values a.mask.0 a.drawn.0 (omega (arith, w.if-from-values.false)) c.make_row.ensures
    ]
