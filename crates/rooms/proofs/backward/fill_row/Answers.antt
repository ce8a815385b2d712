use mathlib.Core.Path.{refl, sym, ◌∙◌}
use borrow.Author.Tests.{eqb-true, eqb-false}
use mathlib.Core.List.{[]}
use native.Mathlib.Omega.{arith}
use Rattle.kinds.specs.Bits.{width}
use Rattle.kinds.proofs.Bits.{mask_lt}
use Rattle.rooms.specs.Tables.{turned, rooms_by}
use Rattle.rooms.proofs.Choosing.{Picked, choices_within, picked_on, picked_few, picked_more, picked_none, four_few, four_on, four_less, four_last}
use Rattle.rooms.proofs.Raising.{values_none, values_more, going_none, going_more, going_end}
use Rattle.rooms.proofs.backward.fill_row.Goals as goal

pub loop-fourth-init : goal.loop-fourth-init
loop-fourth-init c = going_none _ _ _ _ _ (rw c.meet-left.ensures (mask_lt _ width))

pub lessen_rest-requires : goal.lessen_rest-requires
lessen_rest-requires c = let p = c.requires in (p.0, p.2, p.3, p.4, p.5, omega (arith, c.loop-fourth.auto.row))

pub returns-then-eq : goal.returns-then-eq
returns-then-eq c = let a = c.args in
    let one : Picked c.loop-fourth.left.0 _ _ = record { few = c.loop-fourth.invariant.seen.few; smallest = c.smallest-v.ensures; rest = c.rest-second.ensures } in
    let two = picked_on one c.smallest-w.ensures c.rest-third.ensures in
    let three = picked_on two c.smallest-x.ensures c.rest-fourth.ensures in
    going_end (turned a.targets.now a.costs.now) (rooms_by a.needs.now) a.states _ _ (picked_more one _ (picked_more two _ (picked_more three [] (picked_none (eqb-true _ _ (sym c.eq.ensures ∙ c.if-eq.true)))))) c.loop-fourth.invariant c.lessen_rest.ensures (choices_within a.values a.mask.0 c.requires.1 c.full.ensures c.meet-left.ensures)

pub lessen_by-requires : goal.lessen_by-requires
lessen_by-requires c = let p = c.requires in
    let one : Picked c.loop-fourth.left.0 _ _ = record { few = c.loop-fourth.invariant.seen.few; smallest = c.smallest-v.ensures; rest = c.rest-second.ensures } in
    let two = picked_on one c.smallest-w.ensures c.rest-third.ensures in
    let three = picked_on two c.smallest-x.ensures c.rest-fourth.ensures in
    let f = four_few one two three (eqb-false _ _ (sym c.eq.ensures ∙ c.if-eq.false)) in
    (omega arith, (p.0, p.2, p.3, values_more (picked_few (picked_on three c.smallest-y.ensures refl) (eqb-false _ _ (sym c.eq.ensures ∙ c.if-eq.false))) (values_more f.2 (values_more f.1 (values_more f.0 values_none))), p.4, p.5, omega (arith, c.loop-fourth.auto.row)))

pub loop-fourth-smaller : goal.loop-fourth-smaller
loop-fourth-smaller c = let one : Picked c.loop-fourth.left.0 _ _ = record { few = c.loop-fourth.invariant.seen.few; smallest = c.smallest-v.ensures; rest = c.rest-second.ensures } in
    let two = picked_on one c.smallest-w.ensures c.rest-third.ensures in
    let three = picked_on two c.smallest-x.ensures c.rest-fourth.ensures in
    four_less one two three (eqb-false _ _ (sym c.eq.ensures ∙ c.if-eq.false)) (picked_on three c.smallest-y.ensures c.rest-left.ensures)

pub loop-fourth-preserved : goal.loop-fourth-preserved
loop-fourth-preserved c = let one : Picked c.loop-fourth.left.0 _ _ = record { few = c.loop-fourth.invariant.seen.few; smallest = c.smallest-v.ensures; rest = c.rest-second.ensures } in
    let two = picked_on one c.smallest-w.ensures c.rest-third.ensures in
    let three = picked_on two c.smallest-x.ensures c.rest-fourth.ensures in
    let four = picked_on three c.smallest-y.ensures c.rest-left.ensures in going_more _ _ _ _ _ (four_on one two three (eqb-false _ _ (sym c.eq.ensures ∙ c.if-eq.false)) four) (four_last one two three (eqb-false _ _ (sym c.eq.ensures ∙ c.if-eq.false)) four) c.loop-fourth.invariant c.lessen_by.ensures
