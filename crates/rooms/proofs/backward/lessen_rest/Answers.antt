use Rattle.meaning.specs.Bounds.{top}
use borrow.Author.Tests.{lt-ltb, le-ltb}
use mathlib.Core.List.{[]}
use lib.Seq.{length-take-le}
use Rattle.kinds.specs.Bits.{width}
use Rattle.rooms.specs.Tables.{turned, up_to_none}
use Rattle.rooms.proofs.Filling.{filled_same, blanked_front}
use Rattle.rooms.proofs.Raising.{lessens}
use Rattle.rooms.proofs.backward.lessen_rest.Goals as goal

pub returns-then-first : goal.returns-then-first
unfolding top up_to_none
returns-then-first c = let a = c.args in
    let h = c.requires.5 in
    rw (le-ltb a.v.0 width c.if-v-ge-WIDTH.true, c.if-first.true, c.fill.ensures.after (λ y e. e), length-take-le a.states a.row.now h)
    (lessens (turned a.targets.now a.costs.now) a.needs.now a.states [] (blanked_front a.states 366001 a.row.now h))

pub returns-else-first : goal.returns-else-first
unfolding up_to_none
returns-else-first c = let a = c.args in rw (le-ltb a.v.0 width c.if-v-ge-WIDTH.true, c.if-first.false) (lessens (turned a.targets.now a.costs.now) a.needs.now a.states _ (filled_same _ _))

pub returns-then-w-ge-WIDTH : goal.returns-then-w-ge-WIDTH
unfolding up_to_none
returns-then-w-ge-WIDTH c = let a = c.args in rw (lt-ltb a.v.0 width c.if-v-ge-WIDTH.false, le-ltb a.w.0 width c.if-w-ge-WIDTH.true) c.lessen_by.ensures

pub returns-then-x-ge-WIDTH : goal.returns-then-x-ge-WIDTH
unfolding up_to_none
returns-then-x-ge-WIDTH c = let a = c.args in rw (lt-ltb a.v.0 width c.if-v-ge-WIDTH.false, lt-ltb a.w.0 width c.if-w-ge-WIDTH.false, le-ltb a.x.0 width c.if-x-ge-WIDTH.true) c.lessen_by-then-x-ge-WIDTH.ensures

pub returns : goal.returns
unfolding up_to_none
returns c = let a = c.args in rw (lt-ltb a.v.0 width c.if-v-ge-WIDTH.false, lt-ltb a.w.0 width c.if-w-ge-WIDTH.false, lt-ltb a.x.0 width c.if-x-ge-WIDTH.false) c.lessen_by-2.ensures
