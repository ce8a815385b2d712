use mathlib.Core.Path.{refl, sym, ◌∙◌}
use Rattle.meaning.specs.Meaning.{arcs_of}
use Rattle.rules.proofs.Checks.{test_failed, test_passed}
use Rattle.rooms.proofs.Sizing.{sizes_same, prepares_not, prepares_is}
use Rattle.rooms.proofs.backward.prepare.Goals as goal
use Rattle.rooms.proofs.backward.prepare.Goals.{then-not-fits-via-then-not-fits, then-not-fits-via-else-not-fits+then-to-ne-TABLE_SIZE, then-not-fits-via-else-not-fits+else-to-ne-TABLE_SIZE+then-fee-ne-TABLE_SIZE}

pub returns-then-not-fits : goal.returns-then-not-fits
returns-then-not-fits c = prepares_not (λ s a b. elim c.then-not-fits.branch [
  | then-not-fits-via-then-not-fits w ↦ c.fits.ensures.wrong (test_failed refl w.if-not-fits.true) s
  | then-not-fits-via-else-not-fits+then-to-ne-TABLE_SIZE w ↦ w.if-to-ne-TABLE_SIZE.true a
  | then-not-fits-via-else-not-fits+else-to-ne-TABLE_SIZE+then-fee-ne-TABLE_SIZE w ↦ w.if-fee-ne-TABLE_SIZE.true b
])

pub turn-requires : goal.turn-requires
turn-requires c = let s = c.fits.ensures.right (test_passed refl c.if-not-fits.false) in
    (s.few_states_lem, s.few_values, s.all_targets, s.all_costs, c.if-to-ne-TABLE_SIZE.false, c.if-fee-ne-TABLE_SIZE.false)

pub fill_needs-requires : goal.fill_needs-requires
fill_needs-requires c = let s = c.fits.ensures.right (test_passed refl c.if-not-fits.false) in
    let t = c.turn in
    let r = c.rank in
    let a = c.args in (
      sizes_same s (t.auto.to ∙ (c.if-to-ne-TABLE_SIZE.false ∙ sym s.all_targets)) (t.auto.fee ∙ (c.if-fee-ne-TABLE_SIZE.false ∙ sym s.all_costs)) refl refl refl,
      λ e. record {
        of = arcs_of a.states a.values a.targets.now a.costs.now;
        states = refl;
        values = refl;
        same = t.ensures.0;
        ranked = r.ensures.right s.few_states_lem s.few_values s.all_targets s.all_costs (sym r.auto.out ∙ e);
      },
    )

pub shape_of-to : goal.shape_of-to
shape_of-to c = c.turn.auto.to

pub shape_of-fee : goal.shape_of-fee
shape_of-fee c = c.turn.auto.fee

pub shape_of-arcs : goal.shape_of-arcs
shape_of-arcs c = c.rank.auto.out

pub shape_of-work : goal.shape_of-work
shape_of-work c = c.fill_needs.auto.work

pub returns : goal.returns
returns c = let s = c.fits.ensures.right (test_passed refl c.if-not-fits.false) in
    let t = c.turn.ensures in
    let f = c.fill_needs.ensures in
    prepares_is s c.if-to-ne-TABLE_SIZE.false c.if-fee-ne-TABLE_SIZE.false (record {
      turns = t.0;
      ranks = λ e. c.rank.ensures.right s.few_states_lem s.few_values s.all_targets s.all_costs e;
      rooms = f.0;
      beside_targets = t.1;
      beside_costs = t.2;
      beside_rooms = f.1;
    })
