use native.Mathlib.Omega.{arith}
use mathlib.Core.Path.{◌∙◌, ap}
use mathlib.Core.List.{List}
use Prim.Native.Nat.{ℕ}
use lib.ListN.{length, get_or}
use Rattle.numbering.specs.Numbering.{row_of}
use Rattle.compositor.specs.Inner.{onward_in}
use Rattle.compositor.proofs.Steps.{explore_start, explore_on, explore_end, explore_full}
use Rattle.compositor.proofs.states.Automaton.explore.Goals as goal

pub loop-at-init : goal.loop-at-init
loop-at-init c = c.start-met.ensures ∙ explore_start _ _

pub returns-then-count-at : goal.returns-then-count-at
returns-then-count-at c = explore_end _ _ c.loop-at.at _ c.loop-at-test.true (omega (arith, ap length c.configurations-count.ensures)) c.loop-at.invariant

pub returns-then-count-gt-MOST_STATES : goal.returns-then-count-gt-MOST_STATES
returns-then-count-gt-MOST_STATES c = explore_full _ _ c.loop-at.at _ c.loop-at-test.true (omega (arith, ap length c.configurations-count.ensures)) c.loop-at.invariant

pub loop-at-preserved : goal.loop-at-preserved
loop-at-preserved c =
    c.meet_row.ensures
    ∙ explore_on _ _ c.loop-at.at _ _ c.loop-at-test.true (omega (arith, ap length c.configurations-count.ensures)) c.loop-at.invariant
    (c.onward_row-row.ensures ∙ ap (λ (cs : List ℕ). row_of (onward_in c.args.self.now) c.args.values (get_or cs c.loop-at.at 0)) c.configurations.ensures)
