use Prim.Native.Nat.{◌+◌, ◌-◌}
use mathlib.Core.Path.{sym, ◌∙◌}
use lib.ListN.{length}
use native.Mathlib.Omega.{arith}
use Rattle.kinds.proofs.Bits.{bit_below}
use Rattle.meaning.proofs.Members.{below_at}
use Rattle.rules.proofs.Walk.{values_below, steps_on, steps_stop, steps_end}
use Rattle.rules.proofs.steps.steps_made.Goals as goal

pub target_of-requires : goal.target_of-requires
target_of-requires c = (c.loop-i.invariant.0, below_at _ _ c.args.roster.now (values_below _ _ c.requires.2) (omega arith))

pub returns-then-not-holds : goal.returns-then-not-holds
returns-then-not-holds c =
    sym (c.loop-i.invariant.1 ∙ steps_stop _ _ _ _ _ _ c.loop-i-test.true (rw c.target_of.ensures at (sym c.if-not-holds.ensures)))

pub loop-i-preserved : goal.loop-i-preserved
loop-i-preserved c = let b = sym c.if-not-holds.ensures in (
  bit_below 64 _ _ (omega (arith, c.type_inv.layers (length c.args.roster.now - (c.loop-i.i + 1)))) b,
  c.loop-i.invariant.1 ∙ steps_on _ _ _ _ _ _ _ c.loop-i-test.true c.target_of.ensures b,
)

pub returns : goal.returns
returns c = sym (c.loop-i.invariant.1 ∙ (steps_end _ _ _ _ _ _ c.loop-i-test.false ∙ omega arith))
