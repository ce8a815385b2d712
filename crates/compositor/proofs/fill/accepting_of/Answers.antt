use native.Mathlib.Omega.{arith}
use mathlib.Core.Path.{◌∙◌, ap}
use mathlib.Core.List.{List}
use Prim.Native.Nat.{ℕ}
use lib.ListN.{length, get_or}
use Rattle.compositor.specs.Inner.{ends_by}
use Rattle.compositor.proofs.Filling.{joining_start, joining_on, joining_end}
use Rattle.compositor.proofs.fill.accepting_of.Goals as goal

pub loop-q-init : goal.loop-q-init
loop-q-init c = joining_start _ _

pub loop-q-preserved : goal.loop-q-preserved
loop-q-preserved c =
    joining_on _ _ _ _ _ _ c.loop-q.invariant
    (c.accepts.ensures ∙ ap (λ (cs : List ℕ). ends_by c.args.automaton.now.null c.args.automaton.now.last (get_or cs c.loop-q.q 0)) c.configurations-c-items.ensures) c.join-set.ensures

pub returns : goal.returns
returns c = joining_end _ _ _ _ (omega (arith, ap length c.configurations-c-items.ensures)) c.loop-q.invariant
