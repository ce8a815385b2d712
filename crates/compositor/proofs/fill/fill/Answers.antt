use native.Mathlib.Omega.{arith}
use mathlib.Core.Path.{◌≡◌, ap, ◌∙◌}
use lib.ListN.{length, get_or}
use mathlib.Core.List.{List}
use Prim.Native.Nat.{ℕ, ◌*◌}
use Rattle.numbering.specs.Numbering.{row_of}
use Rattle.compositor.specs.Inner.{onward_in}
use Rattle.compositor.proofs.Filling.{filled_start, filled_room, filled_turn, filled_end}
use Rattle.compositor.proofs.fill.fill.Goals as goal

pub loop-q-init : goal.loop-q-init
loop-q-init c = filled_start _ _ _ _

pub put_row-requires : goal.put_row-requires
put_row-requires c = (
  omega (
    arith,
    c.arc_at-at.ensures,
    filled_room _ _ _ _ _ _ c.loop-q.invariant c.requires.0 (omega (arith, ap length c.configurations-c-items.ensures)) c.requires.2 c.requires.1 c.onward_row-row.result,
  ),
  c.requires.2,
)

pub loop-q-preserved : goal.loop-q-preserved
loop-q-preserved c =
    let e : c.arc_at-at.result ≡ c.loop-q.q * c.args.values = omega (arith, c.arc_at-at.ensures) in
    filled_turn _ _ _ _ _ _ c.loop-q.invariant c.requires.0 (omega (arith, ap length c.configurations-c-items.ensures)) c.requires.2 c.requires.1 _ _
    (c.onward_row-row.ensures ∙ ap (λ (cs : List ℕ). row_of (onward_in c.args.automaton.now) c.args.values (get_or cs c.loop-q.q 0)) c.configurations-c-items.ensures) (rw e at c.put_row.ensures)

pub returns : goal.returns
returns c = filled_end _ _ _ _ _ _ (omega (arith, ap length c.configurations-c-items.ensures)) c.loop-q.invariant
