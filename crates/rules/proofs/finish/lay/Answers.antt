use mathlib.Core.Path.{◌≡◌, refl, ◌∙◌}
use lib.ListN.{length, length-set}
use Rattle.std.proofs.Common.{rules}
use native.Mathlib.Numerals.{add-one}
use native.Mathlib.Omega.{arith}
use Rattle.meaning.proofs.Lists.{filled_none, filled_more}
use Rattle.rules.proofs.Finishing.{finishing_none, finishing_more}
use Rattle.rules.proofs.finish.lay.Goals as goal

pub loop-layer-init : goal.loop-layer-init
loop-layer-init c = (refl, finishing_none _ c.requires, filled_none _ _)

pub loop-layer-preserved : goal.loop-layer-preserved
loop-layer-preserved c = let l = c.loop-layer.invariant in
    let e : length c.all_next.new.next ≡ c.args.arcs.now.states = search rules in
    (simp length-set l.0, rw (l.1, e) at c.into_set-set.ensures ∙ (finishing_more _ _ c.all_next.ensures ∙ rw (add-one _)), filled_more _ (omega arith) l.2 l.1)
