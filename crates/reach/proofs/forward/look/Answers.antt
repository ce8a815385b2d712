use mathlib.Core.Path.{◌∙◌, ap}
use mathlib.Core.Bool.{Bool, ◌&&◌, ◌||◌}
use lib.Dec.{eqb}
use Rattle.kinds.specs.Bits.{width, bit, mask_of}
use Rattle.reach.proofs.forward.look.Goals as goal

pub returns : goal.returns
returns c = let a = c.args in
    (c.marked.ensures ∙ ap (λ (b : Bool). mask_of (λ u. bit a.kept.0 u || (b && eqb u a.v.0)) width) c.supported-on.ensures.0, c.supported-on.ensures.1)
