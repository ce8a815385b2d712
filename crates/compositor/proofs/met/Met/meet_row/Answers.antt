use native.Mathlib.Omega.{arith}
use mathlib.Core.Path.{◌∙◌, ap, sym}
use lib.ListN.{drop}
use Rattle.compositor.specs.Inner.{meets_in, list_size}
use Prim.Native.Nat.{ℕ, ◌+◌}
use mathlib.Core.List.{List}
use Rattle.compositor.proofs.Seek.{going_on, going_end}
use Rattle.compositor.proofs.met.Met.meet_row.Goals as goal

pub loop-c-preserved : goal.loop-c-preserved
loop-c-preserved c = ap (λ (xs : List ℕ). meets_in list_size xs (drop (c.loop-c.c-index + 1) c.args.row.now)) c.meet_one.ensures ∙ going_on c.loop-c.self c.args.row.now c.loop-c.c-index (omega arith) ∙ c.loop-c.invariant

pub returns : goal.returns
returns c = sym (going_end c.loop-c.self c.args.row.now c.loop-c.c-index (omega arith)) ∙ c.loop-c.invariant
