use native.Mathlib.Omega.{arith}
use Rattle.compositor.proofs.Filling.{putting_start, putting_on, putting_end}
use Rattle.compositor.proofs.fill.put_row.Goals as goal

pub loop-i-init : goal.loop-i-init
loop-i-init c = putting_start _ _ _ _ (omega arith)

pub loop-i-preserved : goal.loop-i-preserved
loop-i-preserved c = putting_on _ _ _ _ _ _ _ c.requires.0 (omega arith) c.target_of.ensures c.loop-i.invariant

pub shape_of-targets : goal.shape_of-targets
shape_of-targets c = c.loop-i.invariant.long

pub returns : goal.returns
returns c = putting_end _ _ _ _ _ _ (omega arith) c.loop-i.invariant
