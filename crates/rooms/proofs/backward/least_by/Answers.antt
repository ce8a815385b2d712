use native.Mathlib.Omega.{arith}
use Prim.Native.Nat.{◌-◌}
use mathlib.Core.Path.{◌≡◌, sym, ◌∙◌}
use Rattle.rooms.specs.Tables.{turned}
use Rattle.rooms.proofs.Raising.{least_none, least_more}
use Rattle.rooms.proofs.backward.least_by.Goals as goal

pub loop-k-init : goal.loop-k-init
loop-k-init g c = let a = c.args in least_none (turned a.targets.now a.costs.now) a.needs.now a.q.0 a.values.now a.was _ (sym c.told-values)

pub need_by-requires : goal.need_by-requires
need_by-requires g c = let p = c.requires in (p.0, p.1, p.2, p.3, p.4, p.5.few (c.loop-k.k - 1) (omega arith))

pub loop-k-preserved : goal.loop-k-preserved
loop-k-preserved g c = let a = c.args in
    c.min-least.ensures ∙ least_more (turned a.targets.now a.costs.now) a.needs.now a.q.0 a.values.now a.was c.loop-k.k _ _ c.loop-k-test.true (omega arith) c.need_by.ensures c.loop-k.invariant

pub returns : goal.returns
returns g c = let e : c.loop-k.k ≡ 0 = omega arith in rw e at c.loop-k.invariant
