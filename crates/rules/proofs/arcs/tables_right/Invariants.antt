use mathlib.Core.Path.{◌≡◌}
use Prim.Native.Nat.{◌-◌, ◌*◌}
use Rattle.rules.specs.Checks.{tables_from, tables_right}
use Rattle.rules.proofs.arcs.tables_right.Given as goal

abbrev pub invariant-loop-k : goal.invariant-loop-k
invariant-loop-k l = let r = l.rules in
    tables_right r.size.states r.size.values r.targets.now r.costs.now r.accepting ≡ tables_from r.size.states r.targets.now r.costs.now r.accepting l.k (r.size.states * r.size.values - l.k)
