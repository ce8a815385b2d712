use Prim.Native.Nat.{◌*◌, ◌%◌, ◌^◌}
use mathlib.Core.Path.{◌≡◌}
use Rattle.rules.specs.Inner.{into_set}
use Rattle.rules.proofs.finish.into_set.Given as goal

abbrev pub invariant-loop-to : goal.invariant-loop-to
invariant-loop-to l = (l.found ≡ into_set l.next l.set l.to-index) × (l.bit ≡ 1 * 2 ^ l.to-index % 2 ^ 64)
