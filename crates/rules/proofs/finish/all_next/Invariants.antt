use Prim.Native.Nat.{ℕ}
use mathlib.Core.Path.{◌≡◌}
use mathlib.Core.List.{[]}
use lib.ListN.{length}
use Rattle.meaning.specs.Lists.{Filled}
use Rattle.meaning.specs.Meaning.{arcs_of}
use Rattle.rules.specs.Inner.{next_by}
use Rattle.rules.proofs.finish.all_next.Given as goal

abbrev pub invariant-loop-q : goal.invariant-loop-q
invariant-loop-q l = (length l.next ≡ length l.initial.next) × Filled (λ (k : ℕ). next_by (arcs_of l.arcs.states l.arcs.values l.arcs.targets.now []) k l.arcs.values) l.q l.initial.next l.next
