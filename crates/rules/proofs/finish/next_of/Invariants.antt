use mathlib.Core.Path.{◌≡◌}
use mathlib.Core.List.{[]}
use Rattle.meaning.specs.Meaning.{arcs_of}
use Rattle.rules.specs.Inner.{next_by}
use Rattle.rules.proofs.finish.next_of.Given as goal

abbrev pub invariant-loop-v : goal.invariant-loop-v
invariant-loop-v l = l.next ≡ next_by (arcs_of l.arcs.states l.arcs.values l.arcs.targets.now []) l.q.0 l.v
