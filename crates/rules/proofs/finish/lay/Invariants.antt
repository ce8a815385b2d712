use mathlib.Core.Path.{◌≡◌}
use mathlib.Core.List.{[]}
use lib.ListN.{length}
use Rattle.meaning.specs.Lists.{Filled}
use Rattle.meaning.specs.Meaning.{rules_of}
use Rattle.rules.specs.Inner.{finishing}
use Rattle.rules.proofs.finish.lay.Given as goal

abbrev pub invariant-loop-layer : goal.invariant-loop-layer
invariant-loop-layer l = let f = finishing (rules_of l.arcs.states l.arcs.values l.arcs.targets.now [] l.accepting) in
    (length l.layers ≡ length l.initial.layers) × (l.set ≡ f l.layer-index) × Filled f l.layer-index l.initial.layers l.layers
