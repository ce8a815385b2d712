use Rattle.compositor.specs.Inner.{onward_in}
use Rattle.compositor.proofs.Filling.{Filled}
use Rattle.compositor.proofs.fill.fill.Given as goal

abbrev pub invariant-loop-q : goal.invariant-loop-q
invariant-loop-q l = Filled (onward_in l.automaton) l.values l.met l.initial.targets l.q l.targets
