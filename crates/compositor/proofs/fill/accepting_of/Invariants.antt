use Rattle.compositor.specs.Inner.{ends_by}
use Rattle.compositor.proofs.Filling.{Joining}
use Rattle.compositor.proofs.fill.accepting_of.Given as goal

abbrev pub invariant-loop-q : goal.invariant-loop-q
invariant-loop-q l = Joining (ends_by l.automaton.null l.automaton.last) l.met l.q l.set
