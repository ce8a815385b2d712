use Rattle.scribe.specs.Inner.{listed, state_text}
use Rattle.text.specs.Writing.{Wrote}
use Rattle.scribe.proofs.lines.put_finals.Given as goal

abbrev pub invariant-loop-q : goal.invariant-loop-q
invariant-loop-q l = Wrote l.initial.buffer l.at (listed (state_text l.accepting) l.q) l.buffer l.next
