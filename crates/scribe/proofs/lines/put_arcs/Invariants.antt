use Rattle.rules.specs.Checks.{rules_in}
use Rattle.scribe.specs.Inner.{listed, row_text}
use Rattle.text.specs.Writing.{Wrote}
use Rattle.scribe.proofs.lines.put_arcs.Given as goal

abbrev pub invariant-loop-q : goal.invariant-loop-q
invariant-loop-q l = Wrote l.initial.buffer l.at (listed (row_text (rules_in l.rules).arcs) l.q) l.buffer l.next
