use Rattle.rules.specs.Checks.{rules_in}
use Rattle.scribe.specs.Inner.{listed, arc_text}
use Rattle.text.specs.Writing.{Wrote}
use Rattle.scribe.proofs.lines.put_row.Given as goal

abbrev pub invariant-loop-v : goal.invariant-loop-v
invariant-loop-v l = Wrote l.initial.buffer l.at (listed (arc_text (rules_in l.rules).arcs l.q.0) l.v) l.buffer l.next
