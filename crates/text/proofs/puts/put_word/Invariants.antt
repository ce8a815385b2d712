use lib.ListN.{take}
use Rattle.text.specs.Writing.{Wrote}
use Rattle.text.proofs.puts.put_word.Given as goal

abbrev pub invariant-loop-b : goal.invariant-loop-b
invariant-loop-b l = Wrote l.initial.buffer l.at (take l.b-index l.word) l.buffer l.next
