use mathlib.Core.Path.{◌≡◌}
use lib.ListN.{drop}
use Rattle.text.specs.Lines.{strip_word}
use Rattle.text.proofs.bytes.begins.Given as goal

abbrev pub invariant-loop-k : goal.invariant-loop-k
invariant-loop-k l = strip_word l.word l.line ≡ strip_word (drop l.k l.word) (drop l.k l.line)
