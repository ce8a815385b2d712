use mathlib.Core.List.{◌∷◌}
use lib.ListN.{take}
use Rattle.meaning.specs.Lists.{each}
use Rattle.text.specs.Bytes.{tab}
use Rattle.text.specs.Numbers.{decimal}
use Rattle.text.specs.Writing.{Wrote}
use Rattle.job.proofs.mended.put_values.Given as goal

abbrev pub invariant-loop-value : goal.invariant-loop-value
invariant-loop-value l = Wrote l.initial.output l.at (each (λ v. tab ∷ decimal v) (take l.value-index l.roster)) l.output l.next
