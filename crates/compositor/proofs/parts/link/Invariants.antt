use mathlib.Core.Path.{◌≡◌}
use lib.ListN.{length}
use Rattle.patterns.specs.Line.{most_letters}
use Rattle.compositor.specs.Inner.{link_to}
use Rattle.compositor.proofs.parts.link.Given as goal

abbrev pub invariant-loop-i : goal.invariant-loop-i
invariant-loop-i l = (length l.follow ≡ most_letters) × (l.follow ≡ link_to l.initial.follow l.l l.f l.i)
