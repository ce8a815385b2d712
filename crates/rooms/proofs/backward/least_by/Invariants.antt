use mathlib.Core.Path.{◌≡◌}
use lib.ListN.{drop}
use Rattle.rooms.specs.Tables.{turned, numbers_of, least_by}
use Rattle.rooms.proofs.backward.least_by.Given as goal

abbrev pub invariant-loop-k : goal.invariant-loop-k
invariant-loop-k g l = l.least ≡ least_by (turned l.targets l.costs) l.needs l.q.0 (numbers_of (drop l.k l.values)) l.was
