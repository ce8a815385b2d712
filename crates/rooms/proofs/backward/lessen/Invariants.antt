use Prim.Native.Nat.{ℕ, suc}
use mathlib.Core.Bool.{cond}
use lib.ListN.{get_or}
use Rattle.meaning.specs.Bounds.{top}
use Rattle.rooms.specs.Tables.{Filled, turned, numbers_of, least_by}
use Rattle.rooms.proofs.backward.lessen.Given as goal

abbrev pub invariant-loop-q : goal.invariant-loop-q
invariant-loop-q g l = Filled (λ (k : ℕ). least_by (turned l.targets l.costs) l.needs k (numbers_of l.values) (cond l.first (suc top) (get_or l.initial.row k 0))) l.q l.initial.row l.row
