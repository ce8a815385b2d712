use Prim.Native.Nat.{ℕ, suc, ◌+◌, ◌*◌, min, max}
use lib.ListN.{get_or}
use Rattle.meaning.specs.Bounds.{top}
use Rattle.rooms.specs.Tables.{Filled, Laid}
use Rattle.rooms.proofs.backward.lay_like.Given as goal

abbrev pub invariant-loop-k : goal.invariant-loop-k
invariant-loop-k l = Laid (λ (q : ℕ). max l.least (min (suc top) (get_or l.initial.work (l.like * 64 + q) 0 + l.rise))) l.k l.i l.initial.work l.work
    × Filled (λ (q : ℕ). max l.least (min (suc top) (get_or l.initial.work (l.like * 64 + q) 0 + l.rise))) l.k l.initial.needs l.needs
