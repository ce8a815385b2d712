use Prim.Native.Nat.{suc}
use mathlib.Core.Path.{◌≡◌}
use lib.ListN.{length}
use Rattle.rooms.specs.Tables.{turned, frame, Needed}
use Rattle.rooms.specs.Changes.{near_layer, NearLevels, Beside, Spare}
use Rattle.rooms.proofs.near.fill_level.Given as goal

abbrev pub invariant-loop-i : goal.invariant-loop-i
invariant-loop-i l = (length l.fewer ≡ 256) × (length l.needs ≡ 256) × Spare l.states l.j l.fewer
    × (NearLevels (frame (turned l.targets l.costs) l.states l.values l.accepting) l.drawn l.masks l.limits l.j l.i l.work × Needed (near_layer (frame (turned l.targets l.costs) l.states l.values l.accepting) l.drawn l.masks l.limits l.i (suc l.j)) l.states l.needs)
    × Beside l.states l.j l.initial.work l.work
