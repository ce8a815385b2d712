use Prim.Native.Nat.{suc, ◌≤◌}
use lib.ListN.{length}
use Rattle.rooms.specs.Tables.{turned, frame, layer, Layers, Outside, Needed}
use Rattle.rooms.proofs.backward.fill_needs.Given as goal

abbrev pub invariant-loop-i : goal.invariant-loop-i
invariant-loop-i l = (1 ≤ l.span) × (l.span ≤ 8)
    × (Layers (frame (turned l.targets l.costs) l.states l.values l.accepting) l.masks l.limits l.i l.work × Needed (layer (frame (turned l.targets l.costs) l.states l.values l.accepting) l.masks l.limits l.i) l.states l.needs)
    × Outside l.states (suc (length l.masks)) l.initial.work l.work
