use Prim.Native.Nat.{◌≤◌}
use mathlib.Core.Path.{◌≡◌}
use lib.ListN.{length}
use Rattle.reach.specs.Turning.{net_in}
use Rattle.reach.specs.Looks.{Past}
use Rattle.reach.proofs.Passing.{Passing}
use Rattle.reach.proofs.forward.pass.Given as goal

abbrev pub invariant-loop-i : goal.invariant-loop-i
invariant-loop-i l = (length l.front ≡ 64) × (length l.needs ≡ 256) × (length l.onward ≡ 256) × (length l.hints ≡ 16) × (length l.fronts ≡ 512) × (length l.onwards ≡ 512) × (length l.held ≡ 8) × (length l.kept ≡ length l.masks)
    × (1 ≤ l.span) × (l.span ≤ 8) × Past (net_in l.arcs) l.arcs.states l.arcs.values l.fronts l.onwards l.held × Passing (net_in l.arcs) l.arcs.states l.arcs.values l.spent l.masks l.work l.initial.front l.front l.needs l.onward l.kept l.i
