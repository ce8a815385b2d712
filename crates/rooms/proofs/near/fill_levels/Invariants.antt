use Rattle.rooms.specs.Tables.{turned, frame}
use Rattle.rooms.proofs.Nearing.{Searched}
use Rattle.rooms.proofs.near.fill_levels.Given as goal

abbrev pub invariant-loop-j : goal.invariant-loop-j
invariant-loop-j l = Searched (frame (turned l.targets l.costs) l.states l.values l.accepting) l.drawn l.masks l.limits l.start.0 l.spent l.initial.work l.j l.work
