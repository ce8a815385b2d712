use Rattle.rules.specs.Checks.{rules_in}
use Rattle.checker.proofs.Following.{Following}
use Rattle.checker.proofs.follow.right.Given as goal

abbrev pub invariant-loop-i : goal.invariant-loop-i
invariant-loop-i l = Following (rules_in l.rules) l.initial.q.0 l.initial.cost l.masks l.limits l.drawn l.roster l.claimed l.q.0 l.cost l.changes l.i
