use borrow.Author.Rules.{rules}
use native.Mathlib.Omega.{arith}
use Rattle.session.proofs.Backs.{undone_is}
use Rattle.session.proofs.entries.undo.Goals as goal

pub returns : goal.returns
returns c = undone_is c.args.mark c.args.held.now c.fill.new.self (omega arith) c.requires.0.long (omega (arith, c.requires.0.few, c.requires.0.open_few)) (search rules)
