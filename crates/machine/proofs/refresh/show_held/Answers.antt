use borrow.Author.Rules.{rules}
use native.Mathlib.Omega.{arith}
use mathlib.Core.Path.{sym}
use Rattle.machine.proofs.Refreshes.{front_zeros, renews}
use Rattle.machine.proofs.refresh.show_held.Goals as goal

pub slice_bounds-kept-end : goal.slice_bounds-kept-end
slice_bounds-kept-end c = front_zeros _ c.requires.held.few_places

pub refresh-fresh-requires : goal.refresh-fresh-requires
refresh-fresh-requires c = (c.requires, sym (front_zeros _ c.requires.held.few_places))

pub returns : goal.returns
returns c = renews _ c.args.memory.now _ _ _ _ _ (omega (arith, front_zeros _ c.requires.held.few_places)) c.refresh-fresh.ensures _ c.show.ensures _ (search rules)
