use native.Mathlib.Omega.{arith}
use mathlib.Core.Path.{sym}
use Rattle.machine.proofs.Refreshes.{replayable, refreshed, front_zeros}
use Rattle.machine.proofs.refresh.refresh.Goals as goal

pub slice_bounds-masks-end : goal.slice_bounds-masks-end
slice_bounds-masks-end c = front_zeros _ c.requires.0.held.few_places

pub slice_bounds-limits-end : goal.slice_bounds-limits-end
slice_bounds-limits-end c = front_zeros _ c.requires.0.held.few_places

pub come_to-requires : goal.come_to-requires
come_to-requires c = let h = c.requires.0.held in (replayable _ _ _ _ _ h, sym (front_zeros _ h.few_places), sym (front_zeros _ h.few_places))

pub returns : goal.returns
returns c = refreshed _ _ _ _ _ _ c.requires.0.lent c.requires.0.held c.come_to.ensures (omega (arith, front_zeros _ c.requires.0.held.few_places)) (omega (arith, front_zeros _ c.requires.0.held.few_places)) c.requires.1 _ c.filter.ensures
