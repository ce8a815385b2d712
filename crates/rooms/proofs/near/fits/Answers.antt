use native.Mathlib.Omega.{arith}
use Rattle.rooms.proofs.Sizing.{plan_not, plan_fits}
use mathlib.Core.Path.{sym}
use lib.Seq.{length-take-le}
use Rattle.std.proofs.lemmas.Grind.{common_steps}
use Rattle.rooms.proofs.near.fits.Goals as goal

pub returns-then-masks-gt-MOST_PLACES : goal.returns-then-masks-gt-MOST_PLACES
returns-then-masks-gt-MOST_PLACES c = plan_not (λ s. let p = s.plain in grind (arith, common_steps))

pub returns-then-work-plain : goal.returns-then-work-plain
returns-then-work-plain c = plan_not (λ s. c.if-work-plain.true s.all_rows)

pub slice_bounds-fits-end : goal.slice_bounds-fits-end
slice_bounds-fits-end c = sym (length-take-le _ _ (omega (arith, c.if-work-plain.false)))

pub returns : goal.returns
returns c = plan_fits c.if-drawn-masks.false (omega (arith, c.if-most-ge-ROWS.false)) c.if-work-plain.false c.fits.ensures
