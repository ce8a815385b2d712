use native.Mathlib.Omega.{arith}
use Rattle.rules.proofs.Checks.{test_failed, test_passed}
use Rattle.compositor.proofs.Noting.{noting_start, noting_on, noting_fails, noting_ends, fits_wide}
use Rattle.compositor.proofs.letters.note_letters.Goals as goal

pub loop-b-init : goal.loop-b-init
loop-b-init c = noting_start _ _

pub returns-then-not-letter_fits : goal.returns-then-not-letter_fits
returns-then-not-letter_fits c = noting_fails _ _ _ _ _ (omega arith) (test_failed c.letter_fits.ensures c.if-not-letter_fits.true) c.loop-b.invariant

pub note-count-requires : goal.note-count-requires
note-count-requires c = fits_wide _ _ _ c.requires (test_passed c.letter_fits.ensures c.if-not-letter_fits.false)

pub loop-b-preserved : goal.loop-b-preserved
loop-b-preserved c = noting_on _ _ _ _ _ _ _ c.requires (omega arith) (test_passed c.letter_fits.ensures c.if-not-letter_fits.false) c.loop-b.invariant c.note-count.ensures

pub returns : goal.returns
returns c = noting_ends _ _ _ _ _ (omega arith) c.loop-b.invariant
