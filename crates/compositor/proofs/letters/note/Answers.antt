use native.Mathlib.Omega.{arith}
use Rattle.rules.proofs.Checks.{test_failed, test_passed}
use Rattle.compositor.proofs.Noting.{letter_range, fits_of, noted_other, noted_letter}
use Rattle.compositor.proofs.letters.note.Goals as goal

pub returns-then-not-is_letter : goal.returns-then-not-is_letter
returns-then-not-is_letter c = noted_other _ _ _ (test_failed c.is_letter.ensures c.if-not-is_letter.true)

pub overflow_sub-v : goal.overflow_sub-v
overflow_sub-v c = omega (arith, letter_range _ (test_passed c.is_letter.ensures c.if-not-is_letter.false))

pub bounds-marks-v : goal.bounds-marks-v
bounds-marks-v c = omega (arith, letter_range _ (test_passed c.is_letter.ensures c.if-not-is_letter.false))

pub overflow_cast-marks : goal.overflow_cast-marks
overflow_cast-marks c = omega (arith, fits_of _ _ _ c.requires (test_passed c.is_letter.ensures c.if-not-is_letter.false))

pub overflow_shl-marks : goal.overflow_shl-marks
overflow_shl-marks c = omega (arith, fits_of _ _ _ c.requires (test_passed c.is_letter.ensures c.if-not-is_letter.false))

pub overflow_add-result : goal.overflow_add-result
overflow_add-result c = omega (arith, fits_of _ _ _ c.requires (test_passed c.is_letter.ensures c.if-not-is_letter.false))

pub bounds-marks-v-2 : goal.bounds-marks-v-2
bounds-marks-v-2 c = omega (arith, letter_range _ (test_passed c.is_letter.ensures c.if-not-is_letter.false))

pub returns : goal.returns
returns c =
    let l = test_passed c.is_letter.ensures c.if-not-is_letter.false in
    noted_letter _ _ _ (fits_of _ _ _ c.requires l).room l
