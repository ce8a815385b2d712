use mathlib.Core.Path.{sym}
use native.Mathlib.Omega.{arith}
use lib.Seq.{length-take-le}
use Rattle.text.proofs.Putting.{wrote_is}
use Rattle.drafter.proofs.Making.{zeros_long, told_pattern, told_states, told_there, told_sheet}
use Rattle.drafter.proofs.put_draft.Goals as goal

pub slice_bounds-text-end : goal.slice_bounds-text-end
slice_bounds-text-end c = told_there _ _ _ _ c.requires zeros_long c.in-Ok.outline _ _ c.in-Ok.ensures _ (omega arith) _ _ c.write_sheet.ensures _ c.unwrap_or-length.ensures

pub slice_bounds-put_word-end : goal.slice_bounds-put_word-end
slice_bounds-put_word-end c = sym (length-take-le _ _ (told_there _ _ _ _ c.requires zeros_long c.in-Ok.outline _ _ c.in-Ok.ensures _ (omega arith) _ _ c.write_sheet.ensures _ c.unwrap_or-length.ensures))

pub returns-in-Ok : goal.returns-in-Ok
returns-in-Ok c = wrote_is _ _ _ _ _ _ (told_sheet _ _ _ _ c.requires zeros_long c.in-Ok.outline _ _ c.in-Ok.ensures _ (omega arith) _ _ c.write_sheet.ensures _ c.unwrap_or-length.ensures) c.put_word.ensures

pub returns-in-ManyStates : goal.returns-in-ManyStates
returns-in-ManyStates c = wrote_is _ _ _ _ _ _ (told_states _ _ _ _ c.requires zeros_long c.in-Err.answer _ _ c.in-Err.ensures c.in-ManyStates.is) c.put_word-in-ManyStates.ensures

pub returns-in_default : goal.returns-in_default
returns-in_default c = wrote_is _ _ _ _ _ _ (told_pattern _ _ _ _ c.requires zeros_long c.in-Err.answer _ _ c.in-Err.ensures c.in_default.not-ManyStates) c.put_word-in_default.ensures
