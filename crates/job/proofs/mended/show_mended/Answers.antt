use mathlib.Core.Path.{refl, ◌∙◌}
use lib.Seq.{length-take-le}
use Rattle.rules.proofs.Refusals.{number_some}
use Rattle.text.proofs.Putting.{wrote_append, wrote_is}
use Rattle.job.specs.Mend.{changes_line}
use Rattle.job.proofs.Proposing.{mend_passes, shows_mended, shows_unmended}
use native.Mathlib.Omega.{arith}
use Rattle.job.proofs.mended.show_mended.Goals as goal

pub returns-in_default : goal.returns-in_default
returns-in_default c = let p = c.requires in
    let f = c.in_default.ensures ∙ mend_passes _ _ _ _ _ _ _ p.0 p.1 (length-take-le _ _ (omega (arith, p.0.few))) (length-take-le _ _ (omega (arith, p.0.few))) in
    wrote_is _ _ _ _ _ _ (shows_unmended _ _ _ _ _ _ _ _ f (number_some _)) c.put_word.ensures

pub returns : goal.returns
unfolding changes_line
returns c = let p = c.requires in
    let f = c.in-Ok.ensures ∙ mend_passes _ _ _ _ _ _ _ p.0 p.1 (length-take-le _ _ (omega (arith, p.0.few))) (length-take-le _ _ (omega (arith, p.0.few))) in
    wrote_is _ _ _ _ _ _ (shows_mended _ _ _ _ _ _ _ _ f refl)
    (wrote_append _ (omega arith) _ _ _ _ _ _ _ c.put_line-past_count.ensures
    (wrote_append _ (omega arith) _ _ _ _ _ _ _ c.put_changes-past_changes.ensures c.put_roster.ensures))
