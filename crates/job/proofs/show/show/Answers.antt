use mathlib.Core.Path.{refl, ◌∙◌}
use native.Mathlib.Omega.{arith}
use lib.Seq.{length-take-le}
use Rattle.rules.proofs.Refusals.{number_some}
use Rattle.text.proofs.Putting.{wrote_append, wrote_is}
use Rattle.job.specs.Output.{least_line}
use Rattle.job.proofs.Showing.{passed, shows_kept, shows_none}
use Rattle.job.proofs.show.show.Goals as goal

pub returns-in_default : goal.returns-in_default
returns-in_default c = let p = c.requires in
    let f = c.in_default.ensures ∙ passed _ _ _ _ _ p (length-take-le _ _ (omega (arith, p.few))) (length-take-le _ _ (omega (arith, p.few))) in
    wrote_is _ _ _ _ _ _ (shows_none _ _ _ _ _ _ f (number_some _)) c.put_word.ensures

pub returns : goal.returns
unfolding least_line
returns c = let p = c.requires in
    let f = c.in-Ok.ensures ∙ passed _ _ _ _ _ p (length-take-le _ _ (omega (arith, p.few))) (length-take-le _ _ (omega (arith, p.few))) in
    wrote_is _ _ _ _ _ _ (shows_kept _ _ _ _ _ _ f refl) (wrote_append _ (omega arith) _ _ _ _ _ _ _ c.put_masks-at.ensures c.put_line.ensures)
