use mathlib.Core.Path.{◌≡◌, refl, ◌∙◌}
use mathlib.Core.Bool.{Bool, true, false, cond}
use mir.Val.{bool_byte}
use Rattle.session.proofs.Pushes.{pushed_is}
use Rattle.session.proofs.entries.push.Goals as goal

as_number : (b : Bool) → bool_byte b ≡ cond b 1 0
as_number true = refl
as_number false = refl

pub returns : goal.returns
returns c = pushed_is _ _ _ _ _ (λ p x. c.from-mark.ensures ∙ as_number _ ∙ c.is_mark.ensures p x)
