use native.Mathlib.Omega.{arith}
use mathlib.Core.Path.{◌≡◌, refl, ◌∙◌}
use mathlib.Core.Bool.{Bool, true, false, cond}
use mir.Val.{bool_byte}
use Prim.Native.Nat.{◌+◌}
use Rattle.ledger.specs.Sessions.{marks}
use Rattle.ledger.specs.Memory.{entries_at}
use Rattle.ledger.proofs.Entries.{marks_more, marks_le}
use Rattle.machine.proofs.rows.marks_among.Goals as goal

as_number : (b : Bool) → bool_byte b ≡ cond b 1 0
as_number true = refl
as_number false = refl

pub loop-i-init : goal.loop-i-init
unfolding marks entries_at
loop-i-init c = refl

pub overflow_add-found : goal.overflow_add-found
overflow_add-found c = let l = c.loop-i in let e = marks_more _ _ _ _ l.invariant (λ p x. c.from-found.ensures ∙ as_number _ ∙ c.is_mark.ensures p x) in omega (arith, marks_le (l.i + 1) c.args.rows.now)

pub loop-i-preserved : goal.loop-i-preserved
loop-i-preserved c = marks_more _ _ _ _ c.loop-i.invariant (λ p x. c.from-found.ensures ∙ as_number _ ∙ c.is_mark.ensures p x)
