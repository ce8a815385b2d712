-- Each public contract on lists and rows leaves one content or one number: any two that it allows are equal. Assumes nothing.
use mathlib.Core.Path.{◌≡◌, refl, sym, ◌∙◌}
use mathlib.Core.Bool.{Bool, true, false, cond}
use Rattle.rules.proofs.Checks.{never}
use mathlib.Core.List.{List}
use Prim.Native.Nat.{ℕ}
use Rattle.ledger.specs.Sessions.{is_mark}
use Rattle.ledger.specs.Memory.{entry_of}
use Rattle.machine.specs.Copied.{copied}

pub copy_unique : (to from a b : List ℕ) → a ≡ copied to from → b ≡ copied to from → a ≡ b
copy_unique to from a b p q = p ∙ sym q

pub widen_unique : (to from a b : List ℕ) → a ≡ copied to from → b ≡ copied to from → a ≡ b
widen_unique = copy_unique

pub is_mark_unique : (k : ℕ) (r s : Bool) → ((p x : ℕ) → cond r 1 0 ≡ is_mark (entry_of k p x)) → ((p x : ℕ) → cond s 1 0 ≡ is_mark (entry_of k p x)) → r ≡ s
is_mark_unique k r s p q = one_bit r s (p 0 0 ∙ sym (q 0 0))
  where
    one_bit : (r s : Bool) → cond {A = ℕ} r 1 0 ≡ cond s 1 0 → r ≡ s
    one_bit true true e = refl
    one_bit false false e = refl
    one_bit true false e = never (sym e)
    one_bit false true e = never e

pub mark_of_unique : (k r s : ℕ) → ((p x : ℕ) → r ≡ is_mark (entry_of k p x)) → ((p x : ℕ) → s ≡ is_mark (entry_of k p x)) → r ≡ s
mark_of_unique k r s p q = p 0 0 ∙ sym (q 0 0)
