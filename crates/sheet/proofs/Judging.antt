-- Laws of a line's judgement as the reader goes through it, and of where a line ends. Assumes nothing.
use mathlib.Core.Path.{◌≡◌, refl, subst}
use mathlib.Core.List.{List}
use Prim.Native.Nat.{ℕ}
use lib.Dec.{leb}
use Rattle.std.specs.Prelude.{Result, Ok, Err, MatchResult, IsErrAnd}
use Rattle.rules.proofs.Checks.{never}
use Rattle.text.specs.Lines.{Judged, ending}
use Rattle.text.specs.declared.lines.Fault.{Fault}
use Rattle.sheet.specs.declared.Unread.{Unread}

-- the order, judged by the place that the code has worked out
pub order_as : (next p q : ℕ) (r : List ℕ) (e : Judged Unit) → p ≡ q → e ≡ ending (leb next p) r → e ≡ ending (leb next q) r
order_as next p q r e h k = rw h at k

-- a judgement whose fault was given its line
pub ok_before : {A : Type 0} (P : Fault → Unread → Type 0) (x : Judged A) (r : Result A Unread) (a : A) → MatchResult x (λ a. r ≡ Ok a) (λ f. IsErrAnd r (P f)) → r ≡ Ok a → x ≡ Ok a
ok_before P (Ok b) r a h e = cc
ok_before P (Err f) r a h e = absurd (subst (λ (s : Result _ Unread). IsErrAnd s (P f)) e h)

pub err_before : {A : Type 0} (P : Fault → Unread → Type 0) (x : Judged A) (r : Result A Unread) (u : Unread) → MatchResult x (λ a. r ≡ Ok a) (λ f. IsErrAnd r (P f)) → r ≡ Err u → (f : Fault) × (x ≡ Err f) × P f u
err_before P (Ok b) r u h e = never cc
err_before P (Err f) r u h e = (f, refl, subst (λ (s : Result _ Unread). IsErrAnd s (P f)) e h)
