-- Lists of decisions compared by how many times each decision stands: what that covers, and what all of a list meet. Assumes nothing.
use mathlib.Core.Path.{◌≡◌, refl, ap, ap₂, ◌∙◌}
use mathlib.Core.Bool.{Bool, true, false, cond, ◌&&◌, false≢true, and-eq-true_iff}
use mathlib.Core.List.{List, [], ◌∷◌}
use mathlib.Core.List.Permᴰ.{cons}
use mathlib.Core.List.Permᴰ.{nil}
use mathlib.Core.List.Permᴰ.{swap}
use mathlib.Core.List.Permᴰ.{trans}
use mathlib.Core.List.{Permᴰ as Permuted}
use mathlib.Core.List.Sublistᴰ.{cons as put}
use mathlib.Core.List.Sublistᴰ.{cons-cons as both}
use mathlib.Core.List.Sublistᴰ.{slnil as none}
use mathlib.Core.List.{Sublistᴰ as Within}
use Prim.Native.Nat.{ℕ, ◌+◌, ◌≤◌}
use native.Mathlib.Omega.{arith}
use lib.Dec.{eqb}
use borrow.Author.Tests.{eqb-true, eq-eqb}
use Rattle.meaning.specs.Meaning.{Decision, Keep, Limit}
use Rattle.meaning.specs.Lists.{all}
use Rattle.meaning.specs.Comparing.{same_decision, times, SameUpToOrder, Contains}

-- same_decision tells that two decisions are one
pair_is : {A : Type 0} (f : ℕ → ℕ → A) (i j m k : ℕ) → (eqb i j && eqb m k) ≡ true → f i m ≡ f j k
pair_is f i j m k h = let b = (and-eq-true_iff (eqb i j) (eqb m k)).0 h in ap₂ f (eqb-true i j b.0) (eqb-true m k b.1)

same_is : (d e : Decision) → same_decision d e ≡ true → d ≡ e
unfolding same_decision
same_is (Keep i m) (Keep j k) h = pair_is Keep i j m k h
same_is (Keep i m) (Limit j l) h = absurd (false≢true h)
same_is (Limit i l) (Keep j m) h = absurd (false≢true h)
same_is (Limit i l) (Limit j k) h = pair_is Limit i j l k h

-- one where the decisions are one, else none
abbrev one : Decision → Decision → ℕ
one d e = cond (same_decision d e) 1 0

one_itself : (d : Decision) → one d d ≡ 1
unfolding same_decision
one_itself (Keep i m) = rw (eq-eqb i i refl, eq-eqb m m refl)
one_itself (Limit i l) = rw (eq-eqb i i refl, eq-eqb l l refl)

-- every permutation is the same up to order
pub permuted : {ds es : List Decision} → Permuted ds es → SameUpToOrder ds es
unfolding times
permuted nil d = refl
permuted (cons e s) d = omega (arith, ap (one d) e, permuted s d)
permuted (swap e k) d = omega (arith, ap (one d) e, ap (one d) k)
permuted (trans s t) d = permuted s d ∙ permuted t d

-- a list with decisions put in anywhere, before, between or after, contains it
pub put_in : {es ds : List Decision} → Within es ds → Contains ds es
unfolding times
put_in none d = omega arith
put_in (put s) d = omega (arith, put_in s d)
put_in (both e s) d = omega (arith, ap (one d) e, put_in s d)

module _ (f : Decision → Bool) where
  -- where all of a list meet f, so does one that stands in it
  all_times : (d : Decision) (ds : List Decision) → all f ds ≡ true → 1 ≤ times d ds → f d ≡ true
  unfolding times
  all_times d [] a h = absurd (omega arith)
  all_times d (e ∷ ds) a h = let b = (and-eq-true_iff (f e) (all f ds)).0 a in go (same_decision d e) refl b.0 (all_times d ds b.1) h
    where
      go : (t : Bool) → same_decision d e ≡ t → f e ≡ true → (1 ≤ times d ds → f d ≡ true) → 1 ≤ cond t 1 0 + times d ds → f d ≡ true
      go true s g rec k = ap f (same_is d e s) ∙ g
      go false s g rec k = rec (omega arith)

  -- and so do all of a list that it contains
  pub all_contained : (ds es : List Decision) → Contains ds es → all f ds ≡ true → all f es ≡ true
  unfolding times
  all_contained ds [] c a = refl
  all_contained ds (e ∷ es) c a =
      rw (all_times e ds a (omega (arith, c e, one_itself e)), all_contained ds es (λ d. omega (arith, c d)) a)
