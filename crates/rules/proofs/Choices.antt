-- Masks in range stay in range under decisions. Assumes nothing.
use mathlib.Core.Path.{◌≡◌, refl, ap}
use mathlib.Core.Bool.{Bool, true, ◌&&◌}
use mathlib.Core.List.{List, [], ◌∷◌}
use Prim.Native.Nat.{ℕ, zero, suc, ◌^◌}
use native.Mathlib.Omega.{arith}
use lib.Bits.{bit_and, and_le_l}
use lib.Dec.{ltb}
use lib.ListN.{length}
use borrow.Author.Tests.{lt-ltb, ltb-true}
use Rattle.meaning.specs.Meaning.{Place, places, Decision, Keep, Limit, change, decide, decides}
use Rattle.meaning.specs.Lists.{all}
use Rattle.rules.specs.Checks.{masks_right}
use Rattle.rules.proofs.Checks.{both}

-- a place's mask has no bit at or above V
abbrev pub choice_right : ℕ → Place → Bool
choice_right v p = ltb p.mask (2 ^ v)

pub choices_right : (v : ℕ) (ms ls : List ℕ) → length ms ≡ length ls → masks_right v ms ≡ all (choice_right v) (places ms ls)
unfolding masks_right places
choices_right v [] ls e = refl
choices_right v (m ∷ ms) [] e = absurd (omega arith)
choices_right v (m ∷ ms) (l ∷ ls) e = ap (λ (b : Bool). ltb m (2 ^ v) && b) (choices_right v ms ls (omega arith))

change_right : (v : ℕ) (f : Place → Place) → ((p : Place) → choice_right v p ≡ true → choice_right v (f p) ≡ true) → (i : ℕ) (ps : List Place) → all (choice_right v) ps ≡ true → all (choice_right v) (change f i ps) ≡ true
change_right v f g i [] h = refl
change_right v f g zero (p ∷ ps) h = let b = both (choice_right v p) _ h in rw (g p b.0) b.1
change_right v f g (suc i) (p ∷ ps) h = let b = both (choice_right v p) _ h in rw b.0 (change_right v f g i ps b.1)

decide_right : (v : ℕ) (ps : List Place) (d : Decision) → all (choice_right v) ps ≡ true → all (choice_right v) (decide ps d) ≡ true
unfolding decide
decide_right v ps (Keep i m) h =
    change_right v _ (λ p k. lt-ltb (bit_and p.mask m) (2 ^ v) (omega (arith, and_le_l p.mask m, ltb-true p.mask (2 ^ v) k))) i ps h
decide_right v ps (Limit i l) h = change_right v _ (λ p k. k) i ps h

pub decides_right : (v : ℕ) (ps : List Place) (ds : List Decision) → all (choice_right v) ps ≡ true → all (choice_right v) (decides ps ds) ≡ true
unfolding decides
decides_right v ps [] h = h
decides_right v ps (d ∷ ds) h = decides_right v (decide ps d) ds (decide_right v ps d h)
