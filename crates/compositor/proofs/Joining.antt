-- Laws for the leaves of the line's reader. Assumes nothing.
use mathlib.Core.Path.{◌≡◌, refl, sym, ap, ◌∙◌}
use mathlib.Core.Bool.{Bool, false, cond}
use mathlib.Core.List.{List, ◌∷◌}
use Prim.Native.Nat.{ℕ, zero, suc, ◌+◌, ◌-◌, ◌*◌, ◌%◌, ◌^◌, ◌<◌}
use native.Mathlib.Numerals.{add-one}
use lib.Bits.{bit_or}
use lib.ListN.{length, get_or, set, drop, length-set}
use Rattle.compositor.specs.declared.parts.Part.{Part}
use Rattle.kinds.specs.Bits.{bit}
use Rattle.kinds.proofs.Bits.{shl_one}
use Rattle.patterns.specs.Line.{most_letters, is_letter, letters_of}
use Rattle.patterns.proofs.Reading.{byte_here}
use Rattle.compositor.specs.Inner.{link_to, letter_part}

-- what a test of the byte b tells of the text's own byte g
pub letter_of : {b g : ℕ} {r v : Bool} → r ≡ is_letter b → b ≡ g → r ≡ v → is_letter g ≡ v
letter_of h e k = ap is_letter (sym e) ∙ sym h ∙ k

pub letter_is : (k e m : ℕ) → k < most_letters → m ≡ 1 * 2 ^ k % 2 ^ 32 → record { at = e; place = k + 1; null = false; first = m; last = m } ≡ letter_part k e
unfolding letter_part
letter_is k e m h q =
    let z : m ≡ 2 ^ k = q ∙ shl_one 32 k h in
    ap (λ (x : ℕ). letter x) z
  where
    letter : ℕ → Part
    letter x = record { at = e; place = k + 1; null = false; first = x; last = x }

-- the letters from a byte on
pub letters_here : (s : List ℕ) (i : ℕ) (b : Bool) → i < length s → is_letter (get_or s i 0) ≡ b
    → letters_of (drop i s) ≡ cond b ((get_or s i 0 - 97) ∷ letters_of (drop (i + 1) s)) (letters_of (drop (i + 1) s))
unfolding letters_of
letters_here s i b h e = rw (byte_here s i h, e)

-- the table of what can follow, linked as far as i
pub link_more : (fs₀ fs : List ℕ) (l f i r : ℕ) → r ≡ cond (bit l i) f 0 → fs ≡ link_to fs₀ l f i → set fs i (bit_or (get_or fs i 0) r) ≡ link_to fs₀ l f (i + 1)
unfolding link_to
link_more fs₀ fs l f i r h e = rw (add-one i, h, e)

pub link_length : (fs : List ℕ) (l f i : ℕ) → length (link_to fs l f i) ≡ length fs
unfolding link_to
link_length fs l f zero = refl
link_length fs l f (suc i) = length-set (link_to fs l f i) i _ ∙ link_length fs l f i
