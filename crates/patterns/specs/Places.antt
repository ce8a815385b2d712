-- Sets of letter places, as masks, and the automaton whose configurations they are.
use Rattle.std.specs.Prelude.{Bool, true, false, cond, not, ◌&&◌, ◌||◌, List, ℕ, zero, suc, ◌^◌, eqb, length, get_or}
use Rattle.std.specs.Int.Bits.{bit_and, bit_or}
use Rattle.kinds.specs.Bits.{bit, mask_of}
use Rattle.patterns.specs.Pattern.{Pattern, Letter, Then, Or, More, Perhaps, letters, numbered}

-- of a pattern over places: whether it matches the empty word; the places that can read a first letter, a last letter, and the letter
-- after that of place i
unfoldable pub null : Pattern → Bool
null (Letter i) = false
null (Then p q) = null p && null q
null (Or p q) = null p || null q
null (More p) = null p
null (Perhaps p) = true

unfoldable pub first : Pattern → ℕ
first (Letter i) = 2 ^ i
first (Then p q) = bit_or (first p) (cond (null p) (first q) 0)
first (Or p q) = bit_or (first p) (first q)
first (More p) = first p
first (Perhaps p) = first p

unfoldable pub last : Pattern → ℕ
last (Letter i) = 2 ^ i
last (Then p q) = bit_or (last q) (cond (null q) (last p) 0)
last (Or p q) = bit_or (last p) (last q)
last (More p) = last p
last (Perhaps p) = last p

unfoldable pub follow : Pattern → ℕ → ℕ
follow (Letter j) i = 0
follow (Then p q) i = bit_or (bit_or (follow p i) (follow q i)) (cond (bit (last p) i) (first q) 0)
follow (Or p q) i = bit_or (follow p i) (follow q i)
follow (More p) i = bit_or (follow p i) (cond (bit (last p) i) (first p) 0)
follow (Perhaps p) i = follow p i

-- the places whose letter is v
unfoldable pub places_of : List ℕ → ℕ → ℕ
places_of ls v = mask_of (λ i. eqb (get_or ls i 0) v) (length ls)

-- the union of f i over the members i of the set c below k
unfoldable pub unions : (ℕ → ℕ) → ℕ → ℕ → ℕ
unions f c zero = 0
unions f c (suc k) = bit_or (cond (bit c k) (f k) 0) (unions f c k)

-- A configuration is 0 for the empty prefix, and otherwise the set of the letter places that could have read the prefix's last letter.
-- The configuration after one more letter: 0 if there is none.
unfoldable pub onward : Pattern → ℕ → ℕ → ℕ
onward p c v =
    bit_and (places_of (letters p) v) (cond (eqb c 0) (first (numbered 0 p)) (unions (follow (numbered 0 p)) c (length (letters p))))

-- the prefix is a word of the pattern
unfoldable pub ends : Pattern → ℕ → Bool
ends p c = cond (eqb c 0) (null (numbered 0 p)) (not (eqb (bit_and c (last (numbered 0 p))) 0))
