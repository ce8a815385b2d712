-- How much of a drawn roster some accepted word begins with. Masks, costs and limits play no part.
use Rattle.std.specs.Prelude.{Bool, true, false, ◌&&◌, List, [], ◌∷◌, ℕ, suc, ◌-◌, max, eqb, length, take}
use Rattle.meaning.specs.Lists.{from, those, any}
use Rattle.meaning.specs.Meaning.{Rules, accepted, words}

-- the words of n values that are accepted from state q
unfoldable pub accepted_words : Rules → ℕ → ℕ → List (List ℕ)
accepted_words r q n = those (accepted r q) (words r.arcs.values n)

-- the second word begins with the first
abbrev pub begins : List ℕ → List ℕ → Bool
begins [] u = true
begins (v ∷ p) [] = false
begins (v ∷ p) (x ∷ u) = eqb v x && begins p u

-- the greatest of some numbers, 0 of none
abbrev pub greatest : List ℕ → ℕ
greatest [] = 0
greatest (x ∷ xs) = max x (greatest xs)

-- the length of the longest prefix of w that some word of ws begins with: of the lengths 0 to n
unfoldable pub longest : List ℕ → List (List ℕ) → ℕ
longest w ws = greatest (those (λ k. any (begins (take k w)) ws) (from 0 (suc (length w))))

-- THE PREFIX REPORT: the values of w behind that prefix
unfoldable pub behind : List ℕ → List (List ℕ) → ℕ
behind w ws = length w - longest w ws
