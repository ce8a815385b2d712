-- Patterns, the words that they match, and the letter places that could have read a letter.
use Rattle.std.specs.Prelude.{◌≡◌, ◌↔◌, List, [], ◌∷◌, ◌++◌, map, ℕ, ◌+◌, length, get_or}

-- a letter, one pattern then another, one or another, one or more times, or perhaps; `p*` is perhaps (one or more times p)
pub data Pattern : Type 0 where
  Letter : ℕ → Pattern
  Then Or : Pattern → Pattern → Pattern
  More Perhaps : Pattern → Pattern

-- THE MEANING: the words that a pattern matches
pub data Matches : Pattern → List ℕ → Type 0 where
  letter : {v : ℕ} → Matches (Letter v) (v ∷ [])
  then : {p q : Pattern} {a b : List ℕ} → Matches p a → Matches q b → Matches (Then p q) (a ++ b)
  left : {p q : Pattern} {a : List ℕ} → Matches p a → Matches (Or p q) a
  right : {p q : Pattern} {a : List ℕ} → Matches q a → Matches (Or p q) a
  once : {p : Pattern} {a : List ℕ} → Matches p a → Matches (More p) a
  again : {p : Pattern} {a b : List ℕ} → Matches p a → Matches (More p) b → Matches (More p) (a ++ b)
  none : {p : Pattern} → Matches (Perhaps p) []
  some : {p : Pattern} {a : List ℕ} → Matches p a → Matches (Perhaps p) a

-- the letters from left to right; a letter place is an index into this list
abbrev pub letters : Pattern → List ℕ
letters (Letter v) = v ∷ []
letters (Then p q) = letters p ++ letters q
letters (Or p q) = letters p ++ letters q
letters (More p) = letters p
letters (Perhaps p) = letters p

-- the pattern over letter places: place k for the first letter, k + 1 for the next ..
abbrev pub numbered : ℕ → Pattern → Pattern
numbered k (Letter v) = Letter k
numbered k (Then p q) = Then (numbered k p) (numbered (k + length (letters p)) q)
numbered k (Or p q) = Or (numbered k p) (numbered (k + length (letters p)) q)
numbered k (More p) = More (numbered k p)
numbered k (Perhaps p) = Perhaps (numbered k p)

-- THE SETS: place i could have read the last letter of the prefix w, since a match over places begins with places whose letters are w, the
-- last of them i
pub record CouldRead (p : Pattern) (w : List ℕ) (i : ℕ) : Type 0 where
  pub before : List ℕ
  pub rest : List ℕ
  pub match : Matches (numbered 0 p) (before ++ (i ∷ rest))
  pub same : map (λ j. get_or (letters p) j 0) (before ++ (i ∷ [])) ≡ w

-- two prefixes share a state: both are empty, or their sets are equal and not empty
pub data Share (p : Pattern) (u w : List ℕ) : Type 0 where
  empty : u ≡ [] → w ≡ [] → Share p u w
  equal : (i : ℕ) → CouldRead p u i → ((k : ℕ) → CouldRead p u k ↔ CouldRead p w k) → Share p u w
