-- Lists of decisions compared: the same up to order, or with more put in; and what a filter tells, compared.
use Rattle.std.specs.Prelude.{◌≡◌, Bool, true, false, cond, ◌&&◌, List, [], ◌∷◌, ℕ, ◌+◌, ◌≤◌, eqb, get_or}
use Rattle.kinds.specs.Bits.{bit}
use Rattle.meaning.specs.Meaning.{Verdict, Decision, Keep, Limit}

unfoldable pub same_decision : Decision → Decision → Bool
same_decision (Keep i m) (Keep j k) = eqb i j && eqb m k
same_decision (Keep i m) (Limit j l) = false
same_decision (Limit i l) (Keep j m) = false
same_decision (Limit i l) (Limit j k) = eqb i j && eqb l k

-- how many times the decision stands in the list
unfoldable pub times : Decision → List Decision → ℕ
times d [] = 0
times d (e ∷ es) = cond (same_decision d e) 1 0 + times d es

-- the same up to order, with repetition: each decision stands as many times in the one as in the other
abbrev pub SameUpToOrder : List Decision → List Decision → Type 0
SameUpToOrder ds es = (d : Decision) → times d ds ≡ times d es

-- ds are es with more put in anywhere, or none: no decision stands more often in es
abbrev pub Contains : List Decision → List Decision → Type 0
Contains ds es = (d : Decision) → times d es ≤ times d ds

-- what t tells is no more than what u tells: a value struck in u is struck in t, and while t has a roster, none of its rosters
-- costs less than the cheapest of u
pub record NoMore (t u : Verdict) : Type 0 where
  pub no_return : (i v : ℕ) → bit (get_or t.masks i 0) v ≡ true → bit (get_or u.masks i 0) v ≡ true
  pub no_cheaper : t.answered ≡ 0 → u.cheapest ≤ t.cheapest
