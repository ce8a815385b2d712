-- What a copy leaves.
use Rattle.std.specs.Prelude.{cond, List, ℕ, eqb, length}

-- one list over another of the same length; a list of another length stays
unfoldable pub copied : List ℕ → List ℕ → List ℕ
copied to from = cond (eqb (length to) (length from)) from to
