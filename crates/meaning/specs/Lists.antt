-- Words for lists.
use Rattle.std.specs.List.{list_all, list_any, flat_map, filter}
use Rattle.std.specs.Prelude.{Bool, true, false, List, [], ◌∷◌, ◌≡◌, ℕ, zero, suc, ◌≤◌, ◌<◌, get_or}

-- i, i + 1, .., n numbers in all
abbrev pub from : ℕ → ℕ → List ℕ
from i zero = []
from i (suc n) = i ∷ from (suc i) n

abbrev pub each : {A B : Type 0} → (A → List B) → List A → List B
each f xs = flat_map f xs

abbrev pub those : {A : Type 0} → (A → Bool) → List A → List A
those f xs = filter f xs

abbrev pub any : {A : Type 0} → (A → Bool) → List A → Bool
any f xs = list_any f xs

abbrev pub some : {A : Type 0} → List A → Bool
some [] = false
some (x ∷ xs) = true

abbrev pub all : {A : Type 0} → (A → Bool) → List A → Bool
all f xs = list_all f xs

-- a list that was filled up to n: f below n, what it was from n on
pub record Filled (f : ℕ → ℕ) (n : ℕ) (was is : List ℕ) : Type 0 where
  pub done : (k : ℕ) → k < n → get_or is k 0 ≡ f k
  pub left : (k : ℕ) → n ≤ k → get_or is k 0 ≡ get_or was k 0
