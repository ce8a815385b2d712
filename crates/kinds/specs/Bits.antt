-- The bits of a number, and masks made of them.
use Rattle.std.specs.Prelude.{Bool, cond, not, ◌&&◌, ℕ, zero, suc, ◌+◌, ◌*◌, ◌/◌, ◌%◌, ◌^◌, eqb}

-- as many values as a mask has room for
abbrev pub width : ℕ
width = 16

-- whether bit v of m is set
unfoldable pub bit : ℕ → ℕ → Bool
bit m v = eqb (m / 2 ^ v % 2) 1

-- the mask of the values below k that f picks
unfoldable pub mask_of : (ℕ → Bool) → ℕ → ℕ
mask_of f zero = 0
mask_of f (suc k) = cond (f k) 1 0 * 2 ^ k + mask_of f k

-- the first of i, i + 1, .., n numbers in all, that f picks; i + n if it picks none
unfoldable pub first_from : (ℕ → Bool) → ℕ → ℕ → ℕ
first_from f i zero = i
first_from f i (suc n) = cond (f i) i (first_from f (suc i) n)

-- the smallest value of a mask, the width of none
unfoldable pub smallest_of : ℕ → ℕ
smallest_of m = first_from (bit m) 0 width

-- the mask of all its values but the smallest
unfoldable pub rest_of : ℕ → ℕ
rest_of m = mask_of (λ u. bit m u && not (eqb u (smallest_of m))) width
