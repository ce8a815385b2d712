-- The bytes of a text, and how each is sorted.
use Rattle.std.specs.Prelude.{Bool, cond, ◌&&◌, ℕ, leb, eqb}
use Rattle.text.specs.declared.bytes.Sort.{Sort}
use Rattle.text.specs.declared.bytes.Sort.TheVariants.{Digit, Tab, Feed, Small, Other}

-- parts two fields
abbrev pub tab : ℕ
tab = 9

-- ends a line
abbrev pub feed : ℕ
feed = 10

-- the byte of the digit 0; the others follow it
abbrev pub nought : ℕ
nought = 48

abbrev pub is_digit : ℕ → Bool
is_digit b = leb nought b && leb b 57

-- a letter from a to z
abbrev pub is_small : ℕ → Bool
is_small b = leb 97 b && leb b 122

unfoldable pub sort_of : ℕ → Sort
sort_of b = cond (is_digit b) Digit (cond (eqb b tab) Tab (cond (eqb b feed) Feed (cond (is_small b) Small Other)))
