-- Lines: the grammar, and the reading of a line by it.
use Rattle.std.specs.Prelude.{◌≡◌, Bool, true, cond, ◌&&◌, ◌||◌, List, [], ◌∷◌, ◌++◌, ℕ, zero, suc, ◌+◌, ◌-◌, ◌*◌, ◌<◌, ◌≤◌, eqb, leb, ltb, length, get_or}
use Rattle.meaning.specs.Lists.{all}
use Rattle.patterns.specs.Pattern.{Pattern, Letter, Then, Or, More, Perhaps, letters}

-- the sizes of a line
abbrev pub most_bytes : ℕ
most_bytes = 256

abbrev pub most_letters : ℕ
most_letters = 32

abbrev pub most_depth : ℕ
most_depth = 8

-- THE GRAMMAR: the text spells the pattern, with groups at most d deep. 97 to 112 are a to p; 40 41 42 43 63 124 are ( ) * + ? |
-- an atom is a letter, or a group in its brackets; aGroup is what stands within the brackets, and the whole line like it
pub data Kind : Type 0 where
  anAtom anItem aBranch aGroup : Kind

pub data Spells : Kind → ℕ → Pattern → List ℕ → Type 0 where
  by_letter : {d : ℕ} (v : ℕ) → v < 16 → Spells anAtom d (Letter v) ((97 + v) ∷ [])
  by_group : {d : ℕ} {p : Pattern} {s : List ℕ} → Spells aGroup d p s → Spells anAtom (suc d) p (40 ∷ (s ++ (41 ∷ [])))
  plain : {d : ℕ} {p : Pattern} {s : List ℕ} → Spells anAtom d p s → Spells anItem d p s
  starred : {d : ℕ} {p : Pattern} {s : List ℕ} → Spells anAtom d p s → Spells anItem d (Perhaps (More p)) (s ++ (42 ∷ []))
  plussed : {d : ℕ} {p : Pattern} {s : List ℕ} → Spells anAtom d p s → Spells anItem d (More p) (s ++ (43 ∷ []))
  asked : {d : ℕ} {p : Pattern} {s : List ℕ} → Spells anAtom d p s → Spells anItem d (Perhaps p) (s ++ (63 ∷ []))
  single : {d : ℕ} {p : Pattern} {s : List ℕ} → Spells anItem d p s → Spells aBranch d p s
  joined : {d : ℕ} {p q : Pattern} {s t : List ℕ} → Spells anItem d p s → Spells aBranch d q t → Spells aBranch d (Then p q) (s ++ t)
  alone : {d : ℕ} {p : Pattern} {s : List ℕ} → Spells aBranch d p s → Spells aGroup d p s
  barred : {d : ℕ} {p q : Pattern} {s t : List ℕ} → Spells aBranch d p s → Spells aGroup d q t → Spells aGroup d (Or p q) (s ++ (124 ∷ t))

-- THE RIGHT LINES for V values, each with its pattern. That a line is not empty is the grammar's doing.
pub record RightLine (vs : ℕ) (s : List ℕ) (p : Pattern) : Type 0 where
  pub spelled : Spells aGroup most_depth p s
  pub short : length s ≤ most_bytes
  pub few : length (letters p) ≤ most_letters
  pub values : all (λ v. ltb v vs) (letters p) ≡ true

-- The reading, as a computation. Law `line_right` in proofs/Lines.antt: it finds the pattern of each right line, and no other.
pub data Reader : Type 0 where
  item branch group : Reader

-- a pattern and the place after it, or nothing
pub data Parsed : Type 0 where
  Good : Pattern → ℕ → Parsed
  Wrong : Parsed

abbrev pub and_then : Parsed → (Pattern → ℕ → Parsed) → Parsed
and_then (Good p e) f = f p e
and_then Wrong f = Wrong

unfoldable pub is_letter : ℕ → Bool
is_letter b = leb 97 b && leb b 112

-- the letters of a text
unfoldable pub letters_of : List ℕ → List ℕ
letters_of [] = []
letters_of (b ∷ s) = cond (is_letter b) ((b - 97) ∷ letters_of s) (letters_of s)

-- after a letter or a closed group: `*`, `+`, `?` or none
unfoldable pub suffix : ℕ → Pattern → ℕ → Parsed
suffix b p e =
    cond (eqb b 42) (Good (Perhaps (More p)) (e + 1)) (cond (eqb b 43) (Good (More p) (e + 1)) (cond (eqb b 63) (Good (Perhaps p) (e + 1)) (Good p e)))

-- one step of the reading at a place (0 stands behind the text)
unfoldable pub step : (Reader → ℕ → ℕ → Parsed) → Reader → List ℕ → ℕ → ℕ → Parsed
step rec item s at d =
    cond (is_letter (get_or s at 0)) (suffix (get_or s (at + 1) 0) (Letter (get_or s at 0 - 97)) (at + 1))
    (cond (eqb (get_or s at 0) 40)
    (cond (eqb d 0) Wrong (and_then (rec group (at + 1) (d - 1)) (λ p e. cond (eqb (get_or s e 0) 41) (suffix (get_or s (e + 1) 0) p (e + 1)) Wrong)))
    Wrong)
step rec branch s at d =
    and_then (rec item at d) (λ p e. cond (is_letter (get_or s e 0) || eqb (get_or s e 0) 40) (and_then (rec branch e d) (λ q f. Good (Then p q) f)) (Good p e))
step rec group s at d =
    and_then (rec branch at d) (λ p e. cond (eqb (get_or s e 0) 124) (and_then (rec group (e + 1) d) (λ q f. Good (Or p q) f)) (Good p e))

unfoldable pub within : ℕ → Reader → List ℕ → ℕ → ℕ → Parsed
within zero w s at d = Wrong
within (suc n) w s at d = step (λ w' at' d'. within n w' s at' d') w s at d

-- deep enough for the text: each byte is passed by three steps at most
unfoldable pub parse : Reader → List ℕ → ℕ → ℕ → Parsed
parse w s at d = within (length s * 3 + 3) w s at d

-- a whole line
pub data Line : Type 0 where
  lawful : Pattern → Line
  unlawful : Line

abbrev pub ended : ℕ → Parsed → Line
ended n (Good p e) = cond (eqb e n) (lawful p) unlawful
ended n Wrong = unlawful

unfoldable pub letters_right : ℕ → List ℕ → Bool
letters_right vs ls = leb (length ls) most_letters && all (λ v. ltb v vs) ls

unfoldable pub read_line : ℕ → List ℕ → Line
read_line vs s =
    cond (leb (length s) most_bytes && letters_right vs (letters_of s)) (ended (length s) (parse group s 0 most_depth)) unlawful
