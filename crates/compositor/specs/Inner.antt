-- What only the inner functions' contracts cite: the code's tables and answers in the words of the definitions.
use Rattle.std.specs.Prelude.{◌≡◌, Bool, true, false, cond, not, ◌&&◌, ◌||◌, List, [], ◌∷◌, ◌++◌, ℕ, zero, suc, ◌+◌, ◌-◌, ◌^◌, ◌≤◌, eqb, leb, ltb, length, get_or, set, replicate, Option, Some, None}
use Rattle.std.specs.Int.Bits.{bit_and, bit_or}
use Rattle.kinds.specs.Bits.{bit}
use Rattle.meaning.specs.Bounds.{most_states}
use Rattle.patterns.specs.Pattern.{Pattern, Letter, Then, Or, More, Perhaps, letters, numbered}
use Rattle.patterns.specs.Places.{null, first, last, places_of, unions}
use Rattle.patterns.specs.Line.{Parsed, Good, Wrong, most_letters, is_letter, letters_right, lawful, read_line}
use Rattle.numbering.specs.Numbering.{is_in}
use Rattle.compositor.specs.declared.parts.Part.{Part}
use Rattle.compositor.specs.declared.states.Automaton.{Automaton}

-- THE LETTERS: whether a byte is no letter, or one below V that there is still room for
unfoldable pub letter_fits : ℕ → ℕ → ℕ → Bool
letter_fits vs k b = cond (is_letter b) (ltb (b - 97) vs && ltb k most_letters) true

-- a letter is noted at place k
pub record Noted (b k : ℕ) (before after : List ℕ) (r : ℕ) : Type 0 where
  pub other : is_letter b ≡ false → (r ≡ k) × (after ≡ before)
  pub letter : is_letter b ≡ true → (r ≡ k + 1) × (after ≡ set before (b - 97) (bit_or (get_or before (b - 97) 0) (2 ^ k)))

-- all letters are noted
pub record Marked (vs : ℕ) (ls marks : List ℕ) : Type 0 where
  pub right : letters_right vs ls ≡ true
  pub places : (v : ℕ) → get_or marks v 0 ≡ places_of ls v

-- PARTS: what the reader keeps of a pattern whose first letter has place k
unfoldable pub part_of : ℕ → Pattern → ℕ → Part
part_of k p e =
    record { at = e; place = k + length (letters p); null = null (numbered k p); first = first (numbered k p); last = last (numbered k p) }

unfoldable pub view_of : ℕ → Parsed → Option Part
view_of k (Good p e) = Some (part_of k p e)
view_of k Wrong = None

-- the table of what can follow each place: f can follow each place of l
unfoldable pub link_to : List ℕ → ℕ → ℕ → ℕ → List ℕ
link_to fs l f zero = fs
link_to fs l f (suc i) = set (link_to fs l f i) i (bit_or (get_or (link_to fs l f i) i 0) (cond (bit l i) f 0))

unfoldable pub add_follow : Pattern → List ℕ → List ℕ
add_follow (Letter i) fs = fs
add_follow (Then p q) fs = link_to (add_follow q (add_follow p fs)) (last p) (first q) most_letters
add_follow (Or p q) fs = add_follow q (add_follow p fs)
add_follow (More p) fs = link_to (add_follow p fs) (last p) (first p) most_letters
add_follow (Perhaps p) fs = add_follow p fs

-- what a reader tells, and what it leaves in the table
pub record Told (k : ℕ) (got : Parsed) (before after : List ℕ) (r : Option Part) : Type 0 where
  pub answer : r ≡ view_of k got
  pub table : (p : Pattern) (e : ℕ) → got ≡ Good p e → after ≡ add_follow (numbered k p) before

-- parts put together
unfoldable pub extended_to : Part → ℕ → Bool → Part
extended_to x e n = record { at = e; place = x.place; null = n; first = x.first; last = x.last }

-- by the byte after it: 42 43 63 are * + ?
unfoldable pub suffix_part : ℕ → Part → Part
suffix_part b x =
    cond (eqb b 42) (extended_to x (x.at + 1) true) (cond (eqb b 43) (extended_to x (x.at + 1) x.null) (cond (eqb b 63) (extended_to x (x.at + 1) true) x))

unfoldable pub suffix_table : ℕ → Part → List ℕ → List ℕ
suffix_table b x fs = cond (eqb b 42 || eqb b 43) (link_to fs x.last x.first most_letters) fs

unfoldable pub then_part : Part → Part → Part
then_part x y =
    record {
      at = y.at;
      place = y.place;
      null = x.null && y.null;
      first = bit_or x.first (cond x.null y.first 0);
      last = bit_or y.last (cond y.null x.last 0);
    }

unfoldable pub or_part : Part → Part → Part
or_part x y =
    record { at = y.at; place = y.place; null = x.null || y.null; first = bit_or x.first y.first; last = bit_or x.last y.last }

unfoldable pub letter_part : ℕ → ℕ → Part
letter_part k e = record { at = e; place = k + 1; null = false; first = 2 ^ k; last = 2 ^ k }

-- what is left after the byte that stands behind a part, and after two parts in sequence
pub record Suffixed (b : ℕ) (x : Part) (before after : List ℕ) (r : Part) : Type 0 where
  pub part : r ≡ suffix_part b x
  pub table : after ≡ suffix_table b x before

pub record Joined (x y : Part) (before after : List ℕ) (r : Part) : Type 0 where
  pub part : r ≡ then_part x y
  pub table : after ≡ link_to before x.last y.first most_letters

-- THE AUTOMATON from tables: the first places, the places that can follow each place, the places of each value
unfoldable pub unions_of : List ℕ → ℕ → ℕ → ℕ
unions_of fs c k = unions (λ i. get_or fs i 0) c k

unfoldable pub set_by : ℕ → List ℕ → ℕ → ℕ
set_by fst fs c = cond (eqb c 0) fst (unions_of fs c most_letters)

unfoldable pub onward_by : ℕ → List ℕ → List ℕ → ℕ → ℕ → ℕ
onward_by fst fs ms c v = bit_and (get_or ms v 0) (set_by fst fs c)

abbrev pub onward_in : Automaton → ℕ → ℕ → ℕ
onward_in a = onward_by a.first a.follow a.marks

unfoldable pub ends_by : Bool → ℕ → ℕ → Bool
ends_by null last c = cond (eqb c 0) null (not (eqb (bit_and c last) 0))

-- THE LIST of configurations has room for one more than a sheet has states
abbrev pub list_size : ℕ
list_size = most_states + 1

-- meeting them where there is room for cap only
unfoldable pub meet_in : ℕ → List ℕ → ℕ → List ℕ
meet_in cap cs c = cond (eqb c 0 || (leb cap (length cs) || is_in c cs)) cs (cs ++ (c ∷ []))

unfoldable pub meets_in : ℕ → List ℕ → List ℕ → List ℕ
meets_in cap cs [] = cs
meets_in cap cs (c ∷ row) = meets_in cap (meet_in cap cs c) row

-- A WHOLE LINE: its pattern, of which the automaton tells
pub record LineAt (vs : ℕ) (s : List ℕ) (a : Automaton) : Type 0 where
  pub pattern : Pattern
  pub read : read_line vs s ≡ lawful pattern
  pub few : length (letters pattern) ≤ most_letters
  pub nulls : a.null ≡ null (numbered 0 pattern)
  pub firsts : a.first ≡ first (numbered 0 pattern)
  pub lasts : a.last ≡ last (numbered 0 pattern)
  pub table : a.follow ≡ add_follow (numbered 0 pattern) (replicate most_letters 0)
  pub places : (v : ℕ) → get_or a.marks v 0 ≡ places_of (letters pattern) v
