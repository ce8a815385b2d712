-- The sheet W of the paper, about the definitions: what it accepts, K1 to K12 as one statement over one table, decisions in two orders, and
-- what is reported of drawn rosters.
use Rattle.std.specs.Prelude.{◌≡◌, refl, List, [], ◌∷◌, map, ℕ, length, replicate}
use Rattle.kinds.specs.Bits.{bit, mask_of}
use Rattle.meaning.specs.Bounds.{top}
use Rattle.meaning.specs.Lists.{those}
use Rattle.meaning.specs.Prefixes.{accepted_words, longest, behind}
use Rattle.meaning.specs.Meaning.{Rules, accepted, words, places, rosters, kept, kept_at, first, Verdict, verdict, verdict_of, Decision, Keep, Limit, decide, decides}

-- the sheet W: a row of three for each of its states, 255 where there is no arc; 61 has the bits of its final states 0, 2, 3, 4 and 5
unfoldable pub W : Rules
W = record {
  arcs = record {
    states = 6;
    values = 3;
    targets =
        1 ∷ 3 ∷ 4
        ∷ 2 ∷ 255 ∷ 255
        ∷ 255 ∷ 255 ∷ 4
        ∷ 255 ∷ 2 ∷ 4
        ∷ 1 ∷ 3 ∷ 5
        ∷ 1 ∷ 3 ∷ 255
        ∷ [];
    costs =
        1 ∷ 2 ∷ 0
        ∷ 1 ∷ 0 ∷ 0
        ∷ 0 ∷ 0 ∷ 0
        ∷ 0 ∷ 2 ∷ 0
        ∷ 1 ∷ 2 ∷ 0
        ∷ 1 ∷ 2 ∷ 0
        ∷ [];
  };
  accepting = 61;
}

-- its values
abbrev d : ℕ
d = 0

abbrev e : ℕ
e = 1

abbrev x : ℕ
x = 2

-- OF THE ROSTERS OF LENGTH 3 IT ACCEPTS EIGHT: ddx, eex, exe, exx, xdd, xee, xex, xxe
unfoldable pub eight : List (List ℕ)
eight =
    (d ∷ d ∷ x ∷ [])
    ∷ (e ∷ e ∷ x ∷ [])
    ∷ (e ∷ x ∷ e ∷ [])
    ∷ (e ∷ x ∷ x ∷ [])
    ∷ (x ∷ d ∷ d ∷ [])
    ∷ (x ∷ e ∷ e ∷ [])
    ∷ (x ∷ e ∷ x ∷ [])
    ∷ (x ∷ x ∷ e ∷ [])
    ∷ []

pub accepts : those (accepted W 0) (words 3 3) ≡ eight
unfolding W eight bit
accepts = refl

-- and these are its rosters where neither masks nor limits forbid any
abbrev free : ℕ
free = top

pub allows : rosters W 0 0 (places (7 ∷ 7 ∷ 7 ∷ []) (free ∷ free ∷ free ∷ [])) ≡ eight
unfolding W eight top places bit rosters
allows = refl

-- masks and limits; then what a filter tells (answer, kept masks, least cost), or a place, a value, and the first roster with that
-- value at that place
pub data Case : Type 0 where
  Filter : List ℕ → List ℕ → ℕ → List ℕ → ℕ → Case
  First : List ℕ → List ℕ → ℕ → ℕ → List (List ℕ) → Case

-- the case as the definitions have it
abbrev pub said : Case → Case
said (Filter ms ls a ks c) =
    let t = verdict_of W 0 0 (places ms ls) in Filter ms ls t.answered t.masks t.cheapest
said (First ms ls i v w) = First ms ls i v (first i v (rosters W 0 0 (places ms ls)))

-- K1 to K10, then K11 and K12
unfoldable pub table : List Case
table =
    Filter (7 ∷ []) (free ∷ []) 0 (6 ∷ []) 0
    ∷ Filter (7 ∷ 7 ∷ []) (free ∷ free ∷ []) 0 (7 ∷ 7 ∷ []) 0
    ∷ Filter (7 ∷ 7 ∷ 7 ∷ []) (free ∷ free ∷ free ∷ []) 0 (7 ∷ 7 ∷ 7 ∷ []) 2
    ∷ Filter (7 ∷ 1 ∷ 7 ∷ []) (free ∷ free ∷ free ∷ []) 0 (5 ∷ 1 ∷ 5 ∷ []) 2
    ∷ Filter (7 ∷ 7 ∷ 7 ∷ []) (0 ∷ free ∷ free ∷ []) 0 (4 ∷ 7 ∷ 7 ∷ []) 2
    ∷ Filter (7 ∷ 7 ∷ 7 ∷ []) (0 ∷ 0 ∷ free ∷ []) 0 (4 ∷ 4 ∷ 2 ∷ []) 2
    ∷ Filter (7 ∷ 7 ∷ 7 ∷ []) (0 ∷ 0 ∷ 1 ∷ []) 11 (0 ∷ 0 ∷ 0 ∷ []) 0
    ∷ Filter (7 ∷ 7 ∷ 7 ∷ []) (1 ∷ 2 ∷ 2 ∷ []) 0 (5 ∷ 7 ∷ 7 ∷ []) 2
    ∷ Filter (7 ∷ 7 ∷ 7 ∷ []) (free ∷ 1 ∷ free ∷ []) 0 (4 ∷ 5 ∷ 3 ∷ []) 2
    ∷ Filter (7 ∷ 0 ∷ 7 ∷ []) (free ∷ free ∷ free ∷ []) 11 (0 ∷ 0 ∷ 0 ∷ []) 0
    ∷ First (7 ∷ 7 ∷ 7 ∷ []) (free ∷ free ∷ free ∷ []) 1 e ((e ∷ e ∷ x ∷ []) ∷ [])
    ∷ First (7 ∷ 7 ∷ 7 ∷ []) (0 ∷ free ∷ free ∷ []) 1 e ((x ∷ e ∷ e ∷ []) ∷ [])
    ∷ []

pub worked : map said table ≡ table
unfolding W table top places bit mask_of rosters kept kept_at first verdict_of
worked = refl

-- WHO DECIDED FIRST: two masks and two limits in two orders, the other mask and the other limit coming last; then half of them. With
-- mask 3 and mask 6, e is left at place 0; within 2 after place 1, exe and exx. The first halves leave ddx besides
unfoldable pub orders : List (List Decision)
orders =
    (Keep 0 3 ∷ Limit 1 2 ∷ Keep 0 6 ∷ Limit 1 4 ∷ [])
    ∷ (Limit 1 4 ∷ Keep 0 6 ∷ Keep 0 3 ∷ Limit 1 2 ∷ [])
    ∷ (Keep 0 3 ∷ Limit 1 2 ∷ [])
    ∷ []

abbrev after : List Decision → Verdict
after ds = verdict_of W 0 0 (decides (places (7 ∷ 7 ∷ 7 ∷ []) (free ∷ free ∷ free ∷ [])) ds)

pub either_order : map after orders ≡ verdict 0 (2 ∷ 4 ∷ 6 ∷ []) 2 ∷ verdict 0 (2 ∷ 4 ∷ 6 ∷ []) 2 ∷ verdict 0 (3 ∷ 5 ∷ 6 ∷ []) 2 ∷ []
unfolding W orders top places bit mask_of rosters kept kept_at verdict_of decide decides
either_order = refl

-- DRAWN ROSTERS: xxd gets 1, for xx goes on to xxe; dxx gets 2, for only d goes on; of length 1, d gets 1; and the eight get 0
unfoldable pub drawn : List (List ℕ)
drawn = (x ∷ x ∷ d ∷ []) ∷ (d ∷ x ∷ x ∷ []) ∷ (d ∷ []) ∷ eight

pub reports : map (λ w. behind w (accepted_words W 0 (length w))) drawn ≡ 1 ∷ 2 ∷ 1 ∷ replicate 8 0
unfolding W drawn eight bit accepted_words longest behind
reports = refl
