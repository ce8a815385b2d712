-- Each contract leaves one outcome: any two that it allows are equal, or, of rows of arcs, give the same. A lent row keeps its length. Assumes
-- nothing.
use Rattle.std.proofs.Common.{◌≡◌, ℕ, suc, ◌+◌, ◌<◌, ◌≤◌, Bool, true, false, List, [], length, get_or, sym, refl, ◌∙◌, arith, ext_get_or}
use native.Mathlib.Decide.{dec_lt}
use Rattle.meaning.specs.Bounds.{most_states, most_values, table_size, top}
use Rattle.ranks.specs.Rows.{no_arc, cost_in, along, Rising, Ranked, Pulls, Settled, Served, Ranks, Turns}
use Rattle.ranks.proofs.Least.{along_low, along_one, top_low}

pub pull_unique : (n : ℕ) (numbers arcs row a b : List ℕ) (x y : ℕ) → n ≤ most_states → most_states ≤ length numbers → length arcs ≡ table_size → n ≤ length row
    → Rising n arcs
    → ((k : ℕ) → k < n → get_or numbers k 0 ≤ suc top) → length a ≡ length b → Pulls n numbers arcs row a x → Pulls n numbers arcs row b y → a ≡ b
pull_unique n numbers arcs row a b x y h i j k l m e r s = ext_get_or 0 a b e (λ q o. go q (dec_lt q n))
  where
    go : (q : ℕ) → Dec (q < n) → get_or a q 0 ≡ get_or b q 0
    go q (yes d) = r.least h i j k l m q d ∙ sym (s.least h i j k l m q d)
    go q (no d) = r.left q (omega arith) ∙ sym (s.left q (omega arith))

pub settled_unique : (n low : ℕ) (rests row : List ℕ) (x y : Bool) → n ≤ length rests → n ≤ length row → low ≤ suc top → ((q : ℕ) → q < n → get_or rests q 0 ≤ cost_in no_arc)
    → Settled n low rests row x → Settled n low rests row y → x ≡ y
settled_unique n low rests row true true a b l f r s = refl
settled_unique n low rests row false false a b l f r s = refl
settled_unique n low rests row true false a b l f r s = absurd (s.not refl a b l f (r.is refl l f))
settled_unique n low rests row false true a b l f r s = absurd (r.not refl a b l f (s.is refl l f))

pub serves_unique : (v m : ℕ) (arcs : List ℕ) (x y : Bool) → Served v m arcs x → Served v m arcs y → x ≡ y
serves_unique v m arcs true true r s = refl
serves_unique v m arcs false false r s = refl
serves_unique v m arcs true false r s = let (l, b, e) = r.is refl in absurd (s.not refl l e)
serves_unique v m arcs false true r s = let (l, b, e) = s.is refl in absurd (r.not refl l e)

pub rank_unique : (n v : ℕ) (ts cs was a b : List ℕ) → n ≤ most_states → v ≤ most_values → length ts ≡ table_size → length cs ≡ table_size → length was ≡ table_size
    → Ranks n v ts cs was a → Ranks n v ts cs was b → (numbers : List ℕ) (q : ℕ) → q < n → along numbers a q most_values ≡ along numbers b q most_values
rank_unique n v ts cs was a b h i j k l r s numbers q o =
    along_one numbers (r.right h i j k l) (s.right h i j k l) h 0 q o (λ u m. omega arith) (omega (arith, along_low numbers a q, top_low)) (omega (arith, along_low numbers b q, top_low))

pub turn_unique : (n : ℕ) (arcs rests into x a y b : List ℕ) (joins : ℕ → ℕ → ℕ → Bool) → n ≤ most_states → length arcs ≡ table_size → length rests ≡ most_states → length into ≡ table_size
    → ((k : ℕ) → k < table_size → get_or into k 0 ≡ no_arc) → ((k : ℕ) → k < most_states → get_or rests k 0 ≡ cost_in no_arc)
    → ((q c s : ℕ) → q < n → s < n → joins q c s ≡ true → c < cost_in no_arc) → Ranked joins n [] arcs → Turns n arcs rests into x a → Turns n arcs rests into y b
    → (numbers : List ℕ) (low q : ℕ) → q < n → ((k : ℕ) → k < n → low ≤ get_or numbers k 0)
    → along numbers a q most_values ≤ low + get_or x q (cost_in no_arc) → along numbers b q most_values ≤ low + get_or y q (cost_in no_arc)
    → along numbers a q most_values ≡ along numbers b q most_values
turn_unique n arcs rests into x a y b joins h i j k l m c g r s numbers low q o under d e =
    along_one numbers (r.right joins h i j k l m c g) (s.right joins h i j k l m c g) h low q o under d e
