-- What a rule set means: the list of its allowed rosters, in the paper's order. Kept values, the least cost and the first roster
-- are read off that list. Throughout, q is the state that a roster starts from and c the cost already spent: contracts have the start and 0.
use Rattle.std.specs.Prelude.{Bool, true, false, ◌&&◌, List, [], ◌∷◌, map, ℕ, zero, suc, ◌+◌, ◌*◌, min, leb, ltb, eqb, length, get_or, take}
use Rattle.std.specs.Int.Bits.{bit_and}
use Rattle.kinds.specs.Bits.{bit, mask_of}
use Rattle.meaning.specs.Lists.{from, each, those, any}
use Rattle.meaning.specs.Bounds.{top}

-- the arcs of a rule set, as its tables are lent
pub record Arcs : Type 0 where
  pub states : ℕ
  pub values : ℕ
  pub targets : List ℕ
  pub costs : List ℕ

pub record Rules : Type 0 where
  pub arcs : Arcs
  pub accepting : ℕ

abbrev pub arcs_of : ℕ → ℕ → List ℕ → List ℕ → Arcs
arcs_of q v t c = record { states = q; values = v; targets = t; costs = c }

abbrev pub rules_of : ℕ → ℕ → List ℕ → List ℕ → ℕ → Rules
rules_of q v t c a = record { arcs = arcs_of q v t c; accepting = a }

-- the arc of state q on value v stands at q × V + v; it is missing if its target is no state, which
-- is 255 once the tables have passed their check
abbrev pub target : Arcs → ℕ → ℕ → ℕ
target a q v = get_or a.targets (q * a.values + v) 0

abbrev pub cost : Arcs → ℕ → ℕ → ℕ
cost a q v = get_or a.costs (q * a.values + v) 0

abbrev pub has_arc : Arcs → ℕ → ℕ → Bool
has_arc a q v = ltb (target a q v) a.states

-- from state q the roster follows one arc for each value, and the last state is accepting
abbrev pub accepted : Rules → ℕ → List ℕ → Bool
accepted r q [] = bit r.accepting q
accepted r q (v ∷ w) = has_arc r.arcs q v && accepted r (target r.arcs q v) w

-- the running cost after a whole roster from state q: the sum of its arcs' costs upon the cost c already spent
abbrev pub total : Arcs → ℕ → ℕ → List ℕ → ℕ
total a q c [] = c
total a q c (v ∷ w) = total a (target a q v) (c + cost a q v) w

-- a place's choices, and its limit on the running cost
pub record Place : Type 0 where
  pub mask : ℕ
  pub limit : ℕ

abbrev pub place : ℕ → ℕ → Place
place m l = record { mask = m; limit = l }

unfoldable pub places : List ℕ → List ℕ → List Place
places [] ls = []
places (m ∷ ms) [] = []
places (m ∷ ms) (l ∷ ls) = place m l ∷ places ms ls

-- the place takes value v at the running cost c: v is in its mask, and c is at most its limit
abbrev pub takes : Place → ℕ → ℕ → Bool
takes p c v = bit p.mask v && leb c (min p.limit top)

-- every place takes the roster's value there, at the running cost up to and including it
abbrev pub fits : Arcs → ℕ → ℕ → List Place → List ℕ → Bool
fits a q c [] [] = true
fits a q c [] (v ∷ w) = false
fits a q c (p ∷ ps) [] = false
fits a q c (p ∷ ps) (v ∷ w) = takes p (c + cost a q v) v && fits a (target a q v) (c + cost a q v) ps w

-- both together: the roster is accepted and keeps to every place's choices and limit
abbrev pub allowed : Rules → ℕ → ℕ → List Place → List ℕ → Bool
allowed r q c ps w = fits r.arcs q c ps w && accepted r q w

-- every word of n values below V, compared place by place, smaller value first
abbrev pub words : ℕ → ℕ → List (List ℕ)
words vs zero = [] ∷ []
words vs (suc n) = each (λ v. map (λ w. v ∷ w) (words vs n)) (from 0 vs)

-- THE MEANING: the rosters allowed from state q, the cost c being spent, in the paper's order
unfoldable pub rosters : Rules → ℕ → ℕ → List Place → List (List ℕ)
rosters r q c ps = those (allowed r q c ps) (words r.arcs.values (length ps))

-- the roster has value v at place i
abbrev pub has : ℕ → ℕ → List ℕ → Bool
has i v [] = false
has zero v (x ∷ w) = eqb x v
has (suc i) v (x ∷ w) = has i v w

-- a kept value of place i is one that some roster of the list has there
unfoldable pub kept_at : ℕ → List (List ℕ) → ℕ → ℕ
kept_at vs ws i = mask_of (λ v. any (has i v) ws) vs

-- the kept masks of n places
unfoldable pub kept : ℕ → ℕ → List (List ℕ) → List ℕ
kept vs n ws = map (kept_at vs ws) (from 0 n)

-- the first roster with value v at place i, if there is one
unfoldable pub first : ℕ → ℕ → List (List ℕ) → List (List ℕ)
first i v ws = take 1 (those (has i v) ws)

-- the least of some numbers, 0 of none
abbrev pub least : List ℕ → ℕ
least [] = 0
least (x ∷ []) = x
least (x ∷ (y ∷ ys)) = min x (least (y ∷ ys))

-- 11 if there is no roster
abbrev pub answer : {A : Type 0} → List A → ℕ
answer [] = 11
answer (w ∷ ws) = 0

-- what a filter tells of a list of rosters: 0, or 11 where there is none; the kept masks; the least cost
pub record Verdict : Type 0 where
  pub answered : ℕ
  pub masks : List ℕ
  pub cheapest : ℕ

abbrev pub verdict : ℕ → List ℕ → ℕ → Verdict
verdict a ks c = record { answered = a; masks = ks; cheapest = c }

-- of the rosters ws of n places, which start from state q with the cost c spent
abbrev pub verdict_on : Arcs → ℕ → ℕ → ℕ → List (List ℕ) → Verdict
verdict_on a q c n ws = verdict (answer ws) (kept a.values n ws) (least (map (total a q c) ws))

-- of a rule set and its places
unfoldable pub verdict_of : Rules → ℕ → ℕ → List Place → Verdict
verdict_of r q c ps = verdict_on r.arcs q c (length ps) (rosters r q c ps)

-- a decision: the meet of a place's mask with a mask, or the smaller of its limit and a limit
pub data Decision : Type 0 where
  Keep Limit : ℕ → ℕ → Decision

abbrev pub change : {A : Type 0} → (A → A) → ℕ → List A → List A
change f i [] = []
change f zero (x ∷ xs) = f x ∷ xs
change f (suc i) (x ∷ xs) = x ∷ change f i xs

unfoldable pub decide : List Place → Decision → List Place
decide ps (Keep i m) = change (λ p. place (bit_and p.mask m) p.limit) i ps
decide ps (Limit i l) = change (λ p. place p.mask (min p.limit l)) i ps

unfoldable pub decides : List Place → List Decision → List Place
decides ps [] = ps
decides ps (d ∷ ds) = decides (decide ps d) ds
