-- Automata over configurations that are numbers, whatever they stand for; their states numbered breadth first; and the sheet so made.
-- A configuration that is led to is never 0, since 0 says that there is none; the start may be 0, if nothing leads back to it.
use Rattle.std.specs.Prelude.{Bool, true, false, cond, ◌||◌, List, [], ◌∷◌, ◌++◌, map, ◌≡◌, ℕ, zero, suc, ◌<◌, eqb, ltb, length, get_or, drop}
use Rattle.kinds.specs.Bits.{mask_of}
use Rattle.meaning.specs.Bounds.{no_target}
use Rattle.meaning.specs.Lists.{from, each}
use Rattle.meaning.specs.Meaning.{Arcs, target, has_arc, words}

-- `next c v` is the configuration after c on value v, 0 if there is none; `ends c` says that c accepts
abbrev pub runs : (ℕ → ℕ → ℕ) → (ℕ → Bool) → ℕ → List ℕ → Bool
runs next ends c [] = ends c
runs next ends c (v ∷ w) = cond (eqb (next c v) 0) false (runs next ends (next c v) w)

-- the configuration after the word, from c on; 0 if there is none
abbrev pub reaches : (ℕ → ℕ → ℕ) → ℕ → List ℕ → ℕ
reaches next c [] = c
reaches next c (v ∷ w) = cond (eqb (next c v) 0) 0 (reaches next (next c v) w)

-- the configurations that some word of values below vs leads to, from start
pub data Reached (next : ℕ → ℕ → ℕ) (vs start : ℕ) : ℕ → Type 0 where
  begin : Reached next vs start start
  on : {c : ℕ} (v : ℕ) → Reached next vs start c → v < vs → (next c v ≡ 0 → ⊥) → Reached next vs start (next c v)

-- whether c is in the list, and where it first is
abbrev pub is_in : ℕ → List ℕ → Bool
is_in c [] = false
is_in c (x ∷ xs) = eqb x c || is_in c xs

abbrev pub index_of : ℕ → List ℕ → ℕ
index_of c [] = 0
index_of c (x ∷ xs) = cond (eqb x c) 0 (suc (index_of c xs))

-- no number stands in the list twice
pub data Distinct : List ℕ → Type 0 where
  nothing : Distinct []
  another : {x : ℕ} {xs : List ℕ} → is_in x xs ≡ false → Distinct xs → Distinct (x ∷ xs)

-- more than n configurations are reached
pub record MoreThan (next : ℕ → ℕ → ℕ) (vs start n : ℕ) : Type 0 where
  pub list : List ℕ
  pub distinct : Distinct list
  pub reached : (c : ℕ) → is_in c list ≡ true → Reached next vs start c
  pub long : n < length list

-- c is met: it goes to the end of the list, unless it is none or was met before
unfoldable pub meet : List ℕ → ℕ → List ℕ
meet cs c = cond (eqb c 0 || is_in c cs) cs (cs ++ (c ∷ []))

-- one after the other
unfoldable pub meets : List ℕ → List ℕ → List ℕ
meets cs [] = cs
meets cs (c ∷ row) = meets (meet cs c) row

-- the configurations after c, smaller value first; 0 where there is none
unfoldable pub row_of : (ℕ → ℕ → ℕ) → ℕ → ℕ → List ℕ
row_of next vs c = map (next c) (from 0 vs)

-- THE NUMBERING, breadth first: the list of what is met from start on, once its first k configurations have been looked at, in the list's
-- own order. A configuration's number is its place in the list.
unfoldable pub met : (ℕ → ℕ → ℕ) → ℕ → ℕ → ℕ → List ℕ
met next vs start zero = start ∷ []
met next vs start (suc k) =
    let cs = met next vs start k in
    cond (ltb k (length cs)) (meets cs (row_of next vs (get_or cs k 0))) cs

-- THE SHEET: a state for each of the list's configurations; no arc where there is none
unfoldable pub target_of : List ℕ → ℕ → ℕ
target_of cs c = cond (eqb c 0) no_target (index_of c cs)

unfoldable pub targets_of : (ℕ → ℕ → ℕ) → ℕ → List ℕ → List ℕ
targets_of next vs cs = each (λ c. map (target_of cs) (row_of next vs c)) cs

unfoldable pub accepting_of : (ℕ → Bool) → List ℕ → ℕ
accepting_of ends cs = mask_of (λ q. ends (get_or cs q 0)) (length cs)

-- xs written over the beginning of a table, the rest unchanged
unfoldable pub over : List ℕ → List ℕ → List ℕ
over xs t = xs ++ drop (length xs) t

-- where a word leads by the arcs, from state q: 0 if an arc is missing, else 1 more than the state's number
abbrev pub leads_to : Arcs → ℕ → List ℕ → ℕ
leads_to a q [] = suc q
leads_to a q (v ∷ w) = cond (has_arc a q v) (leads_to a (target a q v) w) 0

-- every word of up to n values below vs: shorter words first, then compared place by place, smaller value first
abbrev pub words_up_to : ℕ → ℕ → List (List ℕ)
words_up_to vs n = each (words vs) (from 0 (suc n))
