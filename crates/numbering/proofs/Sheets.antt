-- The numbered sheet accepts what the automaton accepts. Assumes nothing.
use mathlib.Core.Path.{◌≡◌, sym, ap, ap₂, ◌∙◌}
use mathlib.Core.Bool.{Bool, true, false, cond, ◌&&◌}
use mathlib.Core.Logic.{◌⊎◌, inl, inr}
use mathlib.Core.List.{List, [], ◌∷◌, ◌++◌, map, map-map, append_assoc}
use Prim.Native.Nat.{ℕ, zero, suc, ◌+◌, ◌*◌, ◌/◌, ◌%◌, ◌≤◌, ◌<◌}
use native.Mathlib.Omega.{arith}
use native.Mathlib.Decide.{ℕ_discrete}
use native.Mathlib.Nat.{zero-add, div-lt_iff_lt-mul, mod-lt, div-add-mod'}
use lib.Dec.{eqb, ltb}
use lib.ListN.{length, get_or, length-map, length-append, get_or-append}
use lib.Seq.{get_or-append-add}
use borrow.Author.Tests.{eq-eqb, ne_eqb, lt-ltb, le-ltb}
use Rattle.kinds.specs.Bits.{bit}
use Rattle.meaning.specs.Lists.{from, each}
use Rattle.meaning.specs.Bounds.{no_target}
use Rattle.meaning.specs.Meaning.{Rules, rules_of, accepted}
use Rattle.kinds.proofs.Bits.{bit_mask}
use Rattle.numbering.specs.Numbering.{runs, is_in, index_of, row_of, met, target_of, targets_of, accepting_of}
use Rattle.meaning.proofs.Lists.{length_from, at_from}
use Rattle.meaning.proofs.Members.{Below}
use Rattle.numbering.proofs.Numbering.{index_lt, at_index, met_closed, met_first}

-- the rule set, with any costs and anything behind the arcs
abbrev pub sheet_of : (ℕ → ℕ → ℕ) → (ℕ → Bool) → ℕ → List ℕ → List ℕ → List ℕ → Rules
sheet_of next ends vs cs more costs = rules_of (length cs) vs (targets_of next vs cs ++ more) costs (accepting_of ends cs)

-- rows of vs numbers each: the number v of row q stands at q × vs + v
row_at : (f : ℕ → List ℕ) (vs : ℕ) → ((c : ℕ) → length (f c) ≡ vs) → (cs more : List ℕ) (q v : ℕ) → q < length cs → v < vs
    → get_or (each f cs ++ more) (q * vs + v) 0 ≡ get_or (f (get_or cs q 0)) v 0
row_at f vs sz [] more q v h l = absurd (omega arith)
row_at f vs sz (c ∷ cs) more zero v h l =
    let e : 0 * vs + v ≡ v = omega arith in
    ap₂ (λ (xs : List ℕ) (i : ℕ). get_or xs i 0) (append_assoc (f c) (each f cs) more) e ∙ get_or-append (f c) (each f cs ++ more) 0 v (rw (sz c) l)
row_at f vs sz (c ∷ cs) more (suc q) v h l =
    let n = sz c in
    let e : suc q * vs + v ≡ length (f c) + (q * vs + v) = rw n (omega arith) in
    ap₂ (λ (xs : List ℕ) (i : ℕ). get_or xs i 0) (append_assoc (f c) (each f cs) more) e
    ∙ get_or-append-add (f c) (each f cs ++ more) (q * vs + v) 0
    ∙ row_at f vs sz cs more q v (omega arith) l

-- the targets, row by row
module _ (next : ℕ → ℕ → ℕ) (vs : ℕ) (cs : List ℕ) where
  abbrev pub row_targets : ℕ → List ℕ
  row_targets c = map (target_of cs) (row_of next vs c)

  pub row_length : (c : ℕ) → length (row_targets c) ≡ vs
  unfolding row_of
  row_length c = length-map (map (next c) (from 0 vs)) (target_of cs) ∙ length_from (next c) 0 vs

  pub rows_length : (xs : List ℕ) → length (each row_targets xs) ≡ length xs * vs
  rows_length [] = omega arith
  rows_length (x ∷ xs) =
      let e = row_length x in
      let r = rows_length xs in
      length-append (row_targets x) (each row_targets xs) ∙ omega arith

  pub targets_length : length (targets_of next vs cs) ≡ length cs * vs
  unfolding targets_of
  targets_length = rows_length cs

module _ (next : ℕ → ℕ → ℕ) (ends : ℕ → Bool) (vs : ℕ) (cs more costs : List ℕ) where
  pub arc_at : (q v : ℕ) → q < length cs → v < vs → get_or (targets_of next vs cs ++ more) (q * vs + v) 0 ≡ target_of cs (next (get_or cs q 0) v)
  unfolding targets_of row_of
  arc_at q v h l =
      row_at (row_targets next vs cs) vs (row_length next vs cs) cs more q v h l
      ∙ ap (λ (row : List ℕ). get_or row v 0) (map-map (target_of cs) (next (get_or cs q 0)) (from 0 vs))
      ∙ at_from (λ u. target_of cs (next (get_or cs q 0) u)) 0 vs v l
      ∙ ap (λ (u : ℕ). target_of cs (next (get_or cs q 0) u)) (zero-add v)

  end_at : (q : ℕ) → q < length cs → bit (accepting_of ends cs) q ≡ ends (get_or cs q 0)
  unfolding accepting_of
  end_at q h = bit_mask (λ i. ends (get_or cs i 0)) (length cs) q h

  -- each target is no arc or a state, if those after the list's configurations are in the list
  pub target_in : ((q v : ℕ) → q < length cs → v < vs → (next (get_or cs q 0) v ≡ 0 → ⊥) → is_in (next (get_or cs q 0) v) cs ≡ true)
      → (k : ℕ) → 0 < vs → k < length cs * vs → (get_or (targets_of next vs cs ++ more) k 0 ≡ no_target) ⊎ (get_or (targets_of next vs cs ++ more) k 0 < length cs)
  unfolding target_of
  target_in closed k pos h = go (ℕ_discrete (next (get_or cs (k / vs) 0) (k % vs)) 0)
    where
      q_lt : k / vs < length cs
      q_lt = (div-lt_iff_lt-mul pos).1 h

      here : get_or (targets_of next vs cs ++ more) k 0 ≡ target_of cs (next (get_or cs (k / vs) 0) (k % vs))
      here = ap (λ (i : ℕ). get_or (targets_of next vs cs ++ more) i 0) (sym (div-add-mod' k vs)) ∙ arc_at (k / vs) (k % vs) q_lt (mod-lt k pos)

      go : Dec (next (get_or cs (k / vs) 0) (k % vs) ≡ 0) → (get_or (targets_of next vs cs ++ more) k 0 ≡ no_target) ⊎ (get_or (targets_of next vs cs ++ more) k 0 < length cs)
      go (yes e) = inl (here ∙ ap (λ (b : Bool). cond b no_target (index_of (next (get_or cs (k / vs) 0) (k % vs)) cs)) (eq-eqb _ 0 e))
      go (no e) =
          let z = here ∙ ap (λ (b : Bool). cond b no_target (index_of (next (get_or cs (k / vs) 0) (k % vs)) cs)) (ne_eqb _ 0 e) in
          let i = index_lt (next (get_or cs (k / vs) 0) (k % vs)) cs (closed (k / vs) (k % vs) q_lt (mod-lt k pos) e) in
          inr (omega arith)

  -- THE LAW OF THE NUMBERING: if those after the list's configurations are in the list, the sheet accepts what the automaton accepts
  sheet_runs : length cs ≤ no_target → ((q v : ℕ) → q < length cs → v < vs → (next (get_or cs q 0) v ≡ 0 → ⊥) → is_in (next (get_or cs q 0) v) cs ≡ true)
      → (q : ℕ) (w : List ℕ) → q < length cs → Below vs w → accepted (sheet_of next ends vs cs more costs) q w ≡ runs next ends (get_or cs q 0) w
  unfolding target_of
  sheet_runs few closed q [] h b = end_at q h
  sheet_runs few closed q (v ∷ w) h b =
      ap (λ (t : ℕ). ltb t (length cs) && accepted (sheet_of next ends vs cs more costs) t w) (arc_at q v h b.0)
      ∙ go (ℕ_discrete (next (get_or cs q 0) v) 0) (λ t k. sheet_runs few closed t w k b.1)
    where
      go : Dec (next (get_or cs q 0) v ≡ 0)
          → ((t : ℕ) → t < length cs → accepted (sheet_of next ends vs cs more costs) t w ≡ runs next ends (get_or cs t 0) w)
          → (ltb (target_of cs (next (get_or cs q 0) v)) (length cs) && accepted (sheet_of next ends vs cs more costs) (target_of cs (next (get_or cs q 0) v)) w)
          ≡ cond (eqb (next (get_or cs q 0) v) 0) false (runs next ends (next (get_or cs q 0) v) w)
      go (yes e) rec = rw (eq-eqb (next (get_or cs q 0) v) 0 e, le-ltb no_target (length cs) (omega arith))
      go (no n) rec =
          let m = closed q v h b.0 n in
          let i = index_lt (next (get_or cs q 0) v) cs m in
          let r = rec (index_of (next (get_or cs q 0) v) cs) i in
          rw (ne_eqb (next (get_or cs q 0) v) 0 n, lt-ltb (index_of (next (get_or cs q 0) v) cs) (length cs) i)
          (r ∙ ap (λ (c : ℕ). runs next ends c w) (at_index (next (get_or cs q 0) v) cs m))

-- with the list that breadth first gives, from its first state
pub numbered_runs : (next : ℕ → ℕ → ℕ) (ends : ℕ → Bool) (vs start k : ℕ) (more costs w : List ℕ) → k ≤ no_target → length (met next vs start k) ≤ k → Below vs w
    → accepted (sheet_of next ends vs (met next vs start k) more costs) 0 w ≡ runs next ends start w
numbered_runs next ends vs start k more costs w hk h b =
    sheet_runs next ends vs (met next vs start k) more costs (omega arith)
    (λ q v l m n. met_closed next vs start k q v (omega arith) l m n) 0 w (met_first next vs start k).1 b
    ∙ ap (λ (c : ℕ). runs next ends c w) (met_first next vs start k).0
