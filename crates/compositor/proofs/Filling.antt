-- Laws of the tables that are filled. Assumes nothing.
use mathlib.Core.Path.{◌≡◌, refl, sym, ap, ap₂, ◌∙◌}
use mathlib.Core.Bool.{Bool, true, false, cond}
use mathlib.Core.List.{List, [], ◌∷◌, ◌++◌, map, append-nil, append_assoc, map-append}
use Prim.Native.Nat.{ℕ, suc, ◌+◌, ◌*◌, ◌^◌, ◌≤◌, ◌<◌}
use native.Mathlib.Omega.{arith}
use native.Mathlib.Numerals.{add-one}
use lib.Bits.{bit_or}
use lib.ListN.{length, get_or, set, take, drop, replicate, length-append, length-take, length-set, length-map, length-replicate, take-append-drop}
use lib.Seq.{take-suc, take_all, length-take-le}
use Rattle.kinds.specs.Bits.{mask_of}
use Rattle.kinds.proofs.Bits.{mask_more, mask_skip}
use Rattle.meaning.specs.Bounds.{most_states, most_values, table_size}
use Rattle.meaning.specs.Lists.{each}
use Rattle.meaning.proofs.Lists.{each_append}
use Rattle.numbering.specs.Numbering.{row_of, target_of, targets_of, accepting_of, over}
use Rattle.numbering.proofs.Over.{over_none, over_more, over_length, over_over}
use Rattle.numbering.proofs.Sheets.{row_targets, row_length, rows_length}
use Rattle.rules.proofs.Checks.{arcs_few}

-- a row of targets, as far as i of them
module _ (f : ℕ → ℕ) (row t₀ : List ℕ) (at : ℕ) where
  pub record Putting (i : ℕ) (t : List ℕ) : Type 0 where
    pub long : length t ≡ length t₀
    pub same : t ≡ over (take at t₀ ++ map f (take i row)) t₀

  head_length : (i : ℕ) → at ≤ length t₀ → i ≤ length row → length (take at t₀ ++ map f (take i row)) ≡ at + i
  head_length i h k = length-append (take at t₀) (map f (take i row)) ∙ ap₂ (λ (a b : ℕ). a + b) (length-take-le at t₀ h) (length-map (take i row) f ∙ length-take-le i row k)

  pub putting_start : at ≤ length t₀ → Putting 0 t₀
  unfolding over
  putting_start h =
      let z : at + 0 ≡ at = omega arith in
      let e : at ≡ length (take at t₀ ++ []) = sym (head_length 0 h (omega arith) ∙ z) in
      record {
        long = refl;
        same = sym (take-append-drop at t₀) ∙ ap₂ (λ (l : List ℕ) (i : ℕ). l ++ drop i t₀) (sym (append-nil (take at t₀))) e;
      }

  pub putting_on : (i x : ℕ) (t : List ℕ) → at + length row ≤ length t₀ → i < length row → x ≡ f (get_or row i 0) → Putting i t → Putting (i + 1) (set t (at + i) x)
  putting_on i x t h k e p =
      record {
        long = length-set t (at + i) x ∙ p.long;
        same =
            ap₂ (λ (l : List ℕ) (y : ℕ). set l (at + i) y) p.same e
            ∙ over_more (take at t₀ ++ map f (take i row)) t₀ (at + i) (f (get_or row i 0)) (head_length i (omega arith) (omega arith)) (omega arith)
            ∙ ap (λ (l : List ℕ). over l t₀)
            (append_assoc (take at t₀) (map f (take i row)) (f (get_or row i 0) ∷ [])
            ∙ ap (λ (l : List ℕ). take at t₀ ++ l)
            (sym (map-append f (take i row) (get_or row i 0 ∷ [])) ∙ ap (map f) (sym (take-suc row i 0 k) ∙ ap (λ (j : ℕ). take j row) (sym (add-one i)))));
      }

  pub putting_end : (i : ℕ) (t : List ℕ) → length row ≤ i → Putting i t → t ≡ over (take at t₀ ++ map f row) t₀
  putting_end i t h p = p.same ∙ ap (λ (l : List ℕ). over (take at t₀ ++ map f l) t₀) (take_all i row h)

-- the rows of the first q states
module _ (next : ℕ → ℕ → ℕ) (vs : ℕ) (cs t₀ : List ℕ) where
  pub record Filled (q : ℕ) (t : List ℕ) : Type 0 where
    pub long : length t ≡ length t₀
    pub same : t ≡ over (each (row_targets next vs cs) (take q cs)) t₀

  pub filled_start : Filled 0 t₀
  filled_start = record { long = refl; same = over_none t₀ }

  filled_on : (q : ℕ) (row t t' : List ℕ) → q < length cs → q * vs + vs ≤ length t₀ → row ≡ row_of next vs (get_or cs q 0) → Filled q t
      → t' ≡ over (take (q * vs) t ++ map (target_of cs) row) t → Filled (q + 1) t'
  filled_on q row t t' h k e f g =
      let l = f.long in
      let n : length (each (row_targets next vs cs) (take q cs)) ≡ q * vs = rows_length next vs cs (take q cs) ∙ ap (λ (i : ℕ). i * vs) (length-take-le q cs (omega arith)) in
      let r : length (map (target_of cs) row) ≡ vs = ap (λ (x : List ℕ). length (map (target_of cs) x)) e ∙ row_length next vs cs (get_or cs q 0) in
      let w : length (take (q * vs) t ++ map (target_of cs) row) ≡ q * vs + vs
      = length-append (take (q * vs) t) (map (target_of cs) row) ∙ ap₂ (λ (a b : ℕ). a + b) (length-take-le (q * vs) t (omega arith)) r in
      let one : each (row_targets next vs cs) (take q cs) ++ row_targets next vs cs (get_or cs q 0) ≡ each (row_targets next vs cs) (take (q + 1) cs)
      = ap (λ (x : List ℕ). each (row_targets next vs cs) (take q cs) ++ x) (sym (append-nil (row_targets next vs cs (get_or cs q 0))))
      ∙ sym (each_append (row_targets next vs cs) (take q cs) (get_or cs q 0 ∷ []))
      ∙ ap (each (row_targets next vs cs)) (sym (take-suc cs q 0 h) ∙ ap (λ (j : ℕ). take j cs) (sym (add-one q))) in
      record {
        long = ap length g ∙ over_length (take (q * vs) t ++ map (target_of cs) row) t (omega arith) ∙ l;
        same =
            g
            ∙ ap₂ (λ (x y : List ℕ). over (take (q * vs) x ++ map (target_of cs) y) x) f.same e
            ∙ over_over (each (row_targets next vs cs) (take q cs)) (row_targets next vs cs (get_or cs q 0)) t₀ (q * vs) n
            ∙ ap (λ (x : List ℕ). over x t₀) one;
      }

  pub filled_end : (q : ℕ) (t : List ℕ) → length cs ≤ q → Filled q t → t ≡ over (targets_of next vs cs) t₀
  unfolding targets_of
  filled_end q t h f = f.same ∙ ap (λ (x : List ℕ). over (each (row_targets next vs cs) x) t₀) (take_all q cs h)

  -- a turn of the loop, as the code makes it
  module _ (q : ℕ) (t : List ℕ) (f : Filled q t) (long : length t₀ ≡ table_size) (below : q < length cs) (few : length cs ≤ most_states) (v : vs ≤ most_values) where
    pub filled_room : (row : List ℕ) → q * vs + length (take vs row) ≤ length t
    filled_room row =
        let l = length-take vs row in
        let o = f.long in
        let m = arcs_few {q = suc q} {v = vs} (omega arith) v in
        omega arith

    pub filled_turn : (row t' : List ℕ) → take vs row ≡ row_of next vs (get_or cs q 0) → t' ≡ over (take (q * vs) t ++ map (target_of cs) (take vs row)) t → Filled (q + 1) t'
    filled_turn row t' r e =
        let a = arcs_few {q = suc q} {v = vs} (omega arith) v in
        filled_on q (take vs row) t t' below (omega arith) r f e

-- costs
pub free_by : (c f : List ℕ) (k : ℕ) → k ≤ length c → f ≡ replicate (length (take k c)) 0 → f ++ drop k c ≡ over (replicate k 0) c
unfolding over
free_by c f k h e = let l = length-take-le k c h in rw (e, l) (ap (λ (i : ℕ). replicate k 0 ++ drop i c) (sym (length-replicate {A = ℕ} k 0)))

-- the accepting states
module _ (ends : ℕ → Bool) (cs : List ℕ) where
  pub record Joining (q set : ℕ) : Type 0 where
    pub same : set ≡ mask_of (λ i. ends (get_or cs i 0)) q

  pub joining_start : Joining 0 0
  unfolding mask_of
  joining_start = record { same = refl }

  pub joining_on : (q set r : ℕ) (a : Bool) → Joining q set → a ≡ ends (get_or cs q 0) → r ≡ cond a (bit_or set (2 ^ q)) set → Joining (q + 1) r
  joining_on q set r a j e h =
      record { same = h ∙ go a e ∙ ap (mask_of (λ i. ends (get_or cs i 0))) (sym (add-one q)) }
    where
      go : (b : Bool) → b ≡ ends (get_or cs q 0) → cond b (bit_or set (2 ^ q)) set ≡ mask_of (λ i. ends (get_or cs i 0)) (suc q)
      go true k = mask_more (λ i. ends (get_or cs i 0)) q set j.same (sym k)
      go false k = j.same ∙ sym (mask_skip (λ i. ends (get_or cs i 0)) q (sym k))

  pub joining_end : (q set : ℕ) → q ≡ length cs → Joining q set → set ≡ accepting_of ends cs
  unfolding accepting_of
  joining_end q set h j = j.same ∙ ap (mask_of (λ i. ends (get_or cs i 0))) h
