-- The tables that the reader fills give the automaton of the pattern. Assumes nothing.
use mathlib.Core.Path.{◌≡◌, refl, sym, ap, ◌∙◌, fun_ext}
use mathlib.Core.Bool.{Bool, true, false, cond, ◌&&◌, ◌||◌, or-false, or_assoc, false≢true}
use mathlib.Core.Logic.{⊎_elim}
use mathlib.Core.List.{List}
use Prim.Native.Nat.{ℕ, zero, suc, ◌≤◌, ◌<◌}
use native.Mathlib.Omega.{arith}
use native.Mathlib.Decide.{ℕ_discrete}
use native.Mathlib.Nat.{lt_of_le_of_lt}
use lib.Bits.{bit_and, bit_or, and_le_l}
use lib.Dec.{eqb}
use lib.ListN.{length, get_or, set, replicate, length-replicate}
use lib.Seq.{get_or-set_same, get_or-set_other}
use Rattle.kinds.specs.Bits.{bit}
use Rattle.kinds.proofs.Bits.{bit_of_or, bit_of_and, bit_none, bit_ext, mask_lt}
use Rattle.patterns.specs.Pattern.{Pattern, Letter, Then, Or, More, Perhaps, letters, numbered}
use Rattle.patterns.specs.Places.{null, first, last, follow, places_of, unions, onward}
use Rattle.patterns.specs.Line.{most_letters}
use Rattle.compositor.specs.Inner.{unions_of, set_by, onward_by, link_to, add_follow}
use Rattle.patterns.proofs.Places.{Spread, one, two, beside, many, maybe, spread, spread_le, Inside}
use Rattle.patterns.proofs.Members.{has_or, has_cond, has_pow}
use Rattle.patterns.proofs.Words.{unions_has, has_unions}
use Rattle.meaning.proofs.Lists.{both_ways}
use Rattle.compositor.proofs.Joining.{link_length}

-- one entry of a table that was linked
link_after : (fs : List ℕ) (l f k i : ℕ) → k ≤ i → get_or (link_to fs l f k) i 0 ≡ get_or fs i 0
unfolding link_to
link_after fs l f zero i h = refl
link_after fs l f (suc k) i h =
    get_or-set_other (link_to fs l f k) k i (bit_or (get_or (link_to fs l f k) k 0) (cond (bit l k) f 0)) 0 (λ e. absurd (omega arith)) ∙ link_after fs l f k i (omega arith)

link_at : (fs : List ℕ) (l f k i : ℕ) → i < k → i < length fs → get_or (link_to fs l f k) i 0 ≡ bit_or (get_or fs i 0) (cond (bit l i) f 0)
unfolding link_to
link_at fs l f zero i h m = absurd (omega arith)
link_at fs l f (suc k) i h m = go (ℕ_discrete i k) (λ p. link_at fs l f k i p m)
  where
    go : Dec (i ≡ k) → (i < k → get_or (link_to fs l f k) i 0 ≡ bit_or (get_or fs i 0) (cond (bit l i) f 0))
        → get_or (set (link_to fs l f k) k (bit_or (get_or (link_to fs l f k) k 0) (cond (bit l k) f 0))) i 0 ≡ bit_or (get_or fs i 0) (cond (bit l i) f 0)
    go (yes e) rec =
        let q = link_length fs l f k in
        rw e (get_or-set_same (link_to fs l f k) k (bit_or (get_or (link_to fs l f k) k 0) (cond (bit l k) f 0)) 0 (omega arith)
        ∙ ap (λ (x : ℕ). bit_or x (cond (bit l k) f 0)) (link_after fs l f k k (omega arith)))
    go (no n) rec = get_or-set_other (link_to fs l f k) k i (bit_or (get_or (link_to fs l f k) k 0) (cond (bit l k) f 0)) 0 n ∙ rec (omega arith)

add_length : (r : Pattern) (fs : List ℕ) → length (add_follow r fs) ≡ length fs
unfolding add_follow
add_length (Letter j) fs = refl
add_length (Then p q) fs = link_length (add_follow q (add_follow p fs)) (last p) (first q) most_letters ∙ add_length q (add_follow p fs) ∙ add_length p fs
add_length (Or p q) fs = add_length q (add_follow p fs) ∙ add_length p fs
add_length (More p) fs = link_length (add_follow p fs) (last p) (first p) most_letters ∙ add_length p fs
add_length (Perhaps p) fs = add_length p fs

-- the table's entries, bit by bit
pub add_bit : (r : Pattern) (fs : List ℕ) (i j : ℕ) → length fs ≡ most_letters → i < most_letters
    → bit (get_or (add_follow r fs) i 0) j ≡ (bit (get_or fs i 0) j || bit (follow r i) j)
unfolding add_follow follow
add_bit (Letter x) fs i j h l = rw (bit_none j) (sym (or-false (bit (get_or fs i 0) j)))
add_bit (Then p q) fs i j h l =
    let n = add_length q (add_follow p fs) ∙ add_length p fs ∙ h in
    rw (link_at (add_follow q (add_follow p fs)) (last p) (first q) most_letters i l (omega arith)) (simp bit_of_or
    (rw (add_bit q (add_follow p fs) i j (add_length p fs ∙ h) l, add_bit p fs i j h l) (simp or_assoc)))
add_bit (Or p q) fs i j h l =
    simp bit_of_or (rw (add_bit q (add_follow p fs) i j (add_length p fs ∙ h) l, add_bit p fs i j h l) (simp or_assoc))
add_bit (More p) fs i j h l =
    let n = add_length p fs ∙ h in
    rw (link_at (add_follow p fs) (last p) (first p) most_letters i l (omega arith)) (simp bit_of_or (rw (add_bit p fs i j h l) (simp or_assoc)))
add_bit (Perhaps p) fs i j h l = add_bit p fs i j h l

pub zeros : (n i : ℕ) → get_or {A = ℕ} (replicate n 0) i 0 ≡ 0
zeros zero i = refl
zeros (suc n) zero = refl
zeros (suc n) (suc i) = zeros n i

table_bit : (r : Pattern) (i j : ℕ) → i < most_letters → bit (get_or (add_follow r (replicate most_letters 0)) i 0) j ≡ bit (follow r i) j
table_bit r i j l =
    add_bit r (replicate most_letters 0) i j (length-replicate {A = ℕ} most_letters 0) l
    ∙ ap (λ (x : ℕ). bit x j || bit (follow r i) j) (zeros most_letters i) ∙ ap (λ (b : Bool). b || bit (follow r i) j) (bit_none j)

-- a place of one part is a place of two
in_first : {a b c i : ℕ} {q : Pattern} → Spread b q c → Inside a i b → Inside a i c
in_first t x = let y = spread_le t in record { low = x.low; high = omega arith }

in_second : {a b c i : ℕ} {p : Pattern} → Spread a p b → Inside b i c → Inside a i c
in_second s x = let y = spread_le s in record { low = omega arith; high = x.high }

-- only places of the pattern are followed
last_inside : {a b : ℕ} {r : Pattern} (i : ℕ) → Spread a r b → bit (last r) i ≡ true → Inside a i b
unfolding last
last_inside i (one {i = k}) h = let e = has_pow k i h in record { low = omega arith; high = omega arith }
last_inside i (two {p} {q} s t) h =
    ⊎_elim (λ k. in_second s (last_inside i t k)) (λ k. in_first t (last_inside i s (has_cond (null q) (last p) i k).1)) (has_or (last q) (cond (null q) (last p) 0) i h)
last_inside i (beside {p} {q} s t) h = ⊎_elim (λ k. in_first t (last_inside i s k)) (λ k. in_second s (last_inside i t k)) (has_or (last p) (last q) i h)
last_inside i (many s) h = last_inside i s h
last_inside i (maybe s) h = last_inside i s h

followed : {a b : ℕ} {r : Pattern} (i j : ℕ) → Spread a r b → bit (follow r i) j ≡ true → Inside a i b
unfolding follow
followed i j one h = absurd (false≢true (sym (bit_none j) ∙ h))
followed i j (two {p} {q} s t) h =
    ⊎_elim (λ k. ⊎_elim (λ l. in_first t (followed i j s l)) (λ l. in_second s (followed i j t l)) (has_or (follow p i) (follow q i) j k))
    (λ k. in_first t (last_inside i s (has_cond (bit (last p) i) (first q) j k).0))
    (has_or (bit_or (follow p i) (follow q i)) (cond (bit (last p) i) (first q) 0) j h)
followed i j (beside {p} {q} s t) h = ⊎_elim (λ k. in_first t (followed i j s k)) (λ k. in_second s (followed i j t k)) (has_or (follow p i) (follow q i) j h)
followed i j (many {p} s) h =
    ⊎_elim (λ k. followed i j s k) (λ k. last_inside i s (has_cond (bit (last p) i) (first p) j k).0)
    (has_or (follow p i) (cond (bit (last p) i) (first p) 0) j h)
followed i j (maybe s) h = followed i j s h

module _ (p : Pattern) (fits : length (letters p) ≤ most_letters) (ms : List ℕ) (right : (v : ℕ) → get_or ms v 0 ≡ places_of (letters p) v) where
  union_bit : (c j : ℕ) → bit (unions (λ i. get_or (add_follow (numbered 0 p) (replicate most_letters 0)) i 0) c most_letters) j ≡ bit (unions (follow (numbered 0 p)) c (length (letters p))) j
  union_bit c j = both_ways _ _ to from
    where
      to : bit (unions (λ i. get_or (add_follow (numbered 0 p) (replicate most_letters 0)) i 0) c most_letters) j ≡ true → bit (unions (follow (numbered 0 p)) c (length (letters p))) j ≡ true
      to h =
          let m = unions_has (λ i. get_or (add_follow (numbered 0 p) (replicate most_letters 0)) i 0) c most_letters j h in
          let f = sym (table_bit (numbered 0 p) m.which j m.below) ∙ m.has in
          let g = followed m.which j (spread 0 p) f in
          has_unions (follow (numbered 0 p)) c (length (letters p)) j m.which (omega (arith, g.high)) m.chosen f

      from : bit (unions (follow (numbered 0 p)) c (length (letters p))) j ≡ true → bit (unions (λ i. get_or (add_follow (numbered 0 p) (replicate most_letters 0)) i 0) c most_letters) j ≡ true
      from h =
          let m = unions_has (follow (numbered 0 p)) c (length (letters p)) j h in
          let l : m.which < most_letters = omega (arith, m.below) in
          has_unions (λ i. get_or (add_follow (numbered 0 p) (replicate most_letters 0)) i 0) c most_letters j m.which l m.chosen (table_bit (numbered 0 p) m.which j l ∙ m.has)

  set_bit : (c j : ℕ) → bit (set_by (first (numbered 0 p)) (add_follow (numbered 0 p) (replicate most_letters 0)) c) j
      ≡ bit (cond (eqb c 0) (first (numbered 0 p)) (unions (follow (numbered 0 p)) c (length (letters p)))) j
  unfolding set_by unions_of
  set_bit c j = go (eqb c 0)
    where
      go : (b : Bool) → bit (cond b (first (numbered 0 p)) (unions (λ i. get_or (add_follow (numbered 0 p) (replicate most_letters 0)) i 0) c most_letters)) j
          ≡ bit (cond b (first (numbered 0 p)) (unions (follow (numbered 0 p)) c (length (letters p)))) j
      go true = refl
      go false = union_bit c j

  pub onward_is : (c v : ℕ) → onward_by (first (numbered 0 p)) (add_follow (numbered 0 p) (replicate most_letters 0)) ms c v ≡ onward p c v
  unfolding onward_by onward places_of
  onward_is c v =
      ap (λ (m : ℕ). bit_and m (set_by (first (numbered 0 p)) (add_follow (numbered 0 p) (replicate most_letters 0)) c)) (right v)
      ∙ bit_ext (length (letters p)) _ _
      (lt_of_le_of_lt (and_le_l (places_of (letters p) v) (set_by (first (numbered 0 p)) (add_follow (numbered 0 p) (replicate most_letters 0)) c)) (mask_lt _ (length (letters p))))
      (lt_of_le_of_lt (and_le_l (places_of (letters p) v) (cond (eqb c 0) (first (numbered 0 p)) (unions (follow (numbered 0 p)) c (length (letters p))))) (mask_lt _ (length (letters p))))
      (λ j l. bit_of_and (places_of (letters p) v) (set_by (first (numbered 0 p)) (add_follow (numbered 0 p) (replicate most_letters 0)) c) j
      ∙ ap (λ (b : Bool). bit (places_of (letters p) v) j && b) (set_bit c j)
      ∙ sym (bit_of_and (places_of (letters p) v) (cond (eqb c 0) (first (numbered 0 p)) (unions (follow (numbered 0 p)) c (length (letters p)))) j))

  -- so the automaton from the reader's tables is that of the pattern
  pub next_is : onward_by (first (numbered 0 p)) (add_follow (numbered 0 p) (replicate most_letters 0)) ms ≡ onward p
  next_is = fun_ext (λ c. fun_ext (λ v. onward_is c v))
