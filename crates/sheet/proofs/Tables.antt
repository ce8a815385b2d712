-- The lines of a rule set: they are in order, and they put its accepting mask and its tables back. Assumes nothing.
use mathlib.Core.Path.{◌≡◌, refl, ap, sym, ◌∙◌}
use mathlib.Core.Logic.{⊎_elim}
use mathlib.Core.Bool.{Bool, true, false, cond, ◌||◌, or-false}
use mathlib.Core.List.{List, [], ◌∷◌, ◌++◌}
use Prim.Native.Nat.{ℕ, zero, suc, ◌+◌, ◌*◌, ◌/◌, ◌%◌, ◌^◌, ◌≤◌, ◌<◌}
use native.Mathlib.Decide.{dec_lt, ℕ_discrete}
use native.Mathlib.Nat.{div-add-mod', mod-lt, div-lt_iff_lt-mul}
use native.Mathlib.Omega.{arith}
use lib.Dec.{ltb}
use lib.ListN.{length, get_or, take, drop, replicate, length-append}
use lib.Pow.{pow_mono}
use lib.Seq.{drop-cons, append_snoc, set_at}
use borrow.Author.Tests.{eq-eqb, ne_eqb, ltb-true, ltb-false}
use Rattle.kinds.specs.Bits.{bit}
use Rattle.kinds.proofs.Bits.{bit_above, mask_is}
use Rattle.meaning.specs.Bounds.{most_states, most_cost, no_target}
use Rattle.meaning.specs.Lists.{from, each, any}
use Rattle.meaning.specs.Meaning.{Arcs, Rules}
use Rattle.rules.specs.declared.Size.{Size}
use Rattle.rules.proofs.Lawful.{Lawful}
use Rattle.sheet.specs.Lines.{size_of, Line, final, arc, place}
use Rattle.sheet.specs.Sheets.{final_line, arc_line, lines_of, names, accepting_of, puts, the_target, the_cost, blank, targets_of, costs_of}
use Rattle.sheet.specs.Inner.{Sized}
use Rattle.sheet.proofs.Texts.{Rising}
use Rattle.meaning.proofs.Lists.{any_append, each_same, pairs_flat}

-- the arc line of place k of the tables
abbrev pub place_line : Arcs → ℕ → List Line
place_line a k =
    cond (ltb (get_or a.targets k 0) a.states) (arc (k / a.values) (k % a.values) (get_or a.targets k 0) (get_or a.costs k 0) ∷ []) []

place_line_lem : (a : Arcs) (k : ℕ) → arc_line a (k / a.values) (k % a.values) ≡ place_line a k
place_line_lem a k = rw (div-add-mod' k a.values)

pub lines_flat : (r : Rules)
    → lines_of r ≡ each (final_line r.accepting) (from 0 r.arcs.states) ++ each (place_line r.arcs) (from 0 (r.arcs.states * r.arcs.values))
unfolding lines_of
lines_flat r =
    ap (λ (l : List Line). each (final_line r.accepting) (from 0 r.arcs.states) ++ l)
    (pairs_flat (arc_line r.arcs) r.arcs.values r.arcs.states
    ∙ each_same _ (place_line r.arcs) 0 (r.arcs.states * r.arcs.values) (λ k a b. place_line_lem r.arcs k))

-- the lines of a rule set are in order
pub rising_down : (z : Size) (m n : ℕ) (ls : List Line) → m ≤ n → Rising z n ls → Rising z m ls
rising_down z m n [] h r = tt
rising_down z m n (l ∷ ls) h r = let k : n ≤ place z l = r.1 in (r.0, omega arith, r.2)

finals_rising : (z : Size) (m next q n : ℕ) (ls : List Line) → next ≤ q → q + n ≡ z.states → Rising z z.states ls
    → Rising z next (each (final_line m) (from q n) ++ ls)
unfolding place
finals_rising z m next q zero ls h e r = rising_down z next z.states ls (omega arith) r
finals_rising z m next q (suc n) ls h e r =
    go (bit m q) (finals_rising z m (suc q) (suc q) n ls (omega arith) (omega arith) r) (finals_rising z m next (suc q) n ls (omega arith) (omega arith) r)
  where
    go : (b : Bool) → Rising z (suc q) (each (final_line m) (from (suc q) n) ++ ls) → Rising z next (each (final_line m) (from (suc q) n) ++ ls)
        → Rising z next ((cond b (final q ∷ []) [] ++ each (final_line m) (from (suc q) n)) ++ ls)
    go true x y = (omega arith, h, x)
    go false x y = y

module _ (r : Rules) (s : ℕ) (g : Sized (size_of r.arcs.states r.arcs.values s)) (w : Lawful r) where
  abbrev here : Size
  here = size_of r.arcs.states r.arcs.values s

  arcs_rising : (next i n : ℕ) → next ≤ r.arcs.states + i → i + n ≡ r.arcs.states * r.arcs.values → Rising here next (each (place_line r.arcs) (from i n))
  unfolding place
  arcs_rising next i zero h e = tt
  arcs_rising next i (suc n) h e =
      go (ltb (get_or r.arcs.targets i 0) r.arcs.states) refl
      (arcs_rising (suc (r.arcs.states + i)) (suc i) n (omega arith) (omega arith))
      (arcs_rising next (suc i) n (omega arith) (omega arith))
    where
      at : r.arcs.states + (i / r.arcs.values * r.arcs.values + i % r.arcs.values) ≡ r.arcs.states + i
      at = rw (div-add-mod' i r.arcs.values)

      cheap : get_or r.arcs.targets i 0 < r.arcs.states → get_or r.arcs.costs i 0 ≤ most_cost
      cheap l = ⊎_elim (λ x. let p : r.arcs.states ≤ most_states = g.few_states_lem in absurd (omega arith)) (λ x. x.1) (w.entry i (omega arith))

      go : (b : Bool) → ltb (get_or r.arcs.targets i 0) r.arcs.states ≡ b
          → Rising here (suc (r.arcs.states + i)) (each (place_line r.arcs) (from (suc i) n)) → Rising here next (each (place_line r.arcs) (from (suc i) n))
          → Rising here next (cond b (arc (i / r.arcs.values) (i % r.arcs.values) (get_or r.arcs.targets i 0) (get_or r.arcs.costs i 0) ∷ []) [] ++ each (place_line r.arcs) (from (suc i) n))
      go true b x y =
          let pos : 0 < r.arcs.values = g.some_values in
          let l : get_or r.arcs.targets i 0 < r.arcs.states = ltb-true _ _ b in
          (((div-lt_iff_lt-mul pos).1 (omega arith), mod-lt i pos, l, cheap l), rw at h, rw at x)
      go false b x y = y

  pub lines_rising : Rising here 0 (lines_of r)
  lines_rising =
      rw (lines_flat r)
      (finals_rising here r.accepting 0 0 r.arcs.states _ (omega arith) (omega arith)
      (arcs_rising r.arcs.states 0 (r.arcs.states * r.arcs.values) (omega arith) (omega arith)))

-- the accepting mask that the lines of a rule set name
arcs_unnamed : (a : Arcs) (u i n : ℕ) → any (names u) (each (place_line a) (from i n)) ≡ false
arcs_unnamed a u i zero = refl
arcs_unnamed a u i (suc n) = go (ltb (get_or a.targets i 0) a.states) (arcs_unnamed a u (suc i) n)
  where
    go : (b : Bool) → any (names u) (each (place_line a) (from (suc i) n)) ≡ false
        → any (names u) (cond b (arc (i / a.values) (i % a.values) (get_or a.targets i 0) (get_or a.costs i 0) ∷ []) [] ++ each (place_line a) (from (suc i) n)) ≡ false
    go true h = h
    go false h = h

finals_out : (m u q n : ℕ) → ((k : ℕ) → q ≤ k → k < q + n → u ≡ k → ⊥) → any (names u) (each (final_line m) (from q n)) ≡ false
finals_out m u q zero f = refl
finals_out m u q (suc n) f = go (bit m q) (finals_out m u (suc q) n (λ k a b. f k (omega arith) (omega arith)))
  where
    go : (b : Bool) → any (names u) (each (final_line m) (from (suc q) n)) ≡ false
        → any (names u) (cond b (final q ∷ []) [] ++ each (final_line m) (from (suc q) n)) ≡ false
    go true h = rw (ne_eqb u q (f q (omega arith) (omega arith))) h
    go false h = h

finals_in : (m u q n : ℕ) → q ≤ u → u < q + n → any (names u) (each (final_line m) (from q n)) ≡ bit m u
finals_in m u q zero a b = absurd (omega arith)
finals_in m u q (suc n) a b = go (ℕ_discrete u q) (bit m q) refl (λ h. finals_in m u (suc q) n h (omega arith))
  where
    go : Dec (u ≡ q) → (x : Bool) → bit m q ≡ x → (suc q ≤ u → any (names u) (each (final_line m) (from (suc q) n)) ≡ bit m u)
        → any (names u) (cond x (final q ∷ []) [] ++ each (final_line m) (from (suc q) n)) ≡ bit m u
    go (yes e) true x later = rw (eq-eqb u q e, e, x)
    go (yes e) false x later = finals_out m u (suc q) n (λ k c d f. omega arith) ∙ sym x ∙ ap (bit m) (sym e)
    go (no e) true x later = rw (ne_eqb u q e) (later (omega arith))
    go (no e) false x later = later (omega arith)

pub lines_accepting : (r : Rules) → r.arcs.states ≤ most_states → Lawful r → accepting_of (lines_of r) ≡ r.accepting
unfolding accepting_of
lines_accepting r h w =
    let p : 2 ^ r.arcs.states ≤ 2 ^ most_states = pow_mono h in
    let l : r.accepting < 2 ^ r.arcs.states = w.bits in
    sym (mask_is (λ u. any (names u) (lines_of r)) most_states r.accepting (omega arith) (λ u k. same u (dec_lt u r.arcs.states)))
  where
    split : (u : ℕ) → any (names u) (lines_of r) ≡ (any (names u) (each (final_line r.accepting) (from 0 r.arcs.states)) || false)
    split u =
        ap (any (names u)) (lines_flat r)
        ∙ any_append (names u) (each (final_line r.accepting) (from 0 r.arcs.states)) (each (place_line r.arcs) (from 0 (r.arcs.states * r.arcs.values)))
        ∙ ap (λ (b : Bool). any (names u) (each (final_line r.accepting) (from 0 r.arcs.states)) || b) (arcs_unnamed r.arcs u 0 (r.arcs.states * r.arcs.values))

    same : (u : ℕ) → Dec (u < r.arcs.states) → bit r.accepting u ≡ any (names u) (lines_of r)
    same u (yes l) = sym (split u ∙ or-false _ ∙ finals_in r.accepting u 0 r.arcs.states (omega arith) (omega arith))
    same u (no l) =
        bit_above r.arcs.states r.accepting u w.bits (omega arith)
        ∙ sym (split u ∙ or-false _ ∙ finals_out r.accepting u 0 r.arcs.states (λ k a b e. omega arith))

-- the lines of a rule set put its tables back
puts_finals : (v : ℕ) (f : ℕ → ℕ → ℕ) (m q n : ℕ) (ls : List Line) (t : List ℕ) → puts v f (each (final_line m) (from q n) ++ ls) t ≡ puts v f ls t
unfolding puts
puts_finals v f m q zero ls t = refl
puts_finals v f m q (suc n) ls t = go (bit m q) (puts_finals v f m (suc q) n ls t)
  where
    go : (b : Bool) → puts v f (each (final_line m) (from (suc q) n) ++ ls) t ≡ puts v f ls t
        → puts v f ((cond b (final q ∷ []) [] ++ each (final_line m) (from (suc q) n)) ++ ls) t ≡ puts v f ls t
    go true h = h
    go false h = h

-- an entry of `xs` is x where an arc is missing, and what f says where there is one
pub record Held (f : ℕ → ℕ → ℕ) (x : ℕ) (a : Arcs) (xs : List ℕ) (i : ℕ) : Type 0 where
  pub missing : a.states ≤ get_or a.targets i 0 → get_or xs i 0 ≡ x
  pub there : get_or a.targets i 0 < a.states → f (get_or a.targets i 0) (get_or a.costs i 0) ≡ get_or xs i 0

puts_arcs : (f : ℕ → ℕ → ℕ) (x : ℕ) (a : Arcs) (xs : List ℕ) (i n : ℕ) (p t : List ℕ) → length p ≡ i → i + n ≤ length xs
    → ((j : ℕ) → j < i + n → Held f x a xs j)
    → puts a.values f (each (place_line a) (from i n)) (p ++ (replicate n x ++ t)) ≡ p ++ (take n (drop i xs) ++ t)
unfolding puts
puts_arcs f x a xs i zero p t hp hx held = refl
puts_arcs f x a xs i (suc n) p t hp hx held =
    rw (drop-cons xs i 0 (omega arith))
    (go (ltb (get_or a.targets i 0) a.states) refl
    (rw (append_snoc p (get_or xs i 0) (replicate n x ++ t), append_snoc p (get_or xs i 0) (take n (drop (suc i) xs) ++ t))
    at (puts_arcs f x a xs (suc i) n (p ++ get_or xs i 0 ∷ []) t (length-append p (get_or xs i 0 ∷ []) ∙ omega arith) (omega arith) (λ j h. held j (omega arith)))))
  where
    now : Held f x a xs i
    now = held i (omega arith)

    go : (b : Bool) → ltb (get_or a.targets i 0) a.states ≡ b
        → puts a.values f (each (place_line a) (from (suc i) n)) (p ++ (get_or xs i 0 ∷ (replicate n x ++ t))) ≡ p ++ (get_or xs i 0 ∷ (take n (drop (suc i) xs) ++ t))
        → puts a.values f (cond b (arc (i / a.values) (i % a.values) (get_or a.targets i 0) (get_or a.costs i 0) ∷ []) [] ++ each (place_line a) (from (suc i) n)) (p ++ (x ∷ (replicate n x ++ t)))
        ≡ p ++ (get_or xs i 0 ∷ (take n (drop (suc i) xs) ++ t))
    go false e rec = let y : get_or xs i 0 ≡ x = now.missing (ltb-false _ _ e) in rw y (rw y at rec)
    go true e rec =
        let y : f (get_or a.targets i 0) (get_or a.costs i 0) ≡ get_or xs i 0 = now.there (ltb-true _ _ e) in
        ap (λ (l : List ℕ). puts a.values f (each (place_line a) (from (suc i) n)) l)
        (rw (div-add-mod' i a.values, set_at p x (replicate n x ++ t) (f (get_or a.targets i 0) (get_or a.costs i 0)) i hp, y))
        ∙ rec

lines_put : (f : ℕ → ℕ → ℕ) (x : ℕ) (r : Rules) (xs t : List ℕ) → r.arcs.states * r.arcs.values ≤ length xs
    → ((j : ℕ) → j < r.arcs.states * r.arcs.values → Held f x r.arcs xs j)
    → puts r.arcs.values f (lines_of r) (blank (r.arcs.states * r.arcs.values) x t)
    ≡ take (r.arcs.states * r.arcs.values) xs ++ drop (r.arcs.states * r.arcs.values) t
unfolding blank
lines_put f x r xs t h held =
    rw (lines_flat r)
    (puts_finals r.arcs.values f r.accepting 0 r.arcs.states _ _
    ∙ puts_arcs f x r.arcs xs 0 (r.arcs.states * r.arcs.values) [] (drop (r.arcs.states * r.arcs.values) t) refl (omega arith) (λ j k. held j (omega arith)))

module _ (r : Rules) (s : ℕ) (few : r.arcs.states ≤ most_states) (w : Lawful r) where
  pub lines_targets : r.arcs.states * r.arcs.values ≤ length r.arcs.targets → (xs : List ℕ)
      → targets_of (size_of r.arcs.states r.arcs.values s) (lines_of r) xs ≡ take (r.arcs.states * r.arcs.values) r.arcs.targets ++ drop (r.arcs.states * r.arcs.values) xs
  unfolding targets_of
  lines_targets h xs =
      lines_put the_target no_target r r.arcs.targets xs h
      (λ j l. record { missing = λ e. ⊎_elim (λ x. x.0) (λ x. absurd (omega arith)) (w.entry j l); there = λ e. refl })

  pub lines_costs : r.arcs.states * r.arcs.values ≤ length r.arcs.costs → (xs : List ℕ)
      → costs_of (size_of r.arcs.states r.arcs.values s) (lines_of r) xs ≡ take (r.arcs.states * r.arcs.values) r.arcs.costs ++ drop (r.arcs.states * r.arcs.values) xs
  unfolding costs_of
  lines_costs h xs =
      lines_put the_cost 0 r r.arcs.costs xs h
      (λ j l. record { missing = λ e. ⊎_elim (λ x. x.1) (λ x. absurd (omega arith)) (w.entry j l); there = λ e. refl })
