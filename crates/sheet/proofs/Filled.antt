-- The tables that lines have filled: their lines are those lines again, and they pass the checks of a rule set. Assumes nothing.
use mathlib.Core.Path.{◌≡◌, refl, ap, sym, subst, ◌∙◌}
use mathlib.Core.Logic.{inl, inr}
use mathlib.Core.Bool.{Bool, true, false, ◌||◌}
use mathlib.Core.List.{List, [], ◌∷◌, ◌++◌}
use Prim.Native.Nat.{ℕ, zero, suc, ◌+◌, ◌*◌, ◌/◌, ◌%◌, ◌^◌, ◌-◌, ◌≤◌, ◌<◌}
use native.Mathlib.Decide.{dec_lt, ℕ_discrete}
use native.Mathlib.Omega.{arith}
use lib.Arith.{digits_lt, digits_div, digits_mod}
use lib.ListN.{length, get_or, drop, set, replicate, length-append, length-set, length-replicate, length-drop, get_or-replicate, get_or-append}
use lib.Seq.{get_or-set_same, get_or-set_other}
use borrow.Author.Tests.{eq-eqb, ne_eqb, lt-ltb, le-ltb}
use Rattle.kinds.specs.Bits.{bit}
use Rattle.kinds.proofs.Bits.{bit_mask, mask_lt, mask_cut}
use Rattle.meaning.specs.Meaning.{arcs_of, rules_of}
use Rattle.meaning.specs.Lists.{from, each, any}
use Rattle.meaning.specs.Bounds.{most_states, most_cost, no_target}
use Rattle.rules.specs.Checks.{tables_right}
use Rattle.rules.proofs.Lawful.{ArcIn, lawful_right}
use Rattle.rules.specs.declared.Size.{Size}
use Rattle.sheet.specs.Lines.{Line, final, arc, place}
use Rattle.sheet.specs.Sheets.{final_line, lines_of, names, accepting_of, puts, the_target, the_cost, blank, targets_of, costs_of}
use Rattle.sheet.specs.Inner.{Sized}
use Rattle.sheet.proofs.Texts.{LineIn, Rising}
use Rattle.sheet.proofs.Tables.{place_line, lines_flat, rising_down}

-- an entry below the places of all lines stays
puts_below : (z : Size) (f : ℕ → ℕ → ℕ) (j : ℕ) (ls : List Line) (xs : List ℕ) → Rising z (z.states + suc j) ls → get_or (puts z.values f ls xs) j 0 ≡ get_or xs j 0
unfolding puts place
puts_below z f j [] xs r = refl
puts_below z f j (final q ∷ ls) xs r = let a : q < z.states = r.0 in let b : z.states + suc j ≤ q = r.1 in absurd (omega arith)
puts_below z f j (arc q v t c ∷ ls) xs r =
    let b : z.states + suc j ≤ z.states + (q * z.values + v) = r.1 in
    puts_below z f j ls (set xs (q * z.values + v) (f t c)) (rising_down z _ _ ls (omega arith) r.2)
    ∙ get_or-set_other xs (q * z.values + v) j (f t c) 0 (omega arith)

length_puts : (v : ℕ) (f : ℕ → ℕ → ℕ) (ls : List Line) (xs : List ℕ) → length (puts v f ls xs) ≡ length xs
unfolding puts
length_puts v f [] xs = refl
length_puts v f (final q ∷ ls) xs = length_puts v f ls xs
length_puts v f (arc q u t c ∷ ls) xs = length_puts v f ls (set xs (q * v + u) (f t c)) ∙ length-set xs (q * v + u) (f t c)

blank_at : (n x : ℕ) (xs : List ℕ) (j : ℕ) → j < n → get_or (blank n x xs) j 0 ≡ x
unfolding blank
blank_at n x xs j h =
    let l : length (replicate n x) ≡ n = length-replicate n x in
    get_or-append (replicate n x) (drop n xs) 0 j (omega arith) ∙ get_or-replicate n j x 0 h

length_blank : (n x : ℕ) (xs : List ℕ) → n ≤ length xs → length (blank n x xs) ≡ length xs
unfolding blank
length_blank n x xs h = simp (length-append, length-replicate, length-drop) (omega arith)

pub targets_length : (z : Size) (ls : List Line) (xs : List ℕ) → z.states * z.values ≤ length xs → length (targets_of z ls xs) ≡ length xs
unfolding targets_of
targets_length z ls xs h = length_puts z.values the_target ls (blank (z.states * z.values) no_target xs) ∙ length_blank (z.states * z.values) no_target xs h

pub costs_length : (z : Size) (ls : List Line) (xs : List ℕ) → z.states * z.values ≤ length xs → length (costs_of z ls xs) ≡ length xs
unfolding costs_of
costs_length z ls xs h = length_puts z.values the_cost ls (blank (z.states * z.values) 0 xs) ∙ length_blank (z.states * z.values) 0 xs h

-- a state below the places of all lines is not named
unnamed : (z : Size) (u : ℕ) (ls : List Line) → Rising z (suc u) ls → any (names u) ls ≡ false
unfolding place
unnamed z u [] r = refl
unnamed z u (final p ∷ ls) r =
    let h : suc u ≤ p = r.1 in
    rw (ne_eqb u p (omega arith)) (unnamed z u ls (rising_down z (suc u) _ ls (omega arith) r.2))
unnamed z u (arc p v t c ∷ ls) r =
    let h : suc u ≤ z.states + (p * z.values + v) = r.1 in
    unnamed z u ls (rising_down z (suc u) _ ls (omega arith) r.2)

module _ (z : Size) (g : Sized z) where
  pub place_top : (l : Line) → LineIn z l → place z l < z.states + z.states * z.values
  unfolding place
  place_top (final q) h = omega arith
  place_top (arc q v t c) h = let w : q * z.values + v < z.states * z.values = digits_lt h.0 h.1 in omega arith

  -- the arc lines of the tables that lines were put into
  abbrev arcs_back : List Line → List ℕ → List ℕ → ℕ → ℕ → List Line
  arcs_back ls xs ys i n = each (place_line (arcs_of z.states z.values (puts z.values the_target ls xs) (puts z.values the_cost ls ys))) (from i n)

  arcs_back_lem : (i n : ℕ) (ls : List Line) (xs ys : List ℕ) → i + n ≡ z.states * z.values → i + n ≤ length xs → i + n ≤ length ys
      → ((j : ℕ) → i ≤ j → j < i + n → get_or xs j 0 ≡ no_target) → Rising z (z.states + i) ls → arcs_back ls xs ys i n ≡ ls
  unfolding puts place
  arcs_back_lem i zero [] xs ys e a b m r = refl
  arcs_back_lem i zero (l ∷ ls) xs ys e a b m r =
      let w : place z l < z.states + z.states * z.values = place_top l r.0 in
      let x : z.states + i ≤ place z l = r.1 in
      absurd (omega arith)
  arcs_back_lem i (suc n) [] xs ys e a b m r =
      let p : z.states ≤ most_states = g.few_states_lem in
      let q : get_or xs i 0 ≡ no_target = m i (omega arith) (omega arith) in
      rw (le-ltb (get_or xs i 0) z.states (omega arith))
      (arcs_back_lem (suc i) n [] xs ys (omega arith) (omega arith) (omega arith) (λ j p q. m j (omega arith) (omega arith)) tt)
  arcs_back_lem i (suc n) (final q ∷ ls) xs ys e a b m r =
      let x : z.states + i ≤ q = r.1 in let y : q < z.states = r.0 in absurd (omega arith)
  arcs_back_lem i (suc n) (arc q v t c ∷ ls) xs ys e a b m r =
      go (dec_lt i (q * z.values + v))
      (λ h. arcs_back_lem (suc i) n (arc q v t c ∷ ls) xs ys (omega arith) (omega arith) (omega arith) (λ j p w. m j (omega arith) (omega arith)) h)
      (λ h k l o. arcs_back_lem (suc i) n ls (set xs i t) (set ys i c) (omega arith) (omega arith) (omega arith) o h)
    where
      go : Dec (i < q * z.values + v)
          → (Rising z (z.states + suc i) (arc q v t c ∷ ls) → arcs_back (arc q v t c ∷ ls) xs ys (suc i) n ≡ arc q v t c ∷ ls)
          → (Rising z (z.states + suc i) ls → i + suc n ≤ length (set xs i t) → i + suc n ≤ length (set ys i c) → ((j : ℕ) → suc i ≤ j → j < suc i + n → get_or (set xs i t) j 0 ≡ no_target)
          → arcs_back ls (set xs i t) (set ys i c) (suc i) n ≡ ls)
          → arcs_back (arc q v t c ∷ ls) xs ys i (suc n) ≡ arc q v t c ∷ ls
      go (yes h) later here =
          let rr : Rising z (z.states + suc i) (arc q v t c ∷ ls) = (r.0, omega arith, r.2) in
          let u : get_or (puts z.values the_target ls (set xs (q * z.values + v) t)) i 0 ≡ no_target = puts_below z the_target i (arc q v t c ∷ ls) xs rr ∙ m i (omega arith) (omega arith) in
          let p : z.states ≤ most_states = g.few_states_lem in
          rw (le-ltb (get_or (puts z.values the_target ls (set xs (q * z.values + v) t)) i 0) z.states (omega arith)) (later rr)
      go (no h) later here =
          let lo : z.states + i ≤ z.states + (q * z.values + v) = r.1 in
          let p : q * z.values + v ≡ i = omega arith in
          let rr : Rising z (z.states + suc i) ls = rising_down z _ _ ls (omega arith) r.2 in
          let lx : length (set xs i t) ≡ length xs = length-set xs i t in
          let ly : length (set ys i c) ≡ length ys = length-set ys i c in
          let ti : get_or (puts z.values the_target ls (set xs i t)) i 0 ≡ t = puts_below z the_target i ls (set xs i t) rr ∙ get_or-set_same xs i t 0 (omega arith) in
          let ci : get_or (puts z.values the_cost ls (set ys i c)) i 0 ≡ c = puts_below z the_cost i ls (set ys i c) rr ∙ get_or-set_same ys i c 0 (omega arith) in
          let dv : i / z.values ≡ q = ap (λ (k : ℕ). k / z.values) (sym p) ∙ digits_div q r.0.1 in
          let md : i % z.values ≡ v = ap (λ (k : ℕ). k % z.values) (sym p) ∙ digits_mod q r.0.1 in
          let tp : get_or (puts z.values the_target ls (set xs (q * z.values + v) t)) i 0 ≡ t = rw p ti in
          let cp : get_or (puts z.values the_cost ls (set ys (q * z.values + v) c)) i 0 ≡ c = rw p ci in
          let back : arcs_back ls (set xs i t) (set ys i c) (suc i) n ≡ ls = here rr (omega arith) (omega arith) (λ j a b. get_or-set_other xs i j t 0 (omega arith) ∙ m j (omega arith) (omega arith)) in
          let bp : arcs_back ls (set xs (q * z.values + v) t) (set ys (q * z.values + v) c) (suc i) n ≡ ls = subst (λ (k : ℕ). arcs_back ls (set xs k t) (set ys k c) (suc i) n ≡ ls) (sym p) back in
          rw (tp, cp, lt-ltb t z.states r.0.2, dv, md) (ap (λ (l : List Line). arc q v t c ∷ l) bp)

  module _ (xs ys : List ℕ) (hx : z.states * z.values ≤ length xs) (hy : z.states * z.values ≤ length ys)
      (none : (j : ℕ) → j < z.states * z.values → get_or xs j 0 ≡ no_target) (m : ℕ) where
    abbrev lines_back : List Line → ℕ → ℕ → List Line
    lines_back ls q n = each (final_line m) (from q n) ++ arcs_back ls xs ys 0 (z.states * z.values)

    skip : (q n : ℕ) (ls : List Line) → bit m q ≡ false → lines_back ls (suc q) n ≡ ls → lines_back ls q (suc n) ≡ ls
    skip q n ls b e = rw b e

    emit : (q n : ℕ) (ls : List Line) → bit m q ≡ true → lines_back ls (suc q) n ≡ ls → lines_back (final q ∷ ls) q (suc n) ≡ final q ∷ ls
    unfolding puts
    emit q n ls b e = rw b (ap (λ (l : List Line). final q ∷ l) e)

    -- where the mask has the bits of the states that lines name, its final lines and the tables' arc lines are those lines
    finals_back : (q n : ℕ) (ls : List Line) → q + n ≡ z.states → Rising z q ls → ((u : ℕ) → q ≤ u → u < z.states → bit m u ≡ any (names u) ls) → lines_back ls q n ≡ ls
    unfolding place
    finals_back q zero ls e r h =
        let p : q ≡ z.states + 0 = omega arith in
        arcs_back_lem 0 (z.states * z.values) ls xs ys (omega arith) (omega arith) (omega arith) (λ j a b. none j (omega arith)) (rw p at r)
    finals_back q (suc n) [] e r h =
        skip q n [] (h q (omega arith) (omega arith)) (finals_back (suc q) n [] (omega arith) tt (λ u a b. h u (omega arith) b))
    finals_back q (suc n) (arc p v t c ∷ ls) e r h =
        let rr : Rising z (suc q) (arc p v t c ∷ ls) = (r.0, omega arith, r.2) in
        skip q n (arc p v t c ∷ ls) (h q (omega arith) (omega arith) ∙ unnamed z q (arc p v t c ∷ ls) rr)
        (finals_back (suc q) n (arc p v t c ∷ ls) (omega arith) rr (λ u a b. h u (omega arith) b))
    finals_back q (suc n) (final p ∷ ls) e r h =
        go (ℕ_discrete p q) (λ rr hh. finals_back (suc q) n (final p ∷ ls) (omega arith) rr hh) (λ rr hh. finals_back (suc q) n ls (omega arith) rr hh)
      where
        go : Dec (p ≡ q)
            → (Rising z (suc q) (final p ∷ ls) → ((u : ℕ) → suc q ≤ u → u < z.states → bit m u ≡ any (names u) (final p ∷ ls)) → lines_back (final p ∷ ls) (suc q) n ≡ final p ∷ ls)
            → (Rising z (suc q) ls → ((u : ℕ) → suc q ≤ u → u < z.states → bit m u ≡ any (names u) ls) → lines_back ls (suc q) n ≡ ls)
            → lines_back (final p ∷ ls) q (suc n) ≡ final p ∷ ls
        go (no d) later here =
            let l : q ≤ p = r.1 in
            let rr : Rising z (suc q) (final p ∷ ls) = (r.0, omega arith, r.2) in
            skip q n (final p ∷ ls) (h q (omega arith) (omega arith) ∙ unnamed z q (final p ∷ ls) rr) (later rr (λ u a b. h u (omega arith) b))
        go (yes d) later here =
            let b : bit m q ≡ true = h q (omega arith) (omega arith) ∙ ap (λ (x : Bool). x || any (names q) ls) (eq-eqb q p (sym d)) in
            rw d (emit q n ls b (here (rw d at r.2) (λ u k l. h u (omega arith) l ∙ ap (λ (x : Bool). x || any (names u) ls) (ne_eqb u p (omega arith)))))

-- THE LINES OF THE RULE SET THAT LINES MAKE ARE THOSE LINES
pub lines_back_lem : (z : Size) (ls : List Line) (xs ys : List ℕ) → Sized z → Rising z 0 ls → z.states * z.values ≤ length xs → z.states * z.values ≤ length ys
    → lines_of (rules_of z.states z.values (targets_of z ls xs) (costs_of z ls ys) (accepting_of ls)) ≡ ls
unfolding targets_of costs_of
lines_back_lem z ls xs ys g r hx hy =
    let n : ℕ = z.states * z.values in
    let lx : length (blank n no_target xs) ≡ length xs = length_blank n no_target xs hx in
    let ly : length (blank n 0 ys) ≡ length ys = length_blank n 0 ys hy in
    lines_flat (rules_of z.states z.values (puts z.values the_target ls (blank n no_target xs)) (puts z.values the_cost ls (blank n 0 ys)) (accepting_of ls))
    ∙ finals_back z g (blank n no_target xs) (blank n 0 ys) (omega arith) (omega arith) (λ j h. blank_at n no_target xs j h) (accepting_of ls) 0 z.states ls (omega arith) r
    (λ u a b. unfold accepting_of in (bit_mask (λ q. any (names q) ls) most_states u (omega (arith, g.few_states_lem))))

-- WHAT LINES MAKE PASSES THE CHECKS OF A RULE SET
named_below : (z : Size) (n u : ℕ) (ls : List Line) → Rising z n ls → z.states ≤ u → any (names u) ls ≡ false
named_below z n u [] r h = refl
named_below z n u (final p ∷ ls) r h = let l : p < z.states = r.0 in rw (ne_eqb u p (omega arith)) (named_below z (suc (place z (final p))) u ls r.2 h)
named_below z n u (arc p v t c ∷ ls) r h = named_below z (suc (place z (arc p v t c))) u ls r.2 h

accepting_lt : (z : Size) (ls : List Line) → z.states ≤ most_states → Rising z 0 ls → accepting_of ls < 2 ^ z.states
unfolding accepting_of
accepting_lt z ls h r =
    let e : z.states + (most_states - z.states) ≡ most_states = omega arith in
    rw (rw e at (mask_cut (λ q. any (names q) ls) z.states (most_states - z.states) (λ u l. named_below z 0 u ls r l))) (mask_lt (λ q. any (names q) ls) z.states)

entry_set : (q k : ℕ) (xs ys : List ℕ) (p t c : ℕ) → p < length xs → p < length ys → t < q → c ≤ most_cost → ArcIn q (get_or xs k 0) (get_or ys k 0)
    → ArcIn q (get_or (set xs p t) k 0) (get_or (set ys p c) k 0)
entry_set q k xs ys p t c hx hy ht hc old = go (ℕ_discrete k p)
  where
    go : Dec (k ≡ p) → ArcIn q (get_or (set xs p t) k 0) (get_or (set ys p c) k 0)
    go (yes e) = rw (e, get_or-set_same xs p t 0 hx, get_or-set_same ys p c 0 hy) (inr (ht, hc))
    go (no e) = rw (get_or-set_other xs p k t 0 e, get_or-set_other ys p k c 0 e) old

entries : (z : Size) (n k : ℕ) (ls : List Line) (xs ys : List ℕ) → Rising z n ls → z.states * z.values ≤ length xs → z.states * z.values ≤ length ys
    → ArcIn z.states (get_or xs k 0) (get_or ys k 0) → ArcIn z.states (get_or (puts z.values the_target ls xs) k 0) (get_or (puts z.values the_cost ls ys) k 0)
unfolding puts
entries z n k [] xs ys r hx hy old = old
entries z n k (final q ∷ ls) xs ys r hx hy old = entries z (suc (place z (final q))) k ls xs ys r.2 hx hy old
entries z n k (arc q v t c ∷ ls) xs ys r hx hy old =
    let w : q * z.values + v < z.states * z.values = digits_lt r.0.0 r.0.1 in
    let lx : length (set xs (q * z.values + v) t) ≡ length xs = length-set xs (q * z.values + v) t in
    let ly : length (set ys (q * z.values + v) c) ≡ length ys = length-set ys (q * z.values + v) c in
    entries z (suc (place z (arc q v t c))) k ls (set xs (q * z.values + v) t) (set ys (q * z.values + v) c) r.2 (omega arith) (omega arith)
    (entry_set z.states k xs ys (q * z.values + v) t c (omega arith) (omega arith) r.0.2 r.0.3 old)

pub rules_back : (z : Size) (ls : List Line) (xs ys : List ℕ) → Sized z → Rising z 0 ls → z.states * z.values ≤ length xs → z.states * z.values ≤ length ys
    → tables_right z.states z.values (targets_of z ls xs) (costs_of z ls ys) (accepting_of ls) ≡ true
unfolding targets_of costs_of
rules_back z ls xs ys g r hx hy =
    let n : ℕ = z.states * z.values in
    let lx : length (blank n no_target xs) ≡ length xs = length_blank n no_target xs hx in
    let ly : length (blank n 0 ys) ≡ length ys = length_blank n 0 ys hy in
    lawful_right _ (record {
      bits = accepting_lt z ls g.few_states_lem r;
      entry = λ k h. entries z 0 k ls (blank n no_target xs) (blank n 0 ys) r (omega arith) (omega arith) (inl (blank_at n no_target xs k h, blank_at n 0 ys k h));
    })
