-- Laws of the letters of a line. Assumes nothing.
use mathlib.Core.Path.{◌≡◌, refl, sym, ap, ◌∙◌}
use mathlib.Core.Bool.{Bool, true, false, cond, ◌&&◌, and-false, false≢true}
use mathlib.Core.List.{List, [], ◌∷◌}
use Prim.Native.Nat.{ℕ, suc, ◌+◌, ◌-◌, ◌*◌, ◌%◌, ◌^◌, ◌≤◌, ◌<◌}
use native.Mathlib.Omega.{arith}
use native.Mathlib.Decide.{ℕ_discrete}
use native.Mathlib.Numerals.{add-one}
use lib.Bits.{bit_or}
use lib.Dec.{eqb, leb, ltb}
use lib.ListN.{length, get_or, set, drop, replicate, length-set, length-drop, drop_of_length-le}
use lib.Seq.{drop-cons, get_or-set_same, get_or-set_other}
use borrow.Author.Tests.{leb-true, le-leb, lt-leb, ltb-true, ltb-false, lt-ltb, eq-eqb, ne_eqb}
use Rattle.kinds.specs.Bits.{mask_of}
use Rattle.kinds.proofs.Bits.{shl_one, mask_more, mask_skip}
use Rattle.meaning.specs.Bounds.{most_values}
use Rattle.meaning.specs.Lists.{all}
use Rattle.rules.proofs.Checks.{both}
use Rattle.patterns.specs.Line.{most_letters, is_letter, letters_of, letters_right}
use Rattle.patterns.specs.Places.{places_of}
use Rattle.compositor.specs.Inner.{letter_fits, Noted, Marked}
use Rattle.compositor.proofs.Joining.{letters_here}
use Rattle.compositor.proofs.Tables.{zeros}

no_true : {A : Type 0} → false ≡ true → A
no_true z = absurd (false≢true z)

pub record Range (b : ℕ) : Type 0 where
  pub low : 97 ≤ b
  pub high : b ≤ 112

pub letter_range : (b : ℕ) → is_letter b ≡ true → Range b
unfolding is_letter
letter_range b h = let p = both (leb 97 b) _ h in record { low = leb-true _ _ p.0; high = leb-true _ _ p.1 }

-- whether a byte fits
module _ (vs k b : ℕ) where
  pub record Fits : Type 0 where
    pub below : b - 97 < vs
    pub room : k < most_letters

  pub fits_of : letter_fits vs k b ≡ true → is_letter b ≡ true → Fits
  unfolding letter_fits
  fits_of h l =
      let p = both (ltb (b - 97) vs) _ (rw l at h) in
      record { below = ltb-true _ _ p.0; room = ltb-true _ _ p.1 }

-- what fits V fits 16
pub fits_wide : (vs k b : ℕ) → vs ≤ most_values → letter_fits vs k b ≡ true → letter_fits most_values k b ≡ true
unfolding letter_fits
fits_wide vs k b w h = go (is_letter b) refl
  where
    go : (x : Bool) → is_letter b ≡ x → cond x (ltb (b - 97) most_values && ltb k most_letters) true ≡ true
    go true e = let f = fits_of vs k b h e in let l = f.below in rw (lt-ltb (b - 97) most_values (omega arith), lt-ltb k most_letters f.room)
    go false e = refl

-- one byte noted
module _ (b k : ℕ) (t : List ℕ) where
  pub noted_other : is_letter b ≡ false → Noted b k t t k
  noted_other h =
      record { other = λ e. (refl, refl); letter = λ e. no_true (sym h ∙ e) }

  pub noted_letter : k < most_letters → is_letter b ≡ true → Noted b k t (set t (b - 97) (bit_or (get_or t (b - 97) 0) (1 * 2 ^ k % 2 ^ 32))) (k + 1)
  noted_letter l h =
      record {
        other = λ e. no_true (sym e ∙ h);
        letter = λ e. (refl, ap (λ (x : ℕ). set t (b - 97) (bit_or (get_or t (b - 97) 0) x)) (shl_one 32 k l));
      }

-- the line's first i bytes are noted, and k letters are among them
module _ (vs : ℕ) (s : List ℕ) where
  pub record Noting (i k : ℕ) (marks : List ℕ) : Type 0 where
    pub few : k ≤ most_letters
    pub inside : k ≤ length (letters_of s)
    pub rest : drop k (letters_of s) ≡ letters_of (drop i s)
    pub fit : all (λ v. ltb v vs) (letters_of s) ≡ all (λ v. ltb v vs) (letters_of (drop i s))
    pub long : length marks ≡ most_values
    pub places : (v : ℕ) → get_or marks v 0 ≡ mask_of (λ j. eqb (get_or (letters_of s) j 0) v) k

  pub noting_start : Noting 0 0 (replicate most_values 0)
  unfolding mask_of
  noting_start =
      record {
        few = omega arith;
        inside = omega arith;
        rest = refl;
        fit = refl;
        long = refl;
        places = λ v. zeros most_values v;
      }

  -- the next letter is letter k
  record Next (i k : ℕ) : Type 0 where
    pub inside : k < length (letters_of s)
    pub is : get_or (letters_of s) k 0 ≡ get_or s i 0 - 97
    pub rest : drop (k + 1) (letters_of s) ≡ letters_of (drop (i + 1) s)

  next_letter : (i k : ℕ) (marks : List ℕ) → i < length s → is_letter (get_or s i 0) ≡ true → Noting i k marks → Next i k
  next_letter i k marks h e n =
      let c : drop k (letters_of s) ≡ (get_or s i 0 - 97) ∷ letters_of (drop (i + 1) s) = n.rest ∙ letters_here s i true h e in
      let a = length-drop k (letters_of s) in
      let b = ap length c in
      let l : k < length (letters_of s) = omega arith in
      let d : get_or (letters_of s) k 0 ∷ drop (suc k) (letters_of s) ≡ (get_or s i 0 - 97) ∷ letters_of (drop (i + 1) s) = sym (drop-cons (letters_of s) k 0 l) ∙ c in
      record { inside = l; is = cc; rest = ap (λ (j : ℕ). drop j (letters_of s)) (add-one k) ∙ cc }

  pub noting_on : (i k : ℕ) (marks marks' : List ℕ) (r : ℕ) → vs ≤ most_values → i < length s → letter_fits vs k (get_or s i 0) ≡ true → Noting i k marks
      → Noted (get_or s i 0) k marks marks' r → Noting (i + 1) r marks'
  noting_on i k marks marks' r w h f n d = go (is_letter (get_or s i 0)) refl
    where
      go : (x : Bool) → is_letter (get_or s i 0) ≡ x → Noting (i + 1) r marks'
      go true e =
          let g = fits_of vs k (get_or s i 0) f e in
          let b = g.below in
          let o = g.room in
          let m = next_letter i k marks h e n in
          let y = d.letter e in
          let z = y.0 in
          let j = m.inside in
          record {
            few = omega arith;
            inside = omega arith;
            rest = ap (λ (j : ℕ). drop j (letters_of s)) z ∙ m.rest;
            fit =
                n.fit ∙ ap (all (λ v. ltb v vs)) (letters_here s i true h e)
                ∙ ap (λ (x : Bool). x && all (λ v. ltb v vs) (letters_of (drop (i + 1) s))) (lt-ltb (get_or s i 0 - 97) vs b);
            long = ap length y.1 ∙ length-set marks _ _ ∙ n.long;
            places = λ v.
                ap (λ (l : List ℕ). get_or l v 0) y.1
                ∙ at v m.is n.long b n.places
                ∙ ap (mask_of (λ j. eqb (get_or (letters_of s) j 0) v)) (sym (z ∙ add-one k));
          }
        where
          at : (v : ℕ) → get_or (letters_of s) k 0 ≡ get_or s i 0 - 97 → length marks ≡ most_values → get_or s i 0 - 97 < vs
              → ((v : ℕ) → get_or marks v 0 ≡ mask_of (λ j. eqb (get_or (letters_of s) j 0) v) k)
              → get_or (set marks (get_or s i 0 - 97) (bit_or (get_or marks (get_or s i 0 - 97) 0) (2 ^ k))) v 0 ≡ mask_of (λ j. eqb (get_or (letters_of s) j 0) v) (suc k)
          at v is long b places = side (ℕ_discrete v (get_or s i 0 - 97))
            where
              side : Dec (v ≡ get_or s i 0 - 97)
                  → get_or (set marks (get_or s i 0 - 97) (bit_or (get_or marks (get_or s i 0 - 97) 0) (2 ^ k))) v 0 ≡ mask_of (λ j. eqb (get_or (letters_of s) j 0) v) (suc k)
              side (yes q) =
                  ap (λ (u : ℕ). get_or (set marks (get_or s i 0 - 97) (bit_or (get_or marks (get_or s i 0 - 97) 0) (2 ^ k))) u 0) q
                  ∙ get_or-set_same marks (get_or s i 0 - 97) (bit_or (get_or marks (get_or s i 0 - 97) 0) (2 ^ k)) 0 (omega arith)
                  ∙ mask_more (λ j. eqb (get_or (letters_of s) j 0) v) k (get_or marks (get_or s i 0 - 97) 0)
                  (ap (λ (u : ℕ). get_or marks u 0) (sym q) ∙ places v) (eq-eqb (get_or (letters_of s) k 0) v (is ∙ sym q))
              side (no q) =
                  get_or-set_other marks (get_or s i 0 - 97) v (bit_or (get_or marks (get_or s i 0 - 97) 0) (2 ^ k)) 0 q
                  ∙ places v
                  ∙ sym (mask_skip (λ j. eqb (get_or (letters_of s) j 0) v) k (ne_eqb (get_or (letters_of s) k 0) v (λ z. q (sym z ∙ is))))
      go false e =
          let y = d.other e in
          record {
            few = rw y.0 n.few;
            inside = rw y.0 n.inside;
            rest = ap (λ (j : ℕ). drop j (letters_of s)) y.0 ∙ n.rest ∙ letters_here s i false h e;
            fit = n.fit ∙ ap (all (λ v. ltb v vs)) (letters_here s i false h e);
            long = ap length y.1 ∙ n.long;
            places = λ v. ap (λ (l : List ℕ). get_or l v 0) y.1 ∙ n.places v ∙ ap (mask_of (λ j. eqb (get_or (letters_of s) j 0) v)) (sym y.0);
          }

  pub noting_fails : (i k : ℕ) (marks : List ℕ) → i < length s → letter_fits vs k (get_or s i 0) ≡ false → Noting i k marks → letters_right vs (letters_of s) ≡ false
  unfolding letter_fits letters_right
  noting_fails i k marks h f n = sym (go (is_letter (get_or s i 0)) refl f)
    where
      go : (x : Bool) → is_letter (get_or s i 0) ≡ x → cond x (ltb (get_or s i 0 - 97) vs && ltb k most_letters) true ≡ false
          → false ≡ (leb (length (letters_of s)) most_letters && all (λ v. ltb v vs) (letters_of s))
      go false e g = no_true (sym g)
      go true e g = side (ltb (get_or s i 0 - 97) vs) refl g
        where
          side : (y : Bool) → ltb (get_or s i 0 - 97) vs ≡ y → (y && ltb k most_letters) ≡ false
              → false ≡ (leb (length (letters_of s)) most_letters && all (λ v. ltb v vs) (letters_of s))
          side true a g = let m = next_letter i k marks h e n in let j = m.inside in rw (lt-leb (length (letters_of s)) most_letters (omega (arith, ltb-false k most_letters g)))
          side false a g = rw (n.fit, letters_here s i true h e, a) (sym (and-false (leb (length (letters_of s)) most_letters)))

  pub noting_ends : (i k : ℕ) (marks : List ℕ) → length s ≤ i → Noting i k marks → Marked vs (letters_of s) marks
  unfolding letters_right places_of letters_of
  noting_ends i k marks h n =
      let c : drop k (letters_of s) ≡ [] = n.rest ∙ ap letters_of (drop_of_length-le s {i = i} h) in
      let a = length-drop k (letters_of s) in
      let b = ap length c in
      let l = n.inside in
      let o = n.few in
      let e : k ≡ length (letters_of s) = omega arith in
      record {
        right = rw (le-leb (length (letters_of s)) most_letters (omega arith)) ((n.fit ∙ ap (λ (x : List ℕ). all (λ v. ltb v vs) (letters_of x)) (drop_of_length-le s {i = i} h)));
        places = λ v. n.places v ∙ ap (mask_of (λ j. eqb (get_or (letters_of s) j 0) v)) e;
      }
