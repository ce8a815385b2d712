-- The cut at the first empty line, byte by byte. Assumes nothing.
use mathlib.Core.Path.{◌≡◌, refl, sym, ap, ◌∙◌}
use mathlib.Core.Bool.{Bool, true, false, ◌&&◌}
use mathlib.Core.Logic.{◌⊎◌, inl, inr}
use mathlib.Core.List.{List, [], ◌∷◌, ◌++◌, append-nil, append_assoc}
use Prim.Native.Nat.{ℕ, suc, ◌+◌, ◌≤◌, ◌<◌}
use native.Mathlib.Numerals.{add-one}
use native.Mathlib.Omega.{arith}
use lib.Dec.{eqb}
use borrow.Author.Tests.{eq-eqb, ne_eqb}
use denote.Enum.Bare.{sameb}
use Rattle.std.specs.Prelude.{None, Some}
use lib.ListN.{length, get_or, take, drop, drop_of_length-le}
use lib.Seq.{drop-cons, take-suc, take_all, take-length}
use Rattle.text.specs.Bytes.{feed, sort_of}
use Rattle.text.specs.contracts.bytes.Sort.{the_type}
use Rattle.text.specs.declared.bytes.Sort.{Sort}
use Rattle.text.specs.declared.bytes.Sort.TheVariants.{Feed}
use Rattle.text.proofs.Scans.{feed_sort, sort_feed, sort_same, sort_other}
use Rattle.job.specs.Input.{before, parted, after}
use Rattle.job.specs.Inner.{CutAt}

-- at the empty line, and at any other byte
module _ (start : Bool) (b : ℕ) (s : List ℕ) (e : (start && eqb b feed) ≡ true) where
  before_stop : before start (b ∷ s) ≡ []
  unfolding before
  before_stop = rw e

  parted_stop : parted start (b ∷ s) ≡ true
  unfolding parted
  parted_stop = rw e

  after_stop : after start (b ∷ s) ≡ s
  unfolding after
  after_stop = rw e

module _ (start : Bool) (b : ℕ) (s : List ℕ) (e : (start && eqb b feed) ≡ false) where
  before_on : before start (b ∷ s) ≡ b ∷ before (eqb b feed) s
  unfolding before
  before_on = rw e

  parted_on : parted start (b ∷ s) ≡ parted (eqb b feed) s
  unfolding parted
  parted_on = rw e

  after_on : after start (b ∷ s) ≡ after (eqb b feed) s
  unfolding after
  after_on = rw e

-- whether a byte is a line feed, by its sort
feed_test : (b : ℕ) (x : Sort) (r : Bool) → x ≡ sort_of b → r ≡ sameb the_type x Feed → r ≡ eqb b feed
feed_test b x true s e = sym (eq-eqb b feed (feed_sort b (sort_same b x Feed true s e refl)))
feed_test b x false s e = sym (ne_eqb b feed (λ d. sort_other b x Feed false s e refl (sym (sort_feed b d))))

-- the two tests of a line feed at the start of a line, where one fails
pub not_both : {a b : Bool} → ((a ≡ true) × (b ≡ false)) ⊎ (a ≡ false) → (a && b) ≡ false
not_both (inl w) = rw (w.0, w.1)
not_both (inr e) = rw e

-- what is left to cut at byte i, where a line starts there or not
pub record Left (s : List ℕ) (i : ℕ) (start : Bool) : Type 0 where
  pub inside : i ≤ length s
  pub finds : parted true s ≡ parted start (drop i s)
  pub sheet : before true s ≡ take i s ++ before start (drop i s)
  pub job : after true s ≡ after start (drop i s)

pub left_all : (s : List ℕ) → Left s 0 true
left_all s = record { inside = omega arith; finds = refl; sheet = refl; job = refl }

module _ (s : List ℕ) (i : ℕ) (start : Bool) (l : Left s i start) where
  -- the empty line
  pub left_here : i < length s → (x : Sort) (r : Bool) → x ≡ sort_of (get_or s i 0) → r ≡ sameb the_type x Feed → (start && r) ≡ true → CutAt s i (Some (i + 1))
  left_here h x r k m f = let e : (start && eqb (get_or s i 0) feed) ≡ true = rw (feed_test _ x r k m) at f in record {
    inside = omega arith;
    sheet_is = sym (l.sheet ∙ (ap (λ (x : List ℕ). take i s ++ before start x) (drop-cons s i 0 h) ∙ (ap (λ (x : List ℕ). take i s ++ x) (before_stop start _ _ e) ∙ append-nil (take i s))));
    job_is = (
      omega arith,
      sym (l.finds ∙ (ap (parted start) (drop-cons s i 0 h) ∙ parted_stop start _ _ e)),
      sym (l.job ∙ (ap (after start) (drop-cons s i 0 h) ∙ (after_stop start _ _ e ∙ ap (λ (k : ℕ). drop k s) (sym (add-one i))))),
    );
  }

  -- any other byte
  left_on : i < length s → (start && eqb (get_or s i 0) feed) ≡ false → Left s (i + 1) (eqb (get_or s i 0) feed)
  left_on h e = record {
    inside = omega arith;
    finds = l.finds ∙ (ap (parted start) (drop-cons s i 0 h) ∙ (parted_on start _ _ e ∙ ap (λ (k : ℕ). parted (eqb (get_or s i 0) feed) (drop k s)) (sym (add-one i))));
    sheet = l.sheet ∙ (ap (λ (x : List ℕ). take i s ++ before start x) (drop-cons s i 0 h) ∙ (ap (λ (x : List ℕ). take i s ++ x) (before_on start _ _ e) ∙ more));
    job = l.job ∙ (ap (after start) (drop-cons s i 0 h) ∙ (after_on start _ _ e ∙ ap (λ (k : ℕ). after (eqb (get_or s i 0) feed) (drop k s)) (sym (add-one i))));
  }
    where
      more : take i s ++ (get_or s i 0 ∷ before (eqb (get_or s i 0) feed) (drop (suc i) s)) ≡ take (i + 1) s ++ before (eqb (get_or s i 0) feed) (drop (i + 1) s)
      more = rw (add-one i, take-suc s i 0) (sym (append_assoc (take i s) (get_or s i 0 ∷ []) _))

  pub left_more : i < length s → (x : Sort) (r : Bool) → x ≡ sort_of (get_or s i 0) → r ≡ sameb the_type x Feed → (start && r) ≡ false → Left s (i + 1) r
  left_more h x r k m f = let d = feed_test _ x r k m in rw d (left_on h (rw d at f))

  -- the end of the input
  pub left_none : length s ≤ i → CutAt s (length s) None
  unfolding before parted after
  left_none h = record {
    inside = omega arith;
    sheet_is = take-length s ∙ (sym (take_all i s h) ∙ sym (l.sheet ∙ (ap (λ (x : List ℕ). take i s ++ before start x) (drop_of_length-le s {i = i} h) ∙ append-nil (take i s))));
    job_is = sym (l.finds ∙ ap (parted start) (drop_of_length-le s {i = i} h));
  }
