-- Laws for the three readers that call one another. Assumes nothing.
use mathlib.Core.Path.{◌≡◌, refl, sym, ap, ap₂, ◌∙◌, subst}
use mathlib.Core.Bool.{Bool, true, false, cond, ◌||◌}
use mathlib.Core.List.{List, ◌++◌}
use Prim.Native.Nat.{ℕ, ◌+◌, ◌-◌, ◌≤◌, ◌<◌}
use native.Mathlib.Omega.{arith}
use native.Mathlib.Nat.{add_assoc}
use lib.Dec.{eqb}
use lib.ListN.{length, get_or, drop, length-append}
use borrow.Author.Tests.{eq-eqb, ne_eqb}
use Rattle.rules.proofs.Checks.{never}
use Rattle.compositor.specs.declared.parts.Part.{Part}
use Rattle.std.proofs.Common.{Option, Some, None}
use Rattle.patterns.specs.Pattern.{Pattern, Letter, Then, Or, More, Perhaps, letters, numbered}
use Rattle.patterns.specs.Places.{null, first, last}
use Rattle.patterns.specs.Line.{most_letters, Reader, item, branch, group, Parsed, Good, Wrong, is_letter, letters_of, suffix, step, parse}
use Rattle.compositor.specs.Inner.{part_of, view_of, link_to, add_follow, Told, extended_to, suffix_part, suffix_table, then_part, or_part, letter_part, Suffixed, Joined}
use Rattle.compositor.proofs.Joining.{letters_here}
use Rattle.patterns.proofs.Reading.{parse_step, read_ahead, read_letters, letter_there, skip, eq_closed, eq_branch_join, eq_group_join}

-- a part that was told of is that of a pattern
pub record Has (k : ℕ) (got : Parsed) (before after : List ℕ) (x : Part) : Type 0 where
  pub pattern : Pattern
  pub same : got ≡ Good pattern x.at
  pub part : x ≡ part_of k pattern x.at
  pub place : x.place ≡ k + length (letters pattern)
  pub table : after ≡ add_follow (numbered k pattern) before

module _ {k : ℕ} {before after : List ℕ} {r : Option Part} where
  pub told_has : {got : Parsed} {x : Part} → Told k got before after r → r ≡ Some x → Has k got before after x
  unfolding view_of part_of
  told_has {got = Good p e} {x} t h =
      let a = t.answer in
      let z : x ≡ part_of k p e = cc in
      let i : e ≡ x.at = sym (ap (λ (y : Part). y.at) z) in
      record { pattern = p; same = ap (Good p) i; part = z ∙ ap (part_of k p) i; place = ap (λ (y : Part). y.place) z; table = t.table p e refl }
  told_has {got = Wrong} t h = let a = t.answer in never cc

  pub wrong_of : {got : Parsed} → Told k got before after r → r ≡ None → got ≡ Wrong
  unfolding view_of
  wrong_of {got = Good p e} t h = let a = t.answer in never cc
  wrong_of {got = Wrong} t h = refl

module _ {k : ℕ} {got : Parsed} {before after : List ℕ} where
  pub told_wrong : got ≡ Wrong → Told k got before after None
  unfolding view_of
  told_wrong e = record { answer = rw e; table = λ p f h. never cc }

  pub told_good : {p : Pattern} {e : ℕ} {x : Part} → got ≡ Good p e → x ≡ part_of k p e → after ≡ add_follow (numbered k p) before → Told k got before after (Some x)
  unfolding view_of
  told_good {p} h i j = record { answer = rw h (ap Some i); table = λ q f g. let z : p ≡ q = cc in rw (← z) j }

-- what stands after a letter or a group
suffix_told : {b k : ℕ} (p : Pattern) (e : ℕ) {x y : Part} {f₀ f₁ f₂ : List ℕ} {got : Parsed} → got ≡ suffix b p e → x ≡ part_of k p e → f₁ ≡ add_follow (numbered k p) f₀
    → Suffixed b x f₁ f₂ y → Told k got f₀ f₂ (Some y)
unfolding suffix suffix_part suffix_table extended_to part_of add_follow null first last
suffix_told {b} {k} p e {x} {y} {f₀} {f₁} {f₂} {got} h i j u = go (eqb b 42) (eqb b 43) (eqb b 63) h u.part u.table
  where
    linked : link_to f₁ x.last x.first most_letters ≡ link_to (add_follow (numbered k p) f₀) (last (numbered k p)) (first (numbered k p)) most_letters
    linked = rw (j, i)

    go : (s t q : Bool)
        → got ≡ cond s (Good (Perhaps (More p)) (e + 1)) (cond t (Good (More p) (e + 1)) (cond q (Good (Perhaps p) (e + 1)) (Good p e)))
        → y ≡ cond s (extended_to x (x.at + 1) true) (cond t (extended_to x (x.at + 1) x.null) (cond q (extended_to x (x.at + 1) true) x))
        → f₂ ≡ cond (s || t) (link_to f₁ x.last x.first most_letters) f₁ → Told k got f₀ f₂ (Some y)
    go true t q a c m = told_good a (c ∙ ap (λ (z : Part). extended_to z (z.at + 1) true) i) (m ∙ linked)
    go false true q a c m = told_good a (c ∙ ap (λ (z : Part). extended_to z (z.at + 1) z.null) i) (m ∙ linked)
    go false false true a c m = told_good a (c ∙ ap (λ (z : Part). extended_to z (z.at + 1) true) i) (m ∙ j)
    go false false false a c m = told_good a (c ∙ i) (m ∙ j)

module _ (s : List ℕ) (at d : ℕ) where
  pub item_letter : {k : ℕ} {f₀ f₂ : List ℕ} {z y : Part} → is_letter (get_or s at 0) ≡ true → z ≡ letter_part k (at + 1) → Suffixed (get_or s z.at 0) z f₀ f₂ y
      → Told k (parse item s at d) f₀ f₂ (Some y)
  unfolding step part_of letter_part add_follow null first last
  item_letter {f₀ = f₀} {f₂} {z} {y} h e u =
      suffix_told (Letter (get_or s at 0 - 97)) (at + 1) (parse_step item s at d ∙ rw h) e refl (subst (λ (n : ℕ). Suffixed (get_or s n 0) z f₀ f₂ y) (ap (λ (q : Part). q.at) e) u)

  pub item_other : is_letter (get_or s at 0) ≡ false → (get_or s at 0 ≡ 40 → ⊥) → parse item s at d ≡ Wrong
  unfolding step
  item_other h n = parse_step item s at d ∙ rw (h, ne_eqb (get_or s at 0) 40 n)

  module _ (h : is_letter (get_or s at 0) ≡ false) (o : get_or s at 0 ≡ 40) where
    pub item_deep : d ≡ 0 → parse item s at d ≡ Wrong
    unfolding step
    item_deep z = parse_step item s at d ∙ rw (h, eq-eqb (get_or s at 0) 40 o, eq-eqb d 0 z)

    pub item_none : (d ≡ 0 → ⊥) → parse group s (at + 1) (d - 1) ≡ Wrong → parse item s at d ≡ Wrong
    unfolding step
    item_none n e = parse_step item s at d ∙ rw (h, eq-eqb (get_or s at 0) 40 o, ne_eqb d 0 n, e)

    pub item_closed : {k : ℕ} {f₀ f₁ f₂ : List ℕ} {r : Option Part} {x z y : Part} → (d ≡ 0 → ⊥) → Told k (parse group s (at + 1) (d - 1)) f₀ f₁ r → r ≡ Some x → get_or s x.at 0 ≡ 41
        → z ≡ extended_to x (x.at + 1) x.null → Suffixed (get_or s z.at 0) z f₁ f₂ y → Told k (parse item s at d) f₀ f₂ (Some y)
    unfolding extended_to part_of
    item_closed {f₁ = f₁} {f₂} {x = x} {z} {y} n t e c g u =
        let a = told_has t e in
        suffix_told a.pattern (x.at + 1) (eq_closed s at d a.pattern x.at h o n a.same c) (g ∙ ap (λ (q : Part). extended_to q (x.at + 1) q.null) a.part) a.table
        (subst (λ (q : ℕ). Suffixed (get_or s q 0) z f₁ f₂ y) (ap (λ (q : Part). q.at) g) u)

-- branches and whole patterns: no part is read
module _ (s : List ℕ) (at d : ℕ) where
  pub branch_none : parse item s at d ≡ Wrong → parse branch s at d ≡ Wrong
  unfolding step
  branch_none e = parse_step branch s at d ∙ rw e

  pub group_none : parse branch s at d ≡ Wrong → parse group s at d ≡ Wrong
  unfolding step
  group_none e = parse_step group s at d ∙ rw e

-- one part is read
module _ {k : ℕ} {got all : Parsed} {f₀ f₁ : List ℕ} {r : Option Part} {x : Part} (t : Told k got f₀ f₁ r) (e : r ≡ Some x) where
  pub one_alone : ((p : Pattern) → got ≡ Good p x.at → all ≡ Good p x.at) → Told k all f₀ f₁ (Some x)
  one_alone h = let a = told_has t e in told_good (h a.pattern a.same) a.part a.table

  pub one_wrong : {f₂ : List ℕ} → ((p : Pattern) → got ≡ Good p x.at → all ≡ Wrong) → Told k all f₀ f₂ None
  one_wrong h = let a = told_has t e in told_wrong (h a.pattern a.same)

-- two parts are read
record Two (k : ℕ) (got rest : Parsed) (f₀ f₂ : List ℕ) (x y : Part) : Type 0 where
  pub one : Pattern
  pub other : Pattern
  pub one_same : got ≡ Good one x.at
  pub other_same : rest ≡ Good other y.at
  pub one_part : x ≡ part_of k one x.at
  pub other_part : y ≡ part_of (k + length (letters one)) other y.at
  pub table : f₂ ≡ add_follow (numbered (k + length (letters one)) other) (add_follow (numbered k one) f₀)

two : {k : ℕ} {got rest : Parsed} {f₀ f₁ f₂ : List ℕ} {r r' : Option Part} {x y : Part} → Told k got f₀ f₁ r → r ≡ Some x → Told x.place rest f₁ f₂ r' → r' ≡ Some y
    → Two k got rest f₀ f₂ x y
two {f₁ = f₁} {y = y} t e t' g =
    let a = told_has t e in
    let b = told_has t' g in
    record {
      one = a.pattern;
      other = b.pattern;
      one_same = a.same;
      other_same = b.same;
      one_part = a.part;
      other_part = b.part ∙ ap (λ (n : ℕ). part_of n b.pattern y.at) a.place;
      table = b.table ∙ ap₂ (λ (n : ℕ) (fs : List ℕ). add_follow (numbered n b.pattern) fs) a.place a.table;
    }

place_of : (k : ℕ) (p q : Pattern) → k + length (letters p) + length (letters q) ≡ k + length (letters p ++ letters q)
place_of k p q = rw (length-append) (add_assoc k (length (letters p)) (length (letters q)))

module _ (s : List ℕ) (at d : ℕ) {k : ℕ} {f₀ f₁ f₂ : List ℕ} {r r' : Option Part} {x y z : Part} where
  pub branch_join : {f₃ : List ℕ} → Told k (parse item s at d) f₀ f₁ r → r ≡ Some x → (is_letter (get_or s x.at 0) || eqb (get_or s x.at 0) 40) ≡ true
      → Told x.place (parse branch s x.at d) f₁ f₂ r' → r' ≡ Some y → Joined x y f₂ f₃ z → Told k (parse branch s at d) f₀ f₃ (Some z)
  unfolding then_part part_of add_follow null first last
  branch_join t e h t' g u =
      let a = two t e t' g in
      told_good {p = Then a.one a.other} (eq_branch_join s at d a.one x.at a.one_same a.other y.at h a.other_same)
      (u.part ∙ ap₂ then_part a.one_part a.other_part ∙ rw (place_of k a.one a.other))
      (u.table ∙ ap₂ (λ (v w : Part). link_to f₂ v.last w.first most_letters) a.one_part a.other_part
      ∙ ap (λ (fs : List ℕ). link_to fs (last (numbered k a.one)) (first (numbered (k + length (letters a.one)) a.other)) most_letters) a.table)

  pub group_join : Told k (parse branch s at d) f₀ f₁ r → r ≡ Some x → get_or s x.at 0 ≡ 124 → Told x.place (parse group s (x.at + 1) d) f₁ f₂ r' → r' ≡ Some y
      → z ≡ or_part x y → Told k (parse group s at d) f₀ f₂ (Some z)
  unfolding or_part part_of add_follow null first last
  group_join t e h t' g u =
      let a = two t e t' g in
      told_good {p = Or a.one a.other} (eq_group_join s at d a.one x.at a.one_same a.other y.at h a.other_same)
      (u ∙ ap₂ or_part a.one_part a.other_part ∙ rw (place_of k a.one a.other)) a.table

-- where a reader stops, and the room for the letters that are left
pub record Room (s : List ℕ) (at : ℕ) (x : Part) : Type 0 where
  pub ahead : at < x.at
  pub inside : x.at ≤ length s
  pub letters : x.place + length (letters_of (drop x.at s)) ≤ most_letters

pub room : (w : Reader) (s : List ℕ) (at d : ℕ) {k : ℕ} {f₀ f₁ : List ℕ} {r : Option Part} {x : Part} → k + length (letters_of (drop at s)) ≤ most_letters
    → Told k (parse w s at d) f₀ f₁ r → r ≡ Some x → Room s at x
room w s at d {x = x} h t e =
    let a = told_has t e in
    let j = a.place in
    let l = ap length (read_letters w s at d a.pattern x.at a.same) ∙ length-append (letters a.pattern) (letters_of (drop x.at s)) in
    let b = read_ahead w s at d a.pattern x.at a.same in
    record { ahead = b.0; inside = b.1; letters = omega arith }

pub past : (s : List ℕ) (e b k : ℕ) → 0 < b → is_letter b ≡ false → get_or s e 0 ≡ b → k + length (letters_of (drop e s)) ≤ most_letters
    → k + length (letters_of (drop (e + 1) s)) ≤ most_letters
past s e b k p n h l = let q = ap length (skip s e b p n (eq-eqb (get_or s e 0) b h)) in omega arith

pub letter_room : (s : List ℕ) (at k : ℕ) → is_letter (get_or s at 0) ≡ true → k + length (letters_of (drop at s)) ≤ most_letters → k < most_letters
letter_room s at k h l = let q = ap length (letters_here s at true (letter_there s at h) h) in omega arith
