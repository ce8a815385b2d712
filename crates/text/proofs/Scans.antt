-- Laws of what the reader meets at a place of a line: the sorts of bytes, runs of digits, numbers and words. Assumes nothing.
use mathlib.Core.Path.{◌≡◌, refl, ap, sym, ◌∙◌, subst}
use mathlib.Core.Logic.{◌⊎◌, ⊎_elim}
use mathlib.Core.Bool.{Bool, true, false, cond, not, ◌&&◌}
use mathlib.Core.List.{List, [], ◌∷◌, ◌++◌}
use Prim.Native.Nat.{ℕ, suc, ◌+◌, ◌-◌, ◌*◌, ◌≤◌, ◌<◌, min}
use native.Mathlib.Numerals.{add-one}
use native.Mathlib.Omega.{arith}
use Rattle.std.proofs.Common.{rules}
use Rattle.std.proofs.lemmas.Grind.{common_steps}
use lib.Dec.{leb, eqb}
use lib.ListN.{length, get_or, drop, length-append, length-drop, drop_of_length-le}
use lib.Seq.{drop-cons, drop-length}
use denote.Enum.Bare.{Bare, sameb, same_true, same_false, differs_true, differs_false}
use borrow.Author.Tests.{le-leb, lt-leb, eq-eqb, ne_eqb}
use Rattle.std.specs.Prelude.{Result, Ok, Err}
use Rattle.text.specs.Bytes.{tab, feed, nought, is_digit, is_small, sort_of}
use Rattle.text.specs.Numbers.{digits, past, value, plain, field_end, Field, number, malformed, outside, read_number, tabbed, number_view, number_in, NumberAt}
use Rattle.text.specs.Lines.{rest, other, strip_word, strip_view}
use Rattle.text.specs.Inner.{Ended, RunAt}
use Rattle.text.specs.contracts.bytes.Sort.{the_type}
use Rattle.text.specs.declared.bytes.Sort.{Sort}
use Rattle.text.specs.declared.bytes.Sort.TheVariants.{Digit, Tab, Feed, Small}
use Rattle.text.specs.declared.numbers.Number.{Number}
use Rattle.text.specs.declared.numbers.NumberFault.{NumberFault}
use Rattle.text.specs.declared.numbers.NumberFault.TheVariants.{Malformed, Outside}
use Rattle.text.proofs.Decimals.{digits_past}

pub sort_tab : (b : ℕ) → b ≡ 9 → Tab ≡ sort_of b
unfolding sort_of
sort_tab b h = rw h

pub sort_feed : (b : ℕ) → b ≡ 10 → Feed ≡ sort_of b
unfolding sort_of
sort_feed b h = rw h

-- a byte sorted as a digit is one, and so on
pub digit_sort : (b : ℕ) → sort_of b ≡ Digit → (48 ≤ b) × (b ≤ 57)
unfolding sort_of
digit_sort b e = grind (arith, common_steps)

pub tab_sort : (b : ℕ) → sort_of b ≡ Tab → b ≡ tab
unfolding sort_of
tab_sort b e = grind (arith, common_steps)

pub feed_sort : (b : ℕ) → sort_of b ≡ Feed → b ≡ feed
unfolding sort_of
feed_sort b e = grind (arith, common_steps)

pub not_digit_sort : (b : ℕ) → (sort_of b ≡ Digit → ⊥) → is_digit b ≡ false
unfolding sort_of
not_digit_sort b e = grind (arith, common_steps)

pub small_sort : (b : ℕ) → sort_of b ≡ Small → is_small b ≡ true
unfolding sort_of
small_sort b e = grind (arith, common_steps)

pub not_small_sort : (b : ℕ) → (sort_of b ≡ Small → ⊥) → is_small b ≡ false
unfolding sort_of
not_small_sort b n = grind (arith, common_steps)

-- what the code learns of a byte by asking whether its sort is another
bare_sort : Bare the_type.parts
bare_sort = search rules

pub sort_is : (b : ℕ) (x y : Sort) (r : Bool) → x ≡ sort_of b → r ≡ not (sameb the_type x y) → r ≡ false → sort_of b ≡ y
sort_is b x y r s e h = sym s ∙ differs_false the_type bare_sort x y (sym e ∙ h)

pub sort_not : (b : ℕ) (x y : Sort) (r : Bool) → x ≡ sort_of b → r ≡ not (sameb the_type x y) → r ≡ true → sort_of b ≡ y → ⊥
sort_not b x y r s e h i = differs_true the_type x y (sym e ∙ h) (s ∙ i)

pub sort_same : (b : ℕ) (x y : Sort) (r : Bool) → x ≡ sort_of b → r ≡ sameb the_type x y → r ≡ true → sort_of b ≡ y
sort_same b x y r s e h = sym s ∙ same_true the_type bare_sort x y (sym e ∙ h)

pub sort_other : (b : ℕ) (x y : Sort) (r : Bool) → x ≡ sort_of b → r ≡ sameb the_type x y → r ≡ false → sort_of b ≡ y → ⊥
sort_other b x y r s e h i = same_false the_type x y (sym e ∙ h) (s ∙ i)

-- digits and what follows them, at a place
digits_in : (s : List ℕ) (i : ℕ) → i < length s → 48 ≤ get_or s i 0 → get_or s i 0 ≤ 57 → digits (drop i s) ≡ get_or s i 0 ∷ digits (drop (i + 1) s)
unfolding digits
digits_in s i h a b = rw (add-one, drop-cons s i 0 h, le-leb 48 (get_or s i 0) a, le-leb (get_or s i 0) 57 b)

past_in : (s : List ℕ) (i : ℕ) → i < length s → 48 ≤ get_or s i 0 → get_or s i 0 ≤ 57 → past (drop i s) ≡ past (drop (i + 1) s)
unfolding past
past_in s i h a b = rw (add-one, drop-cons s i 0 h, le-leb 48 (get_or s i 0) a, le-leb (get_or s i 0) 57 b)

digits_stop : (s : List ℕ) (i : ℕ) → i < length s → is_digit (get_or s i 0) ≡ false → digits (drop i s) ≡ []
unfolding digits
digits_stop s i h e = rw (drop-cons s i 0 h, e)

past_stop : (s : List ℕ) (i : ℕ) → i < length s → is_digit (get_or s i 0) ≡ false → past (drop i s) ≡ drop i s
unfolding past
past_stop s i h e = rw (drop-cons s i 0 h, e)

value_ge : (a : ℕ) (ds : List ℕ) → a ≤ value a ds
unfolding value
value_ge a [] = omega arith
value_ge a (d ∷ ds) = let h : a * 10 + (d - 48) ≤ value (a * 10 + (d - 48)) ds = value_ge (a * 10 + (d - 48)) ds in omega arith

-- the loop of run_at
pub record Running (s : List ℕ) (at cap i v : ℕ) : Type 0 where
  pub low : at ≤ i
  pub high : i ≤ length s
  pub after : past (drop at s) ≡ past (drop i s)
  pub val : min (value v (digits (drop i s))) (cap + 1) ≡ min (value 0 (digits (drop at s))) (cap + 1)

pub running_more : (s : List ℕ) (at cap i v w : ℕ) → i < length s → 48 ≤ get_or s i 0 → get_or s i 0 ≤ 57 → Running s at cap i v
    → ((v ≤ cap) × (w ≡ v * 10 + (get_or s i 0 - 48))) ⊎ ((cap < v) × (w ≡ v)) → Running s at cap (i + 1) w
unfolding value
running_more s at cap i v w h a b r o =
    record {
      low = let l : at ≤ i = r.low in omega arith;
      high = omega arith;
      after = r.after ∙ past_in s i h a b;
      val = ⊎_elim (λ x. rw x.1 old) (λ x. rw x.1 (big x.0)) o;
    }
  where
    ds : List ℕ
    ds = digits (drop (i + 1) s)

    old : min (value (v * 10 + (get_or s i 0 - 48)) (digits (drop (i + 1) s))) (cap + 1) ≡ min (value 0 (digits (drop at s))) (cap + 1)
    old = rw (digits_in s i h a b) at r.val

    big : cap < v → min (value v (digits (drop (i + 1) s))) (cap + 1) ≡ min (value 0 (digits (drop at s))) (cap + 1)
    big l =
        let g1 : v ≤ value v (digits (drop (i + 1) s)) = value_ge v (digits (drop (i + 1) s)) in
        let g2 : v * 10 + (get_or s i 0 - 48) ≤ value (v * 10 + (get_or s i 0 - 48)) (digits (drop (i + 1) s)) = value_ge _ (digits (drop (i + 1) s)) in
        let o : min (value (v * 10 + (get_or s i 0 - 48)) (digits (drop (i + 1) s))) (cap + 1) ≡ min (value 0 (digits (drop at s))) (cap + 1) = old in
        omega arith

pub run_stop : (s : List ℕ) (at cap i v : ℕ) → i < length s → is_digit (get_or s i 0) ≡ false → Running s at cap i v → RunAt s at cap i v
unfolding value
run_stop s at cap i v h e r =
    record { ended = record { low = r.low; high = r.high; after = r.after ∙ past_stop s i h e }; exact = rw (digits_stop s i h e) at r.val }

pub run_end : (s : List ℕ) (at cap i v : ℕ) → i ≡ length s → Running s at cap i v → RunAt s at cap (length s) v
unfolding value digits past
run_end s at cap i v e r =
    let q : Running s at cap (length s) v = rw e at r in
    record { ended = record { low = q.low; high = q.high; after = q.after ∙ rw (drop-length s) }; exact = rw (drop-length s) at q.val }

-- plain_at
pub ended_length : (s : List ℕ) (at end : ℕ) → Ended s at end → length (digits (drop at s)) ≡ end - at
ended_length s at end e =
    let w : length (digits (drop at s) ++ drop end s) ≡ length (drop at s) = rw e.after at (ap length (digits_past (drop at s))) in
    let x : length (digits (drop at s)) + (length s - end) ≡ length s - at = simp (length-append, length-drop) at w in
    let h : at ≤ end = e.low in
    let k : end ≤ length s = e.high in
    omega arith

plain_some : (d : ℕ) (ds : List ℕ) → (d ≡ nought → ⊥) → true ≡ plain (d ∷ ds)
unfolding plain
plain_some d [] n = refl
plain_some d (e ∷ ds) n = rw (ne_eqb d nought n)

plain_zero : (d : ℕ) (ds : List ℕ) (at end : ℕ) → d ≡ nought → suc (length ds) ≡ end - at → eqb end (at + 1) ≡ plain (d ∷ ds)
unfolding plain
plain_zero d [] at end e l = eq-eqb end (at + 1) (omega arith)
plain_zero d (f ∷ ds) at end e l = rw (eq-eqb d nought e) (ne_eqb end (at + 1) (λ x. omega arith))

module _ (s : List ℕ) (at : ℕ) where
  pub plain_at_end : length s ≤ at → false ≡ plain (digits (drop at s))
  unfolding digits plain
  plain_at_end h = rw (drop_of_length-le s {i = at} h)

  pub plain_at_other : at < length s → (sort_of (get_or s at 0) ≡ Digit → ⊥) → false ≡ plain (digits (drop at s))
  unfolding plain
  plain_at_other h n = rw (digits_stop s at h (not_digit_sort (get_or s at 0) n))

  pub plain_at_lead : at < length s → sort_of (get_or s at 0) ≡ Digit → (get_or s at 0 ≡ nought → ⊥) → not (eqb (get_or s at 0) nought) ≡ plain (digits (drop at s))
  plain_at_lead h d n = let w = digit_sort (get_or s at 0) d in rw (digits_in s at h w.0 w.1, ne_eqb (get_or s at 0) nought n) (plain_some (get_or s at 0) (digits (drop (at + 1) s)) n)

  pub plain_at_zero : (end : ℕ) → Ended s at end → at < length s → sort_of (get_or s at 0) ≡ Digit → get_or s at 0 ≡ nought → eqb end (at + 1) ≡ plain (digits (drop at s))
  plain_at_zero end e h d z =
      let w = digit_sort (get_or s at 0) d in
      let i = digits_in s at h w.0 w.1 in
      let l : suc (length (digits (drop (at + 1) s))) ≡ end - at = ap length (sym i) ∙ ended_length s at end e in
      rw i (plain_zero (get_or s at 0) (digits (drop (at + 1) s)) at end z l)

-- field_ends
pub ends_end : (s : List ℕ) (i : ℕ) → length s ≤ i → true ≡ field_end (drop i s)
unfolding field_end
ends_end s i h = rw (drop_of_length-le s h)

pub ends_tab : (s : List ℕ) (i : ℕ) → i < length s → get_or s i 0 ≡ tab → true ≡ field_end (drop i s)
unfolding field_end
ends_tab s i h e = rw (drop-cons s i 0 h, eq-eqb (get_or s i 0) tab e)

ends_feed : (s : List ℕ) (i : ℕ) → i < length s → get_or s i 0 ≡ feed → true ≡ field_end (drop i s)
unfolding field_end
ends_feed s i h e = rw (drop-cons s i 0 h, e)

ends_not : (s : List ℕ) (i : ℕ) → i < length s → (get_or s i 0 ≡ 9 → ⊥) → (get_or s i 0 ≡ 10 → ⊥) → false ≡ field_end (drop i s)
unfolding field_end
ends_not s i h a b = rw (drop-cons s i 0 h, ne_eqb (get_or s i 0) 9 a, ne_eqb (get_or s i 0) 10 b)

pub ends_other : (s : List ℕ) (i : ℕ) → i < length s → (sort_of (get_or s i 0) ≡ Tab → ⊥) → (x : Sort) (r : Bool) → x ≡ sort_of (get_or s i 0) → r ≡ sameb the_type x Feed → r ≡ field_end (drop i s)
ends_other s i h n x true d e = ends_feed s i h (feed_sort (get_or s i 0) (sort_same (get_or s i 0) x Feed true d e refl))
ends_other s i h n x false d e = ends_not s i h (λ b. n (sym (sort_tab (get_or s i 0) b))) (λ b. sort_other (get_or s i 0) x Feed false d e refl (sym (sort_feed (get_or s i 0) b)))

-- number
pub number_past : (s : List ℕ) (at lo hi : ℕ) → length s < at → NumberAt (read_number lo hi (drop at s)) s (Err Malformed)
unfolding read_number digits plain
number_past s at lo hi h = record { reads = rw (drop_of_length-le s {i = at} (omega arith)); inside = tt }

module _ (s : List ℕ) (at lo hi end v : ℕ) (r : RunAt s at hi end v) where
  pub number_unplain : plain (digits (drop at s)) ≡ false → NumberAt (read_number lo hi (drop at s)) s (Err Malformed)
  unfolding read_number
  number_unplain e = record { reads = rw e; inside = tt }

  pub number_unended : plain (digits (drop at s)) ≡ true → field_end (drop end s) ≡ false → NumberAt (read_number lo hi (drop at s)) s (Err Malformed)
  unfolding read_number
  number_unended e f = record { reads = rw (e, r.ended.after, f); inside = tt }

  pub number_low : plain (digits (drop at s)) ≡ true → field_end (drop end s) ≡ true → v ≤ hi → v < lo → NumberAt (read_number lo hi (drop at s)) s (Err Outside)
  unfolding read_number
  number_low e f o l =
      let w : min v (hi + 1) ≡ min (value 0 (digits (drop at s))) (hi + 1) = r.exact in
      record { reads = rw (e, r.ended.after, f, lt-leb lo (value 0 (digits (drop at s))) (omega arith)); inside = tt }

  pub number_high : plain (digits (drop at s)) ≡ true → field_end (drop end s) ≡ true → hi < v → NumberAt (read_number lo hi (drop at s)) s (Err Outside)
  unfolding read_number
  number_high e f l =
      let w : min v (hi + 1) ≡ min (value 0 (digits (drop at s))) (hi + 1) = r.exact in
      record { reads = rw (e, r.ended.after, f, lt-leb (value 0 (digits (drop at s))) hi (omega arith)) (sym (either_way (leb lo (value 0 (digits (drop at s)))))); inside = tt }
    where
      either_way : (t : Bool) → cond (t && false) (number (value 0 (digits (drop at s))) (drop end s)) outside ≡ outside
      either_way true = refl
      either_way false = refl

  pub number_value : plain (digits (drop at s)) ≡ true → field_end (drop end s) ≡ true → lo ≤ v → v ≤ hi → NumberAt (read_number lo hi (drop at s)) s (Ok (record { value = v; end = end }))
  unfolding read_number
  number_value e f l h =
      let w : min v (hi + 1) ≡ min (value 0 (digits (drop at s))) (hi + 1) = r.exact in
      let x : value 0 (digits (drop at s)) ≡ v = omega arith in
      record { reads = rw (e, r.ended.after, f, x, le-leb lo v l, le-leb v hi h); inside = r.ended.high }

-- field
module _ (s : List ℕ) (x : Field) (r : Result Number NumberFault) (n : NumberAt x s r) where
  pub value_is : (m : Number) → r ≡ Ok m → x ≡ number m.value (drop m.end s)
  value_is m e = sym n.reads ∙ ap (number_view s) e

  pub value_in : (m : Number) → r ≡ Ok m → m.end ≤ length s
  value_in m e = subst (λ (y : Result Number NumberFault). number_in s y) e n.inside

  pub malformed_is : r ≡ Err Malformed → x ≡ malformed
  malformed_is e = sym n.reads ∙ ap (number_view s) e

  pub outside_is : r ≡ Err Outside → x ≡ outside
  outside_is e = sym n.reads ∙ ap (number_view s) e

  pub field_short : (m : Number) → r ≡ Ok m → length s ≤ m.end → NumberAt (tabbed x) s (Err Malformed)
  unfolding tabbed
  field_short m e h = record { reads = rw (value_is m e, drop_of_length-le s h); inside = tt }

  pub field_tab : (m : Number) → r ≡ Ok m → m.end < length s → get_or s m.end 0 ≡ 9 → NumberAt (tabbed x) s (Ok (record { value = m.value; end = m.end + 1 }))
  unfolding tabbed
  field_tab m e h b = record { reads = rw (value_is m e, drop-cons s m.end 0 h, eq-eqb (get_or s m.end 0) 9 b, add-one); inside = omega arith }

  pub field_other : (m : Number) → r ≡ Ok m → m.end < length s → (get_or s m.end 0 ≡ 9 → ⊥) → NumberAt (tabbed x) s (Err Malformed)
  unfolding tabbed
  field_other m e h b = record { reads = rw (value_is m e, drop-cons s m.end 0 h, ne_eqb (get_or s m.end 0) 9 b); inside = tt }

  -- a field that is no number in range stays that
  pub field_not : (f : NumberFault) → r ≡ Err f → NumberAt (tabbed x) s (Err f)
  unfolding tabbed
  field_not Malformed e = record { reads = rw (malformed_is e); inside = tt }
  field_not Outside e = record { reads = rw (outside_is e); inside = tt }

-- begins
pub word_short : (w t : List ℕ) → length t ≤ length w → other ≡ strip_word w t
unfolding strip_word
word_short [] [] h = refl
word_short [] (c ∷ t) h = absurd (omega arith)
word_short (b ∷ w) [] h = refl
word_short (b ∷ w) (c ∷ t) h = go (is_small c && eqb c b) (word_short w t (omega arith))
  where
    go : (x : Bool) → other ≡ strip_word w t → other ≡ cond x (strip_word w t) other
    go true e = e
    go false e = refl

module _ (w t : List ℕ) (k : ℕ) (h : k < length w) (l : k < length t) where
  pub word_step : sort_of (get_or t k 0) ≡ Small → get_or t k 0 ≡ get_or w k 0 → strip_word (drop k w) (drop k t) ≡ strip_word (drop (k + 1) w) (drop (k + 1) t)
  unfolding strip_word
  word_step s e = rw (add-one, drop-cons w k 0 h, drop-cons t k 0 l, small_sort (get_or t k 0) s, eq-eqb (get_or t k 0) (get_or w k 0) e)

  pub word_letter : (get_or t k 0 ≡ get_or w k 0 → ⊥) → strip_word (drop k w) (drop k t) ≡ other
  unfolding strip_word
  word_letter e = rw (drop-cons w k 0 h, drop-cons t k 0 l, ne_eqb (get_or t k 0) (get_or w k 0) e) (go (is_small (get_or t k 0)))
    where
      go : (x : Bool) → cond (x && false) (strip_word (drop (suc k) w) (drop (suc k) t)) other ≡ other
      go true = refl
      go false = refl

  pub word_sort : (sort_of (get_or t k 0) ≡ Small → ⊥) → strip_word (drop k w) (drop k t) ≡ other
  unfolding strip_word
  word_sort n = rw (drop-cons w k 0 h, drop-cons t k 0 l, not_small_sort (get_or t k 0) n)

-- behind the word
word_tab : (w t : List ℕ) (k : ℕ) → k ≡ length w → k < length t → get_or t k 0 ≡ tab → strip_word (drop k w) (drop k t) ≡ rest (drop (length w + 1) t)
unfolding strip_word
word_tab w t k e l b = rw (← e, add-one, drop_of_length-le w {i = k} (omega arith), drop-cons t k 0 l, b)

word_behind : (w t : List ℕ) (k : ℕ) → k ≡ length w → k < length t → (get_or t k 0 ≡ tab → ⊥) → strip_word (drop k w) (drop k t) ≡ other
unfolding strip_word
word_behind w t k e l n = rw (drop_of_length-le w {i = k} (omega arith), drop-cons t k 0 l, ne_eqb (get_or t k 0) tab n)

pub word_end : (w t : List ℕ) (k : ℕ) → k ≡ length w → k < length t → (x : Sort) (r : Bool) → x ≡ sort_of (get_or t (length w) 0) → r ≡ sameb the_type x Tab
    → strip_view t (length w + 1) r ≡ strip_word (drop k w) (drop k t)
word_end w t k e l x true s h = sym (word_tab w t k e l (tab_sort (get_or t k 0) (rw e (sort_same (get_or t (length w) 0) x Tab true s h refl))))
word_end w t k e l x false s h = sym (word_behind w t k e l (λ b. sort_other (get_or t (length w) 0) x Tab false s h refl (sym (sort_tab (get_or t (length w) 0) (rw e at b)))))
