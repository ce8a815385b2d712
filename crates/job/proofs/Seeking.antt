-- The lines before the first that begins with the word `drawn`, sought one by one. Assumes nothing.
use mathlib.Core.Path.{◌≡◌, refl, ap, sym, ◌∙◌}
use mathlib.Core.Bool.{Bool, true, false}
use mathlib.Core.List.{List, [], ◌∷◌, ◌++◌, append-nil, append_assoc, head-eq_of_cons-eq, tail-eq_of_cons-eq}
use Prim.Native.Nat.{ℕ, zero, suc, ◌+◌, ◌-◌, ◌≤◌, ◌<◌}
use native.Mathlib.Decide.{dec_lt}
use native.Mathlib.Omega.{arith}
use lib.Dec.{eqb}
use lib.ListN.{length, get_or, take, drop, length-append, length-take, length-drop, drop_of_length-le}
use lib.Seq.{take-add, take_all, drop-append-le, drop-drop}
use borrow.Author.Tests.{eqb-true, eqb-false}
use Rattle.text.specs.Bytes.{feed}
use Rattle.text.specs.Lines.{rest, other, strip, onto, lines, LineAt}
use Rattle.text.proofs.Cutting.{OneLine, stop, more, lines_one}
use Rattle.job.specs.Mend.{drawn_word, is_drawn, before_drawn, from_drawn}
use Rattle.job.specs.Inner.{DrawnAt}
use Rattle.job.proofs.Taking.{some_line}

-- the first line of a text, behind which there is more, ends in its line feed
one_line : (t : List ℕ) (k : ℕ) → 0 < k → k < length t → lines t ≡ take k t ∷ lines (drop k t) → OneLine (take k t)
unfolding lines
one_line [] k p h e = absurd (omega arith)
one_line (b ∷ t) zero p h e = absurd (omega arith)
one_line (b ∷ t) (suc k) p h e = go (eqb b feed) refl (λ q d. one_line t k q (omega arith) d)
  where
    go : (x : Bool) → eqb b feed ≡ x → (0 < k → lines t ≡ take k t ∷ lines (drop k t) → OneLine (take k t)) → OneLine (b ∷ take k t)
    go true d rec =
        let w : (b ∷ []) ∷ lines t ≡ (b ∷ take k t) ∷ lines (drop k t) = rw d at e in
        let z : [] ≡ take k t = tail-eq_of_cons-eq (head-eq_of_cons-eq w) in
        let f : b ≡ feed = eqb-true b feed d in
        rw (← z, f) stop
    go false d rec =
        let s = some_line t 0 (omega arith) in
        let w : onto b false (lines t) ≡ (b ∷ take k t) ∷ lines (drop k t) = rw d at e in
        let y : (b ∷ (get_or t 0 0 ∷ s.0)) ∷ s.1 ≡ (b ∷ take k t) ∷ lines (drop k t) = rw s.2 at w in
        let u : get_or t 0 0 ∷ s.0 ≡ take k t = tail-eq_of_cons-eq (head-eq_of_cons-eq y) in
        let l : suc (length s.0) ≡ length (take k t) = ap length u in
        more (eqb-false b feed d) (rec (omega (arith, l, length-take k t)) (s.2 ∙ (ap (λ (x : List ℕ). x ∷ s.1) u ∙ ap (λ (x : List (List ℕ)). take k t ∷ x) (tail-eq_of_cons-eq y))))

-- a text whose lines go before those of any text behind it
pub record Whole (x : List ℕ) : Type 0 where
  pub goes : (y : List ℕ) → lines (x ++ y) ≡ lines x ++ lines y

module _ (s : List ℕ) (from at end : ℕ) (low : from ≤ at) (l : LineAt s at end) where
  abbrev line : List ℕ
  line = take (end - at) (drop at s)

  one : end < length s → OneLine line
  one h =
      let z : at + (end - at) ≡ end = omega (arith, l.low) in
      let d : drop (end - at) (drop at s) ≡ drop end s = drop-drop (end - at) at s ∙ ap (λ (i : ℕ). drop i s) z in
      one_line (drop at s) (end - at) (omega (arith, l.low)) (omega (arith, length-drop at s, l.low)) (l.cuts ∙ ap (λ (x : List ℕ). line ∷ lines x) (sym d))

  line_alone : lines line ≡ line ∷ []
  unfolding lines
  line_alone = go (dec_lt end (length s))
    where
      go : Dec (end < length s) → lines line ≡ line ∷ []
      go (yes h) = ap lines (sym (append-nil line)) ∙ lines_one line [] (one h)
      go (no h) =
          let a : line ≡ drop at s = take_all (end - at) (drop at s) (omega (arith, length-drop at s)) in
          ap lines a ∙ (l.cuts ∙ ap (λ (x : List ℕ). line ∷ lines x) (drop_of_length-le s {i = end} (omega arith)))

  longer : drop from (take end s) ≡ drop from (take at s) ++ line
  longer =
      let z : at + (end - at) ≡ end = omega (arith, l.low) in
      let t : take end s ≡ take at s ++ take (end - at) (drop at s) = ap (λ (i : ℕ). take i s) (sym z) ∙ take-add at (end - at) s in
      ap (drop from) t ∙ drop-append-le from (take at s) _ (omega (arith, length-take at s, l.low, l.high))

  module _ (w : Whole (drop from (take at s))) where
    lines_longer : lines (drop from (take end s)) ≡ lines (drop from (take at s)) ++ line ∷ []
    lines_longer = ap lines longer ∙ (w.goes line ∙ ap (λ (x : List (List ℕ)). lines (drop from (take at s)) ++ x) line_alone)

    whole_longer : end < length s → Whole (drop from (take end s))
    whole_longer h = record {
      goes = λ y. ap (λ (x : List ℕ). lines (x ++ y)) longer
          ∙ (ap lines (append_assoc (drop from (take at s)) line y)
          ∙ (w.goes (line ++ y)
          ∙ (ap (λ (x : List (List ℕ)). lines (drop from (take at s)) ++ x) (lines_one line y (one h))
          ∙ (sym (append_assoc (lines (drop from (take at s))) (line ∷ []) (lines y))
          ∙ ap (λ (x : List (List ℕ)). x ++ lines y) (sym lines_longer)))));
    }

-- the lines from `from` up to `at` are not drawn ones, and the line at `at` has that number
pub record Seeking (s : List ℕ) (from at number : ℕ) : Type 0 where
  pub low : from ≤ at
  pub high : at ≤ length s
  pub count : number ≤ at + 2
  pub whole : at < length s → Whole (drop from (take at s))
  pub counted : number ≡ 2 + length (lines (drop from (take at s)))
  pub before : before_drawn (lines (drop from s)) ≡ lines (drop from (take at s)) ++ before_drawn (lines (drop at s))
  pub behind : from_drawn (lines (drop from s)) ≡ from_drawn (lines (drop at s))

pub seeking_start : (s : List ℕ) (from : ℕ) → from ≤ length s → Seeking s from from 2
unfolding lines
seeking_start s from h =
    let e : drop from (take from s) ≡ [] = drop_of_length-le (take from s) {i = from} (omega (arith, length-take from s)) in
    record {
      low = omega arith;
      high = h;
      count = omega arith;
      whole = λ k. rw e (record { goes = λ y. refl });
      counted = rw e;
      before = rw e;
      behind = refl;
    }

-- a line that is drawn, or not
module _ (l : List ℕ) (ls : List (List ℕ)) where
  before_here : (x : List ℕ) → strip drawn_word l ≡ rest x → before_drawn (l ∷ ls) ≡ []
  unfolding before_drawn is_drawn
  before_here x e = rw e

  from_here : (x : List ℕ) → strip drawn_word l ≡ rest x → from_drawn (l ∷ ls) ≡ l ∷ ls
  unfolding from_drawn is_drawn
  from_here x e = rw e

  before_on : strip drawn_word l ≡ other → before_drawn (l ∷ ls) ≡ l ∷ before_drawn ls
  unfolding before_drawn is_drawn
  before_on e = rw e

  from_on : strip drawn_word l ≡ other → from_drawn (l ∷ ls) ≡ from_drawn ls
  unfolding from_drawn is_drawn
  from_on e = rw e

module _ (s : List ℕ) (from at number : ℕ) (g : Seeking s from at number) where
  found : before_drawn (lines (drop at s)) ≡ [] → lines (drop at s) ≡ from_drawn (lines (drop at s)) → DrawnAt s from at number
  found b f =
      let e : lines (drop from (take at s)) ≡ before_drawn (lines (drop from s)) = sym (g.before ∙ (ap (λ (x : List (List ℕ)). lines (drop from (take at s)) ++ x) b ∙ append-nil (lines (drop from (take at s))))) in
      record {
        low = g.low;
        high = g.high;
        before_is = e;
        from_is = f ∙ sym g.behind;
        counted = g.counted ∙ ap (λ (x : List (List ℕ)). 2 + length x) e;
        bounded = omega (arith, g.count, g.high);
      }

  pub seeking_end : length s ≤ at → DrawnAt s from at number
  unfolding lines before_drawn from_drawn
  seeking_end h = let e : drop at s ≡ [] = drop_of_length-le s {i = at} h in found (rw e) (rw e)

  module _ (inside : at < length s) (end : ℕ) (l : LineAt s at end) where
    pub seeking_here : (x : List ℕ) → strip drawn_word (take (end - at) (drop at s)) ≡ rest x → DrawnAt s from at number
    seeking_here x e = found
        (ap before_drawn l.cuts ∙ before_here _ (lines (drop end s)) x e)
        (l.cuts ∙ (sym (from_here _ (lines (drop end s)) x e) ∙ ap from_drawn (sym l.cuts)))

    pub seeking_more : strip drawn_word (take (end - at) (drop at s)) ≡ other → Seeking s from end (number + 1)
    seeking_more e =
        let w = g.whole inside in
        let m = lines_longer s from at end g.low l w in
        record {
          low = omega (arith, g.low, l.low);
          high = l.high;
          count = omega (arith, g.count, l.low);
          whole = λ h. whole_longer s from at end g.low l w h;
          counted = omega (arith, g.counted, ap length m, length-append (lines (drop from (take at s))) (take (end - at) (drop at s) ∷ []));
          before = g.before
              ∙ (ap (λ (x : List (List ℕ)). lines (drop from (take at s)) ++ x) (ap before_drawn l.cuts ∙ before_on _ (lines (drop end s)) e)
              ∙ (sym (append_assoc (lines (drop from (take at s))) (take (end - at) (drop at s) ∷ []) (before_drawn (lines (drop end s))))
              ∙ ap (λ (x : List (List ℕ)). x ++ before_drawn (lines (drop end s))) (sym m)));
          behind = g.behind ∙ (ap from_drawn l.cuts ∙ from_on _ (lines (drop end s)) e);
        }
