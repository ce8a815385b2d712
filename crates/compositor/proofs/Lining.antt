-- Laws of a whole line that is taken. Assumes nothing.
use mathlib.Core.Path.{◌≡◌, refl, ap, ◌∙◌}
use mathlib.Core.Bool.{Bool, true, false, cond, and-false}
use mathlib.Core.List.{List}
use Prim.Native.Nat.{ℕ, ◌+◌, ◌≤◌, ◌<◌}
use native.Mathlib.Omega.{arith}
use lib.Dec.{leb}
use lib.ListN.{length, drop, replicate}
use borrow.Author.Tests.{leb-true, le-leb, lt-leb, eq-eqb, ne_eqb}
use Rattle.meaning.specs.Bounds.{most_values}
use Rattle.rules.proofs.Checks.{both, never}
use Rattle.patterns.specs.Pattern.{letters}
use Rattle.patterns.specs.Places.{places_of}
use Rattle.patterns.specs.Line.{most_bytes, most_letters, most_depth, group, Good, letters_of, parse, lawful, unlawful, ended, letters_right, read_line}
use Rattle.patterns.specs.Outcome.{count_right}
use Rattle.patterns.proofs.Lines.{line_letters}
use Rattle.compositor.specs.Inner.{part_of, Told, Marked, LineAt}
use Rattle.compositor.specs.declared.parts.Part.{Part}
use Rattle.std.proofs.Common.{Option, Some, None, Result, Ok, Err, MatchOption, ok_or}
use Rattle.rules.specs.declared.Answer.{Answer}
use Rattle.compositor.specs.declared.states.Automaton.{Automaton}
use Rattle.compositor.proofs.Ring.{told_has, wrong_of}

pub count_few : (vs : ℕ) → count_right vs ≡ true → vs ≤ most_values
unfolding count_right
count_few vs h = leb-true _ _ (both (leb 1 vs) _ h).1

-- a line's automaton, or its refusal, by what the line was found to be
module _ (vs : ℕ) (s : List ℕ) (n : Answer) where
  pub refused_of : (r : Option Automaton) (g : Result Automaton Answer) → MatchOption r (read_line vs s ≡ unlawful) (LineAt vs s) → g ≡ ok_or r n → (a : Answer) → g ≡ Err a
      → (read_line vs s ≡ unlawful) × (a ≡ n)
  refused_of None g m e a k = (m, cc)
  refused_of (Some x) g m e a k = never cc

  pub taken_of : (r : Option Automaton) (g : Result Automaton Answer) → MatchOption r (read_line vs s ≡ unlawful) (LineAt vs s) → g ≡ ok_or r n → (x : Automaton) → g ≡ Ok x → LineAt vs s x
  taken_of None g m e x k = never cc
  taken_of (Some y) g m e x k = let j : y ≡ x = cc in rw (← j) m

-- letters that are right leave room for the readers
pub letters_few : (vs : ℕ) (ls : List ℕ) → letters_right vs ls ≡ true → length ls ≤ most_letters
unfolding letters_right
letters_few vs ls h = leb-true _ _ (both (leb (length ls) most_letters) _ h).0

module _ (vs : ℕ) (s : List ℕ) where
  -- a line that is not right
  pub line_long : most_bytes < length s → read_line vs s ≡ unlawful
  unfolding read_line
  line_long h = rw (lt-leb (length s) most_bytes h)

  pub line_letters_wrong : letters_right vs (letters_of s) ≡ false → read_line vs s ≡ unlawful
  unfolding read_line
  line_letters_wrong e = rw (e, and-false (leb (length s) most_bytes))

  module _ (m : List ℕ) (k : Marked vs (letters_of s) m) where
    pub line_room : 0 + length (letters_of (drop 0 s)) ≤ most_letters
    line_room = let n = letters_few vs (letters_of s) k.right in omega arith

    module _ (l : length s ≤ most_bytes) (f : List ℕ) (r : Option Part) (t : Told 0 (parse group s 0 most_depth) (replicate most_letters 0) f r) where
      read_is : read_line vs s ≡ ended (length s) (parse group s 0 most_depth)
      unfolding read_line
      read_is = rw (le-leb (length s) most_bytes l, k.right)

      pub line_bad : r ≡ None → read_line vs s ≡ unlawful
      line_bad z = read_is ∙ ap (ended (length s)) (wrong_of t z)

      module _ (x : Part) (z : r ≡ Some x) where
        pub line_short : (x.at ≡ length s → ⊥) → read_line vs s ≡ unlawful
        line_short n =
            let a = told_has t z in
            read_is ∙ ap (ended (length s)) a.same ∙ ap (λ (b : Bool). cond b (lawful a.pattern) unlawful) (ne_eqb x.at (length s) n)

        pub line_right : x.at ≡ length s → LineAt vs s (record { null = x.null; first = x.first; last = x.last; follow = f; marks = m })
        unfolding part_of
        line_right n =
            let a = told_has t z in
            let p : parse group s 0 most_depth ≡ Good a.pattern (length s) = a.same ∙ ap (Good a.pattern) n in
            let w : letters_of s ≡ letters a.pattern = line_letters s a.pattern p in
            record {
              pattern = a.pattern;
              read = read_is ∙ ap (ended (length s)) p ∙ ap (λ (b : Bool). cond b (lawful a.pattern) unlawful) (eq-eqb (length s) (length s) refl);
              few = rw (← w) (letters_few vs (letters_of s) k.right);
              nulls = ap (λ (y : Part). y.null) a.part;
              firsts = ap (λ (y : Part). y.first) a.part;
              lasts = ap (λ (y : Part). y.last) a.part;
              table = a.table;
              places = λ v. k.places v ∙ ap (λ (ls : List ℕ). places_of ls v) w;
            }
