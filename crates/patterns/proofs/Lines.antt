-- The reading finds the pattern of each right line, and no other. Assumes nothing.
use mathlib.Core.Path.{◌≡◌, refl, sym, ap, ◌∙◌}
use mathlib.Core.Bool.{Bool, true, false, cond, ◌&&◌}
use mathlib.Core.Logic.{◌↔◌}
use mathlib.Core.List.{List, ◌++◌, append-nil}
use Prim.Native.Nat.{ℕ}
use native.Mathlib.Omega.{arith}
use lib.Dec.{eqb, leb, ltb}
use lib.ListN.{length, drop_of_length-le}
use borrow.Author.Tests.{eqb-true, eq-eqb, leb-true, le-leb}
use Rattle.meaning.specs.Lists.{all}
use Rattle.rules.proofs.Checks.{both, never}
use Rattle.patterns.specs.Pattern.{Pattern, letters}
use Rattle.patterns.specs.Line.{most_bytes, most_letters, most_depth, RightLine, group, Parsed, Good, Wrong, letters_of, parse, Line, lawful, unlawful, ended, letters_right, read_line}
use Rattle.patterns.proofs.Reading.{read_letters}
use Rattle.patterns.proofs.Grammar.{line_spells}

-- the letters of a line that is read whole are those of its text
pub line_letters : (s : List ℕ) (p : Pattern) → parse group s 0 most_depth ≡ Good p (length s) → letters_of s ≡ letters p
unfolding letters_of
line_letters s p h =
    read_letters group s 0 most_depth p (length s) h
    ∙ ap (λ (l : List ℕ). letters p ++ letters_of l) (drop_of_length-le s {i = length s} (omega arith))
    ∙ append-nil (letters p)

ended_is : (n : ℕ) (r : Parsed) (p : Pattern) → ended n r ≡ lawful p → r ≡ Good p n
ended_is n (Good q e) p h = go (eqb e n) refl h
  where
    go : (b : Bool) → eqb e n ≡ b → cond b (lawful q) unlawful ≡ lawful p → Good q e ≡ Good p n
    go true x k = let a : e ≡ n = eqb-true e n x in let b : q ≡ p = cc in rw (a, b)
    go false x k = never cc
ended_is n Wrong p h = never cc

read_is : (b : Bool) (x : Line) (p : Pattern) → cond b x unlawful ≡ lawful p → (b ≡ true) × (x ≡ lawful p)
read_is true x p h = (refl, h)
read_is false x p h = never cc

-- THE LAW OF THE LINE
pub line_right : (vs : ℕ) (s : List ℕ) (p : Pattern) → (read_line vs s ≡ lawful p) ↔ RightLine vs s p
unfolding read_line letters_right
line_right vs s p = (fwd, bwd)
  where
    fwd : read_line vs s ≡ lawful p → RightLine vs s p
    fwd h =
        let r = read_is (leb (length s) most_bytes && (leb (length (letters_of s)) most_letters && all (λ v. ltb v vs) (letters_of s))) _ p h in
        let e = ended_is (length s) (parse group s 0 most_depth) p r.1 in
        let l = line_letters s p e in
        let a = both (leb (length s) most_bytes) _ r.0 in
        let b = both (leb (length (letters_of s)) most_letters) _ a.1 in
        record {
          spelled = (line_spells s most_depth p).0 e;
          short = leb-true _ _ a.0;
          few = rw (← l) (leb-true _ _ b.0);
          values = rw (← l) b.1;
        }

    bwd : RightLine vs s p → read_line vs s ≡ lawful p
    bwd r =
        let e = (line_spells s most_depth p).1 r.spelled in
        rw (line_letters s p e, le-leb _ _ r.short, le-leb _ _ r.few, r.values, e, eq-eqb (length s) (length s) refl)

-- a right line has one pattern
pub one_pattern : (vs : ℕ) (s : List ℕ) (p q : Pattern) → RightLine vs s p → RightLine vs s q → p ≡ q
one_pattern vs s p q a b =
    let e : lawful p ≡ lawful q = sym ((line_right vs s p).1 a) ∙ (line_right vs s q).1 b in
    cc
