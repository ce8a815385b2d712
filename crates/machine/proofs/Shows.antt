-- What is shown: compared and written, one law for each step of the code. Assumes nothing.
use mathlib.Core.Path.{◌≡◌, refl, sym, ap, ap₂, ◌∙◌}
use mathlib.Core.Bool.{Bool, ◌&&◌}
use mathlib.Core.List.{List, [], ◌∷◌, ◌++◌}
use Prim.Native.Nat.{ℕ, suc, ◌+◌, ◌-◌, ◌≤◌}
use native.Mathlib.Omega.{arith}
use lib.ListN.{length, get_or, drop, take, set, length-append, length-take, length-drop}
use lib.Seq.{drop-drop}
use lib.Dec.{eqb}
use borrow.Author.Tests.{eq-eqb}
use Rattle.meaning.specs.Meaning.{verdict}
use Rattle.std.specs.List.{list_all, zip}
use Rattle.std.specs.Prelude.{Result, Ok, Err}
use Rattle.std.specs.Result.{result_unwrap_or}
use Rattle.rules.specs.Answers.{carried}
use Rattle.rules.specs.declared.Answer.{Answer}
use Rattle.ledger.specs.Layout.{shown_size}
use Rattle.ledger.specs.Memory.{same, shown_of}
use Rattle.machine.specs.Copied.{copied}
use Rattle.machine.proofs.Copies.{copied_is}

-- the least cost as memory shows it
pub carried_is : (r : Result ℕ Answer) → result_unwrap_or r 0 ≡ carried r
carried_is (Ok n) = refl
carried_is (Err a) = refl

-- two lists of one length compared pair by pair
same_zip : (s t : List ℕ) → length s ≡ length t → list_all (λ (p : ℕ × ℕ). eqb p.0 p.1) (zip s t) ≡ same s t
unfolding same
same_zip [] [] h = refl
same_zip [] (y ∷ t) h = absurd (omega arith)
same_zip (x ∷ s) [] h = absurd (omega arith)
same_zip (x ∷ s) (y ∷ t) h = ap (λ (b : Bool). eqb x y && b) (same_zip s t (omega arith))

two_of : (s : List ℕ) → 2 ≤ length s → s ≡ get_or s 0 0 ∷ get_or s 1 0 ∷ drop 2 s
two_of [] h = absurd (omega arith)
two_of (a ∷ []) h = absurd (omega arith)
two_of (a ∷ b ∷ s) h = refl

module _ (a c : ℕ) (ks m : List ℕ) (h : shown_size (length ks) ≤ length m) where
  -- the two numbers compared one by one
  pub shown_by : same (take (shown_size (length ks)) m) (shown_of (verdict a ks c))
      ≡ (eqb (get_or m 0 0) a && (eqb (get_or m 1 0) c && same (take (shown_size (length ks) - 2) (drop 2 m)) ks))
  unfolding same shown_of
  shown_by =
      let e : shown_size (length ks) ≡ suc (suc (shown_size (length ks) - 2)) = omega arith in
      ap₂ (λ (n : ℕ) (t : List ℕ). same (take n t) (a ∷ c ∷ ks)) e (two_of m (omega arith))

  pub shown_masks : get_or m 0 0 ≡ a → get_or m 1 0 ≡ c
      → list_all (λ (p : ℕ × ℕ). eqb p.0 p.1) (zip (take (shown_size (length ks) - 2) (drop 2 m)) ks) ≡ same (take (shown_size (length ks)) m) (shown_of (verdict a ks c))
  shown_masks e f =
      same_zip (take (shown_size (length ks) - 2) (drop 2 m)) ks (simp (length-take, length-drop) (omega arith))
      ∙ sym (shown_by ∙ rw (eq-eqb (get_or m 0 0) a e, eq-eqb (get_or m 1 0) c f))

  module _ (y : List ℕ) (w : y ≡ copied (take (shown_size (length ks) - 2) (drop 2 m)) ks) where
    abbrev widened : List ℕ
    widened = take 2 m ++ (y ++ drop (shown_size (length ks) - 2) (drop 2 m))

    masks_are : y ≡ ks
    masks_are = w ∙ copied_is _ ks (simp (length-take, length-drop) (omega arith))

    pub shows_long : length widened ≡ length m
    shows_long = simp (length-append, length-take, length-drop) (let z : length y ≡ length ks = ap length masks_are in omega arith)

    pub shows : (x z : ℕ) → x ≡ a → z ≡ c → set (set widened 0 x) 1 z ≡ shown_of (verdict a ks c) ++ drop (shown_size (length ks)) m
    unfolding shown_of
    shows x z e f =
        let d : 2 + (shown_size (length ks) - 2) ≡ shown_size (length ks) = omega arith in
        ap₂ (λ (t u : List ℕ). set (set (take 2 t ++ (y ++ u)) 0 x) 1 z) (two_of m (omega arith))
        (drop-drop (shown_size (length ks) - 2) 2 m ∙ ap (λ (n : ℕ). drop n m) d)
        ∙ ap₂ (λ (b : ℕ) (t : List ℕ). b ∷ z ∷ (t ++ drop (shown_size (length ks)) m)) e masks_are
        ∙ ap (λ (b : ℕ). a ∷ b ∷ (ks ++ drop (shown_size (length ks)) m)) f
