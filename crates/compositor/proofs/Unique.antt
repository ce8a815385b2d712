-- The public contract leaves one result and one content of the tables: any two that it allows are equal. Assumes nothing.
use mathlib.Core.Path.{◌≡◌, refl, ap, sym, ◌∙◌}
use mathlib.Core.Bool.{true}
use mathlib.Core.List.{List}
use Prim.Native.Nat.{ℕ}
use Rattle.std.specs.Prelude.{Result, Ok, Err}
use Rattle.rules.specs.Answers.{answer_of, order, in_order}
use Rattle.rules.specs.declared.Outline.{Outline}
use Rattle.rules.specs.declared.Answer.{Answer}
use Rattle.rules.proofs.Unique.{given_one}
use Rattle.patterns.specs.Line.{Line}
use Rattle.patterns.specs.Outcome.{Outcome, pattern_checks, pattern_of}
use Rattle.compositor.specs.Leaving.{left_by}

abbrev outline_of : Outcome → Outline
outline_of o = record { size = record { states = o.states; values = o.values; start = record { 0 = o.start } }; accepting = o.accepting }

answer_left : (r : Result Outline Answer) (t c : List ℕ) → (left_by r t c).answer ≡ answer_of r
answer_left (Ok o) t c = refl
answer_left (Err a) t c = refl

targets_left : (r : Result Outline Answer) (t c : List ℕ) → (left_by r t c).targets ≡ t
targets_left (Ok o) t c = refl
targets_left (Err a) t c = refl

costs_left : (r : Result Outline Answer) (t c : List ℕ) → (left_by r t c).costs ≡ c
costs_left (Ok o) t c = refl
costs_left (Err a) t c = refl

pub read_pattern_unique : (s : List ℕ) (vs : ℕ) (t c : List ℕ) (r : Result Outline Answer) (t1 c1 : List ℕ) (r2 : Result Outline Answer) (t2 c2 : List ℕ)
    → left_by r t1 c1 ≡ pattern_of s vs t c → left_by r2 t2 c2 ≡ pattern_of s vs t c → (r ≡ r2) × (t1 ≡ t2) × (c1 ≡ c2)
read_pattern_unique s vs t c r t1 c1 r2 t2 c2 p q =
    let e : left_by r t1 c1 ≡ left_by r2 t2 c2 = p ∙ sym q in (
      given_one r r2 (sym (answer_left r t1 c1) ∙ (ap (λ (o : Outcome). o.answer) e ∙ answer_left r2 t2 c2)) (λ x y i j. same x y i j e),
      sym (targets_left r t1 c1) ∙ (ap (λ (o : Outcome). o.targets) e ∙ targets_left r2 t2 c2),
      sym (costs_left r t1 c1) ∙ (ap (λ (o : Outcome). o.costs) e ∙ costs_left r2 t2 c2),
    )
  where
    same : (x y : Outline) → r ≡ Ok x → r2 ≡ Ok y → left_by r t1 c1 ≡ left_by r2 t2 c2 → x ≡ y
    same x y i j e = ap outline_of (sym (ap (λ (u : Result Outline Answer). left_by u t1 c1) i) ∙ (e ∙ ap (λ (u : Result Outline Answer). left_by u t2 c2) j))

-- its checks run in the paper's order
pub read_pattern_order : (vs : ℕ) (x : Line) (t c : List ℕ) → in_order order (pattern_checks vs x t c) ≡ true
unfolding order in_order
read_pattern_order vs x t c = refl
