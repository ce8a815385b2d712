-- The public contracts leave one result and one content of the tables: any two that they allow are equal. Assumes nothing.
use mathlib.Core.Path.{◌≡◌, refl, ap, sym, ◌∙◌}
use mathlib.Core.Bool.{true}
use mathlib.Core.List.{List}
use Prim.Native.Nat.{ℕ}
use Rattle.std.specs.Prelude.{Result, Ok, Err}
use Rattle.rules.specs.Answers.{number_of, order, in_order}
use Rattle.rules.proofs.Unique.{answer_one}
use Rattle.rules.specs.declared.Answer.{Answer}
use Rattle.rules.specs.declared.Outline.{Outline}
use Rattle.sheet.specs.Sheets.{Sheet}
use Rattle.sheet.specs.Reading.{Outcome, unread_answer, unread_line, given_of, read_given, read_checks, read_of}
use Rattle.sheet.specs.declared.Unread.{Unread}

pub answer_unique : (u : Unread) (a b : Answer) → number_of a ≡ unread_answer u → number_of b ≡ unread_answer u → a ≡ b
answer_unique u a b p q = answer_one a b (p ∙ sym q)

pub line_unique : (u : Unread) (m n : ℕ) → m ≡ unread_line u → n ≡ unread_line u → m ≡ n
line_unique u m n p q = p ∙ sym q

pub read_sheet_unique : (s t c : List ℕ) (r : Result Outline Unread) (t1 c1 : List ℕ) (r2 : Result Outline Unread) (t2 c2 : List ℕ)
    → (r ≡ given_of s t c) × (read_given r t1 c1 ≡ read_of s t c) → (r2 ≡ given_of s t c) × (read_given r2 t2 c2 ≡ read_of s t c) → (r ≡ r2) × (t1 ≡ t2) × (c1 ≡ c2)
read_sheet_unique s t c r t1 c1 r2 t2 c2 p q =
    let e : read_given r t1 c1 ≡ read_given r2 t2 c2 = p.1 ∙ sym q.1 in
    let f : r ≡ r2 = p.0 ∙ sym q.0 in (f, sym (left_targets r t1 c1) ∙ (ap (λ (o : Outcome). o.targets) e ∙ left_targets r2 t2 c2), sym (left_costs r t1 c1) ∙ (ap (λ (o : Outcome). o.costs) e ∙ left_costs r2 t2 c2))
  where
    left_targets : (r : Result Outline Unread) (t c : List ℕ) → (read_given r t c).targets ≡ t
    left_targets (Ok o) t c = refl
    left_targets (Err u) t c = refl

    left_costs : (r : Result Outline Unread) (t c : List ℕ) → (read_given r t c).costs ≡ c
    left_costs (Ok o) t c = refl
    left_costs (Err u) t c = refl

-- its checks run in the paper's order
pub read_sheet_order : (x : Sheet) (t c : List ℕ) → in_order order (read_checks x t c) ≡ true
unfolding order in_order
read_sheet_order x t c = refl
