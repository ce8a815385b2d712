-- Each public contract leaves one result: any two that it allows are equal. Assumes nothing.
use mathlib.Core.Path.{◌≡◌, refl, sym, ap, ◌∙◌}
use mathlib.Core.Bool.{Bool, true}
use mathlib.Core.List.{List, [], ◌∷◌}
use Prim.Native.Nat.{ℕ, ◌+◌, ◌-◌, ◌*◌, min}
use native.Mathlib.Omega.{arith}
use lib.ListN.{get_or}
use Rattle.std.specs.Prelude.{Result, Ok, Err}
use Rattle.kinds.specs.Bits.{bit}
use Rattle.kinds.specs.declared.State.{State}
use Rattle.kinds.specs.declared.Value.{Value}
use Rattle.rules.specs.Report.{Outcome, outcome, values_right, report_checks, report_of}
use Rattle.rules.specs.Checks.{Handed, size_right, sizes_right, tables_long, rules_right, masks_right, rule_checks}
use Rattle.rules.specs.Answers.{number_of, answer_of, carried, zeros, order, in_order, decided}
use Rattle.rules.specs.declared.Answer.{Answer}
use Rattle.rules.specs.declared.Answer.TheVariants as the
use Rattle.rules.proofs.Refusals.{number_some}

-- an answer is told by its number
abbrev answers : List Answer
answers =
    the.WrongSize
    ∷ the.WrongLength
    ∷ the.WrongTables
    ∷ the.WrongMask
    ∷ the.WrongSheet
    ∷ the.ShortBuffer
    ∷ the.OutOfRange
    ∷ the.DecisionsFull
    ∷ the.MarksFull
    ∷ the.NoMark
    ∷ the.NoRoster
    ∷ the.WrongMemory
    ∷ the.NumberOutside
    ∷ the.ManyStates
    ∷ the.WrongPattern
    ∷ []

at_number : (a : Answer) → get_or answers (number_of a - 1) the.WrongSize ≡ a
at_number a = grind arith

pub answer_one : (a b : Answer) → number_of a ≡ number_of b → a ≡ b
answer_one a b e = sym (at_number a) ∙ (ap (λ (n : ℕ). get_or answers (n - 1) the.WrongSize) e ∙ at_number b)

pub number_unique : (a : Answer) (r s : ℕ) → r ≡ number_of a → s ≡ number_of a → r ≡ s
number_unique a r s p q = p ∙ sym q

-- the tests of the checks
module _ {x r s : Bool} (p : r ≡ x) (q : s ≡ x) where
  pub test_unique : r ≡ s
  test_unique = p ∙ sym q

pub size_right_unique : (q v s : ℕ) (a b : Bool) → a ≡ size_right q v s → b ≡ size_right q v s → a ≡ b
size_right_unique q v s a b = test_unique

pub sizes_right_unique : (n q v s : ℕ) (a b : Bool) → a ≡ sizes_right n q v s → b ≡ sizes_right n q v s → a ≡ b
sizes_right_unique n q v s a b = test_unique

pub tables_long_unique : (t c : List ℕ) (a b : Bool) → a ≡ tables_long t c → b ≡ tables_long t c → a ≡ b
tables_long_unique t c a b = test_unique

pub rules_right_unique : (q v s : ℕ) (t c : List ℕ) (f : ℕ) (a b : Bool) → a ≡ rules_right q v s t c f → b ≡ rules_right q v s t c f → a ≡ b
rules_right_unique q v s t c f a b = test_unique

pub masks_right_unique : (v : ℕ) (ms : List ℕ) (a b : Bool) → a ≡ masks_right v ms → b ≡ masks_right v ms → a ≡ b
masks_right_unique v ms a b = test_unique

pub values_right_unique : (v : ℕ) (w : List ℕ) (a b : Bool) → a ≡ values_right v w → b ≡ values_right v w → a ≡ b
values_right_unique v w a b = test_unique

pub holds_unique : (set : ℕ) (q : State) (a b : Bool) → a ≡ bit set q.0 → b ≡ bit set q.0 → a ≡ b
holds_unique set q a b = test_unique

-- tables
pub arc_at_unique : (q : State) (v : Value) (values r s : ℕ) → r ≡ q.0 * values + v.0 → s ≡ q.0 * values + v.0 → r ≡ s
arc_at_unique q v values r s e f = e ∙ sym f

-- numbers
pub lesser_unique : (a b r s : ℕ) → r ≡ min a b → s ≡ min a b → r ≡ s
lesser_unique a b r s p q = p ∙ sym q

pub clear_unique : (s a b : List ℕ) → a ≡ zeros s → b ≡ zeros s → a ≡ b
clear_unique s a b p q = p ∙ sym q

-- what a call gives is told by its answer number and what it carries
pub given_one : {A : Type 0} (r s : Result A Answer) → answer_of r ≡ answer_of s → ((x y : A) → r ≡ Ok x → s ≡ Ok y → x ≡ y) → r ≡ s
given_one (Ok x) (Ok y) e f = ap Ok (f x y refl refl)
given_one (Ok x) (Err b) e f = absurd (number_some b (sym e))
given_one (Err a) (Ok y) e f = absurd (number_some a e)
given_one (Err a) (Err b) e f = ap Err (answer_one a b e)

pub number_of_unique : {A : Type 0} (given : Result A Answer) (r s : ℕ) → r ≡ answer_of given → s ≡ answer_of given → r ≡ s
number_of_unique given r s p q = p ∙ sym q

-- the checks that every call makes first
pub checked_unique : (h : Handed) (long : Bool) (r s : Result Unit Answer)
    → answer_of r ≡ decided (rule_checks h long []) (λ n. n) 0 → answer_of s ≡ decided (rule_checks h long []) (λ n. n) 0 → r ≡ s
checked_unique h long r s p q = given_one r s (p ∙ sym q) (λ x y i j. refl)

-- the prefix report
pub prefix_report_unique : (h : Handed) (w : List ℕ) (r s : Result ℕ Answer)
    → outcome (answer_of r) (carried r) ≡ report_of h w → outcome (answer_of s) (carried s) ≡ report_of h w → r ≡ s
prefix_report_unique h w r s p q =
    let e : outcome (answer_of r) (carried r) ≡ outcome (answer_of s) (carried s) = p ∙ sym q in
    given_one r s (ap (λ (o : Outcome). o.answer) e) (λ x y i j. sym (ap carried i) ∙ (ap (λ (o : Outcome). o.report) e ∙ ap carried j))

-- its checks run in the paper's order
pub prefix_report_order : (h : Handed) (w : List ℕ) → in_order order (report_checks h w) ≡ true
unfolding order in_order
prefix_report_order h w = refl
