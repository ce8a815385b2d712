-- Each public contract leaves one result and one content of the lent slices: any two that it allows are equal. Assumes nothing.
use Rattle.std.specs.Prelude.{Result}
use mathlib.Core.Path.{◌≡◌, refl, sym, ap, ◌∙◌}
use mathlib.Core.Bool.{true}
use mathlib.Core.List.{List}
use Prim.Native.Nat.{ℕ}
use Rattle.rules.specs.Checks.{Handed}
use Rattle.rules.specs.Answers.{answer_of, carried, order, in_order}
use Rattle.rules.proofs.Unique.{given_one}
use Rattle.rules.specs.declared.Answer.{Answer}
use Rattle.filter.specs.Filter.{Left, left, filter_checks, filter_of}
use Rattle.filter.specs.First.{Given, given, first_checks, first_of}

pub filter_unique : (h : Handed) (ms ls ks work : List ℕ) (r s : Result ℕ Answer) (kr ks' wr ws : List ℕ)
    → left (answer_of r) (carried r) kr wr ≡ filter_of h ms ls ks work → left (answer_of s) (carried s) ks' ws ≡ filter_of h ms ls ks work
    → (r ≡ s) × (kr ≡ ks') × (wr ≡ ws)
filter_unique h ms ls ks work r s kr ks' wr ws p q =
    let e : left (answer_of r) (carried r) kr wr ≡ left (answer_of s) (carried s) ks' ws = p ∙ sym q in (
      given_one r s (ap (λ (l : Left). l.answer) e) (λ x y i j. sym (ap carried i) ∙ (ap (λ (l : Left). l.least) e ∙ ap carried j)),
      ap (λ (l : Left). l.kept) e,
      ap (λ (l : Left). l.work) e,
    )

pub filter_order : (h : Handed) (ms ls ks work : List ℕ) → in_order order (filter_checks h ms ls ks work) ≡ true
unfolding order in_order
filter_order h ms ls ks work = refl

pub first_roster_unique : (h : Handed) (ms ls : List ℕ) (i v : ℕ) (roster work : List ℕ) (r s : Result Unit Answer) (or os wr ws : List ℕ)
    → given (answer_of r) or wr ≡ first_of h ms ls i v roster work → given (answer_of s) os ws ≡ first_of h ms ls i v roster work
    → (r ≡ s) × (or ≡ os) × (wr ≡ ws)
first_roster_unique h ms ls i v roster work r s or os wr ws p q =
    let e : given (answer_of r) or wr ≡ given (answer_of s) os ws = p ∙ sym q in
    (given_one r s (ap (λ (g : Given). g.answer) e) (λ x y k j. refl), ap (λ (g : Given). g.roster) e, ap (λ (g : Given). g.work) e)

pub first_roster_order : (h : Handed) (ms ls : List ℕ) (i v : ℕ) (roster work : List ℕ) → in_order order (first_checks h ms ls i v roster work) ≡ true
unfolding order in_order
first_roster_order h ms ls i v roster work = refl
