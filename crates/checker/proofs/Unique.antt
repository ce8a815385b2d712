-- Each public contract leaves one result: any two that it allows are equal. Assumes nothing.
use mathlib.Core.Path.{◌≡◌, refl, sym, ap, ◌∙◌}
use mathlib.Core.Bool.{Bool, true}
use mathlib.Core.List.{List}
use Prim.Native.Nat.{ℕ}
use Rattle.std.specs.Prelude.{Result}
use Rattle.rules.specs.Checks.{Handed}
use Rattle.rules.specs.Answers.{answer_of, order, in_order}
use Rattle.rules.proofs.Unique.{given_one}
use Rattle.rules.specs.declared.Answer.{Answer}
use Rattle.mending.specs.Outcomes.{Said, said, check_checks, check_of}
use Rattle.checker.specs.Says.{says}

pub check_roster_unique : (h : Handed) (ms ls ds w : List ℕ) (claimed : ℕ) (r s : Result Bool Answer)
    → said (answer_of r) (says r) ≡ check_of h ms ls ds w claimed → said (answer_of s) (says s) ≡ check_of h ms ls ds w claimed → r ≡ s
check_roster_unique h ms ls ds w claimed r s p q =
    let e : said (answer_of r) (says r) ≡ said (answer_of s) (says s) = p ∙ sym q in
    given_one r s (ap (λ (y : Said). y.answer) e) (λ x y i j. sym (ap says i) ∙ (ap (λ (y : Said). y.says) e ∙ ap says j))

pub check_roster_order : (h : Handed) (ms ls ds w : List ℕ) → in_order order (check_checks h ms ls ds w) ≡ true
unfolding order in_order
check_roster_order h ms ls ds w = refl
