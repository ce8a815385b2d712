-- The checks 1 to 4 of a call that is lent a rule set and masks, each return of the code against the one equation, for any result; and a call whose
-- first checks are made by a function of their own. Assumes nothing.
use mathlib.Core.Path.{◌≡◌, refl, sym, ◌∙◌}
use mathlib.Core.Bool.{Bool, true, false}
use mathlib.Core.List.{List, [], ◌∷◌}
use Prim.Native.Nat.{ℕ, ◌≤◌}
use native.Mathlib.Omega.{arith}
use lib.ListN.{length}
use Rattle.meaning.specs.Bounds.{table_size}
use Rattle.rules.specs.Checks.{Handed, handed, sizes_right, tables_long, tables_right, rules_right, masks_right, rule_checks}
use Rattle.rules.specs.Answers.{number_of, Check, check, decided}
use Rattle.rules.specs.declared.Answer.{Answer}
use Rattle.rules.proofs.Checks.{and_fails, and_goes, sizes_of, both, Size, size_of_lem, Sizes, long_tables, rules_tables, refuses, passes, answered}
use Rattle.rules.proofs.Lawful.{Lawful, lawful}

-- `lengths` says whether the slices beside the tables have their lengths
module _ {A : Type 0} (refuse : ℕ → A) (done : A) (n q v s : ℕ) (t c : List ℕ) (a : ℕ) (ms : List ℕ) (lengths : Bool) (rest : List Check) where
  abbrev checks : List Check
  checks = rule_checks (handed n q v s t c a) lengths (check 4 (masks_right v ms) ∷ rest)

  pub wrong_size : sizes_right n q v s ≡ false → refuse 1 ≡ decided checks refuse done
  wrong_size e = refuses refuse done _ _ _ e

  module _ (sizes : sizes_right n q v s ≡ true) where
    pub wrong_tables_long : tables_long t c ≡ false → refuse 2 ≡ decided checks refuse done
    wrong_tables_long e = passes refuse done _ _ _ sizes (refuses refuse done _ _ _ (and_fails _ _ e))

    module _ (long : tables_long t c ≡ true) where
      pub wrong_lengths : lengths ≡ false → refuse 2 ≡ decided checks refuse done
      wrong_lengths e = passes refuse done _ _ _ sizes (refuses refuse done _ _ _ (and_goes _ _ _ long e))

      module _ (all : lengths ≡ true) where
        tables : rules_right q v s t c a ≡ tables_right q v t c a
        tables = rules_tables q v s t c a (sizes_of n q v s sizes).size long

        pub wrong_tables : rules_right q v s t c a ≡ false → refuse 3 ≡ decided checks refuse done
        wrong_tables e = passes refuse done _ _ _ sizes (passes refuse done _ _ _ (and_goes _ _ _ long all) (refuses refuse done _ _ _ (sym tables ∙ e)))

        module _ (rules : rules_right q v s t c a ≡ true) where
          pub wrong_mask : masks_right v ms ≡ false → refuse 4 ≡ decided checks refuse done
          wrong_mask e =
              passes refuse done _ _ _ sizes (passes refuse done _ _ _ (and_goes _ _ _ long all)
              (passes refuse done _ _ _ (sym tables ∙ rules) (refuses refuse done _ _ _ e)))

          pub all_right : {x : A} → masks_right v ms ≡ true → x ≡ decided rest refuse done → x ≡ decided checks refuse done
          all_right e k =
              passes refuse done _ _ _ sizes (passes refuse done _ _ _ (and_goes _ _ _ long all)
              (passes refuse done _ _ _ (sym tables ∙ rules) (passes refuse done _ _ _ e k)))

-- the checks answered x, which is not 0: the call is refused with it
pub refused_by : {A : Type 0} (refuse : ℕ → A) (done : A) (ks : List Check) {x : ℕ} → x ≡ decided ks (λ n. n) 0 → (x ≡ 0 → ⊥) → refuse x ≡ decided ks refuse done
unfolding decided
refused_by refuse done [] e h = absurd (h e)
refused_by refuse done (check n true ∷ ks) e h = refused_by refuse done ks e h
refused_by refuse done (check n false ∷ ks) e h = rw e

-- the numbers of the answers that refuse
pub number_in : (a : Answer) → (1 ≤ number_of a) × (number_of a ≤ 15)
number_in a = grind arith

pub number_some : (a : Answer) → number_of a ≡ 0 → ⊥
number_some a e = omega (arith, number_in a)

-- `RuleSet::checked` has made the first three checks: the call is refused as they say
module _ {A : Type 0} (refuse : ℕ → A) (done : A) (h : Handed) (long : Bool) (others : List Check) where
  pub refused_first : (a : Answer) → number_of a ≡ decided (rule_checks h long []) (λ n. n) 0 → refuse (number_of a) ≡ decided (rule_checks h long others) refuse done
  unfolding decided
  refused_first a e = go (number_of a) (number_some a) e
    where
      go : (x : ℕ) → (x ≡ 0 → ⊥) → x ≡ decided (rule_checks h long []) (λ n. n) 0 → refuse x ≡ decided (rule_checks h long others) refuse done
      go x n e = grind (arith)

  -- or the others decide
  pub others_decide : {x : A} → 0 ≡ decided (rule_checks h long []) (λ n. n) 0 → x ≡ decided others refuse done → x ≡ decided (rule_checks h long others) refuse done
  unfolding decided
  others_decide e d = grind (arith)

-- and a call that goes on knows of what it is lent
pub record First (h : Handed) (long : Bool) : Type 0 where
  pub sizes : Sizes h.places h.rules.arcs.states h.rules.arcs.values h.start
  pub size : Size h.rules.arcs.states h.rules.arcs.values h.start
  pub targets_long : length h.rules.arcs.targets ≡ table_size
  pub costs_long : length h.rules.arcs.costs ≡ table_size
  pub slices_long : long ≡ true
  pub lawful : Lawful h.rules

pub first_passed : (h : Handed) (long : Bool) → 0 ≡ decided (rule_checks h long []) (λ n. n) 0 → First h long
first_passed h long e =
    let p = answered (λ n. n) (λ n. n) 0 (λ n. refl) 0 (rule_checks h long []) refl (sym e) in
    let s = sizes_of _ _ _ _ p.0 in
    let l = both (tables_long h.rules.arcs.targets h.rules.arcs.costs) long p.1.0 in
    record {
      sizes = s;
      size = size_of_lem _ _ _ s.size;
      targets_long = (long_tables _ _ l.0).0;
      costs_long = (long_tables _ _ l.0).1;
      slices_long = l.1;
      lawful = lawful _ _ _ _ _ p.1.1.0;
    }
