-- What the tests of the checks say, and how `decided` goes by them. Assumes nothing.
use mathlib.Core.Path.{◌≡◌, refl, sym, ap, ◌∙◌}
use mathlib.Core.Bool.{Bool, true, false, not, ◌&&◌, ◌||◌, and-eq-true_iff, false≢true}
use mathlib.Core.List.{List, [], ◌∷◌}
use Prim.Native.Nat.{ℕ, ◌+◌, ◌-◌, ◌*◌, ◌^◌, ◌≤◌, ◌<◌}
use native.Mathlib.Nat.{mul-le-mul}
use native.Mathlib.Numerals.{add-one}
use native.Mathlib.Omega.{arith}
use lib.Dec.{leb, ltb, eqb}
use lib.Arith.{digits_lt}
use lib.ListN.{length, get_or, drop, drop_of_length-le}
use lib.Seq.{drop-cons}
use borrow.Author.Tests.{leb-true, ltb-true, eqb-true, le-leb, eq-eqb}
use Rattle.meaning.specs.Lists.{all}
use Rattle.meaning.specs.Bounds.{most_places, most_states, most_values, table_size}
use Rattle.rules.specs.Checks.{size_right, sizes_right, tables_long, arc_right, tables_from, tables_right, rules_right}
use Rattle.rules.specs.Answers.{Check, check, decided}

pub both : (a b : Bool) → (a && b) ≡ true → (a ≡ true) × (b ≡ true)
both a b h = (and-eq-true_iff a b).0 h

pub and_fails : (a b : Bool) → a ≡ false → (a && b) ≡ false
and_fails a b h = rw h

pub and_goes : (a b c : Bool) → a ≡ true → b ≡ c → (a && b) ≡ c
and_goes a b c h e = rw h e

-- nothing follows from two numbers that differ but everything
pub never : {A : Type 0} → ◌≡◌ {A = ℕ} 0 1 → A
never e = absurd (omega arith)

pub or_cases : {A : Type 0} (a b : Bool) → (a || b) ≡ true → (a ≡ true → A) → (b ≡ true → A) → A
or_cases true b e f g = f refl
or_cases false b e f g = g e

pub or_left : (a b : Bool) → a ≡ true → (a || b) ≡ true
or_left a b h = rw h

pub or_right : (a b : Bool) → b ≡ true → (a || b) ≡ true
or_right true b h = refl
or_right false b h = h

pub or_no : (a b : Bool) → (a || b) ≡ false → (a ≡ false) × (b ≡ false)
or_no true b h = absurd (false≢true (sym h))
or_no false b h = (refl, h)

pub not_so : (b : Bool) → (b ≡ true → ⊥) → b ≡ false
not_so true h = absurd (h refl)
not_so false h = refl

-- what a test in code, `if !test(..)`, tells of the test that its contract names
pub test_failed : {r b : Bool} → r ≡ b → r ≡ false → b ≡ false
test_failed e h = sym e ∙ h

pub test_passed : {r b : Bool} → r ≡ b → r ≡ true → b ≡ true
test_passed e h = sym e ∙ h

-- a check that is not passed refuses; one that is passed leaves the rest to decide
module _ {A : Type 0} (refuse : ℕ → A) (done : A) where
  pub refuses : (n : ℕ) (ok : Bool) (ks : List Check) → ok ≡ false → refuse n ≡ decided (check n ok ∷ ks) refuse done
  unfolding decided
  refuses n ok ks h = rw h

  pub passes : (n : ℕ) (ok : Bool) (ks : List Check) {x : A} → ok ≡ true → x ≡ decided ks refuse done → x ≡ decided (check n ok ∷ ks) refuse done
  unfolding decided
  passes n ok ks h e = rw h e

  pub is_done : done ≡ decided [] refuse done
  unfolding decided
  is_done = refl

-- every check is passed
abbrev pub Passed : List Check → Type 0
Passed [] = Unit {0}
Passed (check n ok ∷ ks) = (ok ≡ true) × Passed ks

pub all_passed : {A : Type 0} (refuse : ℕ → A) (done : A) (ks : List Check) → Passed ks → decided ks refuse done ≡ done
unfolding decided
all_passed refuse done [] p = refl
all_passed refuse done (check n ok ∷ ks) p = rw p.0 (all_passed refuse done ks p.1)

-- no check of the list gives the answer a: then, where that is answered, all are passed
abbrev pub others : ℕ → List Check → Bool
others a [] = true
others a (check n ok ∷ ks) = not (eqb n a) && others a ks

pub answered : {A : Type 0} (answer : A → ℕ) (refuse : ℕ → A) (done : A) → ((n : ℕ) → answer (refuse n) ≡ n)
    → (a : ℕ) (ks : List Check) → others a ks ≡ true → answer (decided ks refuse done) ≡ a → Passed ks
unfolding decided
answered answer refuse done f a [] o e = tt
answered answer refuse done f a (check n true ∷ ks) o e = (refl, answered answer refuse done f a ks (both (not (eqb n a)) (others a ks) o).1 e)
answered answer refuse done f a (check n false ∷ ks) o e =
    absurd (false≢true (sym (ap not (eq-eqb n a (sym (f n) ∙ e))) ∙ (both (not (eqb n a)) (others a ks) o).0))

-- what is done matters only if every check is passed
pub decided_same : {A : Type 0} (refuse : ℕ → A) (d e : A) (ks : List Check) → (Passed ks → d ≡ e) → decided ks refuse d ≡ decided ks refuse e
unfolding decided
decided_same refuse d e [] f = f tt
decided_same refuse d e (check n true ∷ ks) f = decided_same refuse d e ks (λ p. f (refl, p))
decided_same refuse d e (check n false ∷ ks) f = refl

-- answer 1
pub record Size (q v s : ℕ) : Type 0 where
  pub some_states : 1 ≤ q
  pub few_states_lem : q ≤ most_states
  pub some_values : 1 ≤ v
  pub few_values : v ≤ most_values
  pub start_state : s < q

-- the last test decides where the others are passed
pub size_last : (q v s : ℕ) → 1 ≤ q → q ≤ most_states → 1 ≤ v → v ≤ most_values → ltb s q ≡ size_right q v s
unfolding size_right
size_last q v s a b c d = rw (le-leb _ _ a, le-leb _ _ b, le-leb _ _ c, le-leb _ _ d)

pub size_of_lem : (q v s : ℕ) → size_right q v s ≡ true → Size q v s
unfolding size_right
size_of_lem q v s h =
    let a = both (leb 1 q) _ h in
    let b = both (leb q most_states) _ a.1 in
    let c = both (leb 1 v) _ b.1 in
    let d = both (leb v most_values) _ c.1 in
    record {
      some_states = leb-true _ _ a.0;
      few_states_lem = leb-true _ _ b.0;
      some_values = leb-true _ _ c.0;
      few_values = leb-true _ _ d.0;
      start_state = ltb-true _ _ d.1;
    }

pub record Sizes (n q v s : ℕ) : Type 0 where
  pub some_places : 1 ≤ n
  pub few_places : n ≤ most_places
  pub size : size_right q v s ≡ true

pub sizes_last : (n q v s : ℕ) → 1 ≤ n → n ≤ most_places → size_right q v s ≡ sizes_right n q v s
unfolding sizes_right
sizes_last n q v s a b = rw (le-leb _ _ a, le-leb _ _ b)

pub sizes_of : (n q v s : ℕ) → sizes_right n q v s ≡ true → Sizes n q v s
unfolding sizes_right
sizes_of n q v s h =
    let a = both (leb 1 n) _ h in
    let b = both (leb n most_places) _ a.1 in
    record { some_places = leb-true _ _ a.0; few_places = leb-true _ _ b.0; size = b.1 }

-- answer 2
pub long_tables : (t c : List ℕ) → tables_long t c ≡ true → (length t ≡ table_size) × (length c ≡ table_size)
unfolding tables_long
long_tables t c h = let p = both (eqb (length t) table_size) _ h in (eqb-true _ _ p.0, eqb-true _ _ p.1)

-- of a rule set whose size and tables' lengths are right, the tables alone decide
module _ (q v s : ℕ) (t c : List ℕ) (a : ℕ) where
  pub rules_tables : size_right q v s ≡ true → tables_long t c ≡ true → rules_right q v s t c a ≡ tables_right q v t c a
  unfolding rules_right
  rules_tables h k = rw (h, k)

-- a loop that tests the numbers of a list one by one: what is left to test, at place i
module _ (f : ℕ → Bool) (xs : List ℕ) (i : ℕ) where
  pub all_more : i < length xs → f (get_or xs i 0) ≡ true → all f (drop i xs) ≡ all f (drop (i + 1) xs)
  all_more h e = rw (drop-cons xs i 0, e, add-one i)

  pub all_fails : i < length xs → f (get_or xs i 0) ≡ false → all f (drop i xs) ≡ false
  all_fails h e = rw (drop-cons xs i 0, e)

  pub all_ends : length xs ≤ i → all f (drop i xs) ≡ true
  all_ends h = rw (drop_of_length-le xs {i = i} h)

-- a loop that tests the places of the tables one by one: at place k, m of them left
pub tables_start : (q v : ℕ) (t c : List ℕ) (a m : ℕ) → m ≡ q * v → tables_right q v t c a ≡ tables_from q t c a 0 m
unfolding tables_right
tables_start q v t c a m e = rw (← e)

module _ (q : ℕ) (t c : List ℕ) (a k m : ℕ) where
  pub tables_more : (j : ℕ) → m ≡ j + 1 → arc_right q (get_or t k 0) (get_or c k 0) ≡ true → tables_from q t c a k m ≡ tables_from q t c a (k + 1) j
  unfolding tables_from
  tables_more j h e = rw (h, add-one j, e, add-one k)

  pub tables_fail : 0 < m → arc_right q (get_or t k 0) (get_or c k 0) ≡ false → tables_from q t c a k m ≡ false
  unfolding tables_from
  tables_fail h e = let z : m ≡ (m - 1) + 1 = omega arith in rw (z, add-one (m - 1), e)

  pub tables_end : m ≡ 0 → tables_from q t c a k m ≡ ltb a (2 ^ q)
  unfolding tables_from
  tables_end h = rw h

-- the tables' places
pub arcs_few : {q v : ℕ} → q ≤ most_states → v ≤ most_values → q * v ≤ table_size
arcs_few h k = mul-le-mul h k

pub arc_place : {q v u : ℕ} → q < most_states → v ≤ most_values → u < v → q * v + u < table_size
arc_place {q} {v} {u} h k l = let d = digits_lt {m = most_states} h l in omega arith
