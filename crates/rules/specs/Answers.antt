-- The answer numbers, and how the checks of a call, in the paper's order, decide what comes of it.
use Rattle.std.specs.Prelude.{Bool, true, false, cond, List, [], ◌∷◌, ℕ, eqb, leb, length, replicate, Result, Ok, Err}
use Rattle.rules.specs.declared.Answer.{Answer}
use Rattle.rules.specs.declared.Answer.TheVariants as the

-- the paper's number of each answer but 0, which is no refusal
abbrev pub number_of : Answer → ℕ
number_of the.WrongSize = 1
number_of the.WrongLength = 2
number_of the.WrongTables = 3
number_of the.WrongMask = 4
number_of the.WrongSheet = 5
number_of the.ShortBuffer = 6
number_of the.OutOfRange = 7
number_of the.DecisionsFull = 8
number_of the.MarksFull = 9
number_of the.NoMark = 10
number_of the.NoRoster = 11
number_of the.WrongMemory = 12
number_of the.NumberOutside = 13
number_of the.ManyStates = 14
number_of the.WrongPattern = 15

-- the answer number of what a call gives: 0 where it is done
abbrev pub answer_of : {A : Type 0} → Result A Answer → ℕ
answer_of (Ok x) = 0
answer_of (Err a) = number_of a

-- the number that it carries: 0 where there is none
abbrev pub carried : Result ℕ Answer → ℕ
carried (Ok n) = n
carried (Err a) = 0

-- the order in which checks run
unfoldable pub order : List ℕ
order = 1 ∷ 2 ∷ 3 ∷ 4 ∷ 5 ∷ 13 ∷ 15 ∷ 14 ∷ 12 ∷ 7 ∷ 8 ∷ 9 ∷ 10 ∷ 6 ∷ 11 ∷ []

-- a check: its answer number, and whether it is passed
pub data Check : Type 0 where
  check : ℕ → Bool → Check

-- the checks run in the order of the numbers
unfoldable pub in_order : List ℕ → List Check → Bool
in_order ns [] = true
in_order [] (k ∷ ks) = false
in_order (n ∷ ns) (check m ok ∷ ks) = cond (eqb n m) (in_order ns ks) (in_order ns (check m ok ∷ ks))

-- the first check that is not passed refuses, with its number; where all are passed, the call is done
unfoldable pub decided : {A : Type 0} → List Check → (ℕ → A) → A → A
decided [] refuse done = done
decided (check n ok ∷ ks) refuse done = cond ok (decided ks refuse done) (refuse n)

abbrev pub zeros : List ℕ → List ℕ
zeros work = replicate (length work) 0

-- a refusal leaves a lent work table all zeros, except under answers 1 and 2
abbrev pub work_after : ℕ → List ℕ → List ℕ
work_after n work = cond (leb n 2) work (zeros work)
