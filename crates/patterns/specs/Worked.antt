-- Worked lines, about the definitions: by computation alone.
use Rattle.std.specs.Prelude.{◌≡◌, refl, List, [], ◌∷◌, ◌++◌, map, ℕ, take, replicate}
use Rattle.kinds.specs.Bits.{bit, mask_of}
use Rattle.meaning.specs.Bounds.{table_size}
use Rattle.meaning.specs.Lists.{each, from}
use Rattle.rules.specs.Answers.{decided}
use Rattle.rules.specs.Checks.{tables_long}
use Rattle.numbering.specs.Numbering.{meet, meets, row_of, met, target_of, targets_of, accepting_of, over}
use Rattle.patterns.specs.Pattern.{Pattern, Letter, Then, Or, More, Perhaps}
use Rattle.patterns.specs.Line.{Line, lawful, unlawful, is_letter, letters_of, suffix, step, within, parse, letters_right, read_line}
use Rattle.patterns.specs.Places.{null, first, last, follow, places_of, unions, onward, ends}
use Rattle.patterns.specs.Outcome.{Outcome, states_of, count_right, pattern_of}

-- the bytes of letters, and of ( ) * + ? | and a line feed
abbrev a : ℕ
a = 97

abbrev b : ℕ
b = 98

abbrev c : ℕ
c = 99

abbrev q : ℕ
q = 113

abbrev opens : ℕ
opens = 40

abbrev closes : ℕ
closes = 41

abbrev star : ℕ
star = 42

abbrev plus : ℕ
plus = 43

abbrev ask : ℕ
ask = 63

abbrev bar : ℕ
bar = 124

abbrev feed : ℕ
feed = 10

-- THE COLLEAGUES' LINE: (aa|b|bb)(c(aa|b|bb))*
unfoldable pub turns : List ℕ
turns = opens ∷ a ∷ a ∷ bar ∷ b ∷ bar ∷ b ∷ b ∷ closes ∷ []

unfoldable pub the_line : List ℕ
the_line = turns ++ (opens ∷ c ∷ (turns ++ (closes ∷ star ∷ [])))

-- and its pattern
abbrev one_turn : Pattern
one_turn = Or (Then (Letter 0) (Letter 0)) (Or (Letter 1) (Then (Letter 1) (Letter 1)))

pub colleagues : read_line 3 the_line ≡ lawful (Then one_turn (Perhaps (More (Then (Letter 2) one_turn))))
unfolding the_line turns read_line letters_right letters_of is_letter parse within step suffix
colleagues = refl

-- a in n groups, one in another; s written n times
abbrev nested : ℕ → List ℕ
nested n = replicate n opens ++ (a ∷ replicate n closes)

abbrev times : ℕ → List ℕ → List ℕ
times n s = each (λ k. s) (from 0 n)

-- (a|b)
abbrev either : List ℕ
either = opens ∷ a ∷ bar ∷ b ∷ closes ∷ []

-- (a|b)*a, and then (a|b) five times; or (aa|b)(a|bb)(a|b)(a|b)(aa|b), which has one state less
unfoldable pub many_line : List ℕ
many_line = either ++ (star ∷ a ∷ times 5 either)

unfoldable pub full_line : List ℕ
full_line =
    either ++ (star ∷ a ∷ opens ∷ a ∷ a ∷ bar ∷ b ∷ closes ∷ opens ∷ a ∷ bar ∷ b ∷ b ∷ closes ∷ (times 2 either ++ (opens ∷ a ∷ a ∷ bar ∷ b ∷ closes ∷ [])))

-- a right line, V, and the sets of its states in order (0 is the empty prefix, place i has bit i); or a line, V, the answer and Q; or a right
-- line, V, the accepting mask, and the first eight places of both tables, where the one was lent full of 7 and the other of 8
pub data Case : Type 0 where
  Sets : List ℕ → ℕ → List ℕ → Case
  Answers : List ℕ → ℕ → ℕ → ℕ → Case
  Leaves : List ℕ → ℕ → ℕ → List ℕ → List ℕ → Case

abbrev sets_of : ℕ → Line → List ℕ
sets_of vs (lawful p) = states_of vs p
sets_of vs unlawful = []

abbrev left_by : List ℕ → ℕ → Outcome
left_by s vs = pattern_of s vs (replicate table_size 7) (replicate table_size 8)

-- the case as the definitions have it
abbrev pub said : Case → Case
said (Sets s vs cs) = Sets s vs (sets_of vs (read_line vs s))
said (Answers s vs n k) = Answers s vs (left_by s vs).answer (left_by s vs).states
said (Leaves s vs m t u) = Leaves s vs (left_by s vs).accepting (take 8 (left_by s vs).targets) (take 8 (left_by s vs).costs)

unfoldable pub table : List Case
table =
    Sets the_line 3 (0 ∷ 1 ∷ 12 ∷ 2 ∷ 16 ∷ 32 ∷ 64 ∷ 768 ∷ 128 ∷ 1024 ∷ [])
    ∷ Sets (a ∷ []) 1 (0 ∷ 1 ∷ [])
    ∷ Sets (a ∷ star ∷ []) 1 (0 ∷ 1 ∷ [])
    ∷ Sets (opens ∷ a ∷ ask ∷ closes ∷ star ∷ []) 1 (0 ∷ 1 ∷ [])
    ∷ Sets (a ∷ bar ∷ a ∷ []) 2 (0 ∷ 3 ∷ [])
    ∷ Sets (a ∷ b ∷ bar ∷ a ∷ c ∷ []) 3 (0 ∷ 5 ∷ 2 ∷ 8 ∷ [])
    ∷ Sets (a ∷ b ∷ bar ∷ c ∷ b ∷ []) 3 (0 ∷ 1 ∷ 4 ∷ 2 ∷ 8 ∷ [])
    ∷ Leaves (a ∷ b ∷ ask ∷ []) 2 6 (1 ∷ 255 ∷ 255 ∷ 2 ∷ 255 ∷ 255 ∷ 7 ∷ 7 ∷ []) (0 ∷ 0 ∷ 0 ∷ 0 ∷ 0 ∷ 0 ∷ 8 ∷ 8 ∷ [])
    ∷ Leaves (a ∷ star ∷ []) 2 3 (1 ∷ 255 ∷ 1 ∷ 255 ∷ 7 ∷ 7 ∷ 7 ∷ 7 ∷ []) (0 ∷ 0 ∷ 0 ∷ 0 ∷ 8 ∷ 8 ∷ 8 ∷ 8 ∷ [])
    ∷ Leaves (a ∷ plus ∷ []) 2 2 (1 ∷ 255 ∷ 1 ∷ 255 ∷ 7 ∷ 7 ∷ 7 ∷ 7 ∷ []) (0 ∷ 0 ∷ 0 ∷ 0 ∷ 8 ∷ 8 ∷ 8 ∷ 8 ∷ [])
    ∷ Answers the_line 3 0 10
    ∷ Answers the_line 2 15 0
    ∷ Answers the_line 0 1 0
    ∷ Answers the_line 17 1 0
    ∷ Answers (nested 8) 1 0 2
    ∷ Answers (nested 9) 1 15 0
    ∷ Answers (replicate 32 a) 1 0 33
    ∷ Answers (replicate 33 a) 1 15 0
    ∷ Answers (times 32 (nested 3 ++ (ask ∷ []))) 1 0 33
    ∷ Answers (times 31 (nested 3 ++ (ask ∷ [])) ++ nested 4) 1 15 0
    ∷ Answers [] 16 15 0
    ∷ Answers (a ∷ star ∷ star ∷ []) 16 15 0
    ∷ Answers (a ∷ bar ∷ []) 16 15 0
    ∷ Answers (opens ∷ closes ∷ []) 16 15 0
    ∷ Answers (opens ∷ a ∷ []) 16 15 0
    ∷ Answers (a ∷ closes ∷ []) 16 15 0
    ∷ Answers (star ∷ a ∷ []) 16 15 0
    ∷ Answers (q ∷ []) 16 15 0
    ∷ Answers (a ∷ feed ∷ []) 16 15 0
    ∷ Answers many_line 2 14 0
    ∷ Answers full_line 2 0 64
    ∷ []

pub worked : map said table ≡ table
unfolding the_line turns many_line full_line table pattern_of count_right decided tables_long read_line letters_right letters_of is_letter parse within step suffix states_of met meets meet row_of onward ends first follow places_of unions null last bit mask_of targets_of target_of accepting_of over
worked = refl
