-- Sessions with no memory: the opening, and the standing decisions and open marks in order, the newest first.
use Rattle.std.specs.Prelude.{Bool, ◌&&◌, List, [], ◌∷◌, ◌++◌, ℕ, ◌+◌, ◌^◌, ltb}
use Rattle.meaning.specs.Meaning.{Place, places, Decision, Keep, Limit, decides, Verdict, verdict_of}
use Rattle.rules.specs.Checks.{Handed}
use Rattle.rules.specs.Answers.{Check, check}
use Rattle.ledger.specs.Layout.{most_decisions, most_marks}

-- the masks and limits that a session is opened with
pub record Opening : Type 0 where
  pub masks : List ℕ
  pub limits : List ℕ

abbrev pub opening : List ℕ → List ℕ → Opening
opening ms ls = record { masks = ms; limits = ls }

pub data Entry : Type 0 where
  decision : Decision → Entry
  mark : Entry

unfoldable pub is_mark : Entry → ℕ
is_mark (decision d) = 0
is_mark mark = 1

unfoldable pub marks : List Entry → ℕ
marks [] = 0
marks (e ∷ es) = is_mark e + marks es

unfoldable pub is_decision : Entry → ℕ
is_decision (decision d) = 1
is_decision mark = 0

unfoldable pub decisions : List Entry → ℕ
decisions [] = 0
decisions (e ∷ es) = is_decision e + decisions es

-- the standing decisions, the oldest first
unfoldable pub standing : List Entry → List Decision
standing [] = []
standing (decision d ∷ es) = standing es ++ (d ∷ [])
standing (mark ∷ es) = standing es

-- the places that a session has come to, and what a filter tells of them
unfoldable pub places_by : Opening → List Decision → List Place
places_by o ds = decides (places o.masks o.limits) ds

unfoldable pub verdict_by : Handed → Opening → List Decision → Verdict
verdict_by h o ds = verdict_of h.rules h.start 0 (places_by o ds)

-- what a call asks: a decision, a mark, or to go back
pub data Ask : Type 0 where
  deciding : Decision → Ask
  marking : Ask
  going_back : Ask

-- at n places and v values, a place and a decision mask in range
unfoldable pub decision_right : ℕ → ℕ → Decision → Bool
decision_right n v (Keep p m) = ltb p n && ltb m (2 ^ v)
decision_right n v (Limit p c) = ltb p n

-- what refuses each call
abbrev pub ask_checks : ℕ → ℕ → Ask → List Entry → List Check
ask_checks n v (deciding d) es = check 7 (decision_right n v d) ∷ check 8 (ltb (decisions es) most_decisions) ∷ []
ask_checks n v marking es = check 9 (ltb (marks es) most_marks) ∷ []
ask_checks n v going_back es = check 10 (ltb 0 (marks es)) ∷ []

-- the newest open mark goes, and every decision after it
unfoldable pub back_to : List Entry → List Entry
back_to [] = []
back_to (decision d ∷ es) = back_to es
back_to (mark ∷ es) = es

-- the entries after a call that is not refused
unfoldable pub after : Ask → List Entry → List Entry
after (deciding d) es = decision d ∷ es
after marking es = mark ∷ es
after going_back es = back_to es
