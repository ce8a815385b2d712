-- A list of calls, the newest first: the memory after them, the answers, and, said of calls and answers alone, which decisions stand.
use Rattle.std.specs.Prelude.{◌≡◌, Bool, true, cond, ◌||◌, List, [], ◌∷◌, ◌++◌, ℕ, zero, suc, eqb, length, get_or, take, drop}
use Rattle.meaning.specs.Meaning.{Place, places, Decision, Verdict, verdict, verdict_of}
use Rattle.rules.specs.Checks.{Handed, OneRuleSet}
use Rattle.ledger.specs.Sessions.{Opening, places_by, verdict_by, Ask, deciding, marking, going_back}
use Rattle.ledger.specs.Readiness.{Left}
use Rattle.ledger.specs.Memory.{well_formed}
use Rattle.ledger.specs.Calls.{called, opened}

-- a call: what it is handed and asks, and the work table that it is lent
pub record Call : Type 0 where
  pub handed : Handed
  pub ask : Ask
  pub work : List ℕ

-- what a call answers and leaves, lent the memory m
abbrev pub made : Call → List ℕ → Left
made c m = called c.handed c.ask m c.work

-- the memory after the calls, each lent the memory as the last left it
unfoldable pub memory_after : List ℕ → List Call → List ℕ
memory_after m [] = m
memory_after m (c ∷ cs) = (made c (memory_after m cs)).memory

-- what the caller saw: what each call asked, and its answer
pub record Seen : Type 0 where
  pub ask : Ask
  pub answer : ℕ

abbrev pub seen : Ask → ℕ → Seen
seen a n = record { ask = a; answer = n }

unfoldable pub seen_of : List ℕ → List Call → List Seen
seen_of m [] = []
seen_of m (c ∷ cs) = seen c.ask (made c (memory_after m cs)).answer ∷ seen_of m cs

-- not refused: 0, or 11, which is a result
unfoldable pub granted : ℕ → Bool
granted n = eqb n 0 || eqb n 11

-- what the newest call not refused was handed; where all were refused, h, which the opening was
unfoldable pub last_handed : Handed → List ℕ → List Call → Handed
last_handed h m [] = h
last_handed h m (c ∷ cs) = cond (granted (made c (memory_after m cs)).answer) c.handed (last_handed h m cs)

-- every call not refused was handed the rule set h, whatever stands in its tables from Q × V on; a refused one may have been handed anything
unfoldable pub SameRules : Handed → List ℕ → List Call → Type 0
SameRules h m [] = Unit {0}
SameRules h m (c ∷ cs) = (granted (made c (memory_after m cs)).answer ≡ true → OneRuleSet h c.handed) × SameRules h m cs

-- The calls are read from the newest back. j counts the backs, not refused, that were read and whose mark is not yet met: while it is above 0,
-- what is read was taken back. A back adds one to j, the mark that it goes back to takes one off
unfoldable pub stands : ℕ → Ask → List Decision
stands zero (deciding d) = d ∷ []
stands zero marking = []
stands zero going_back = []
stands (suc j) a = []

unfoldable pub marks_to_pass : ℕ → Ask → ℕ
marks_to_pass j (deciding d) = j
marks_to_pass zero marking = zero
marks_to_pass (suc j) marking = j
marks_to_pass j going_back = suc j

-- the decisions neither refused nor taken back, the oldest first
unfoldable pub standing_after : ℕ → List Seen → List Decision
standing_after j [] = []
standing_after j (s ∷ h) =
    cond (granted s.answer) (standing_after (marks_to_pass j s.ask) h ++ stands j s.ask) (standing_after j h)

-- what is read at the fixed places of the memory of a session of n places: the result, the kept masks and the least cost
unfoldable pub read_off : ℕ → List ℕ → Verdict
read_off n m = verdict (get_or m 0 0) (take n (drop 2 m)) (get_or m 1 0)

-- the limits of places
unfoldable pub limits_of : List Place → List ℕ
limits_of [] = []
limits_of (p ∷ ps) = p.limit ∷ limits_of ps

-- DEMAND 3, of the rule set h, the opening o, the decisions ds and the memory m: what is read is what a filter tells of the opening with the
-- decisions; the kept masks, filtered once more under the limits then in force, tell the same; and the memory is well-formed, as answer 12 has it
pub record OnHand (h : Handed) (o : Opening) (ds : List Decision) (m : List ℕ) : Type 0 where
  pub session_tells : read_off h.places m ≡ verdict_by h o ds
  pub session_again : verdict_of h.rules h.start 0 (places (read_off h.places m).masks (limits_of (places_by o ds))) ≡ verdict_by h o ds
  pub session_formed : well_formed h m ≡ true

-- a session from the opening o: what the opening was handed and lent, and the calls since
pub record Session (o : Opening) : Type 0 where
  pub handed : Handed
  pub memory : List ℕ
  pub work : List ℕ
  pub calls : List Call

-- of a session: what the opening answers and leaves, what the newest call not refused was handed, the decisions neither refused nor
-- taken back, and what is read at the fixed places of the memory then
module _ {o : Opening} (s : Session o) where
  abbrev pub begun : Left
  begun = opened s.handed o s.memory s.work

  abbrev pub newest_handed : Handed
  newest_handed = last_handed s.handed begun.memory s.calls

  abbrev pub decisions_of : List Decision
  decisions_of = standing_after 0 (seen_of begun.memory s.calls)

  abbrev pub shows : Verdict
  shows = read_off (length o.masks) (memory_after begun.memory s.calls)
