-- It does not matter who decided first: two sessions from one opening, each after any calls, refused ones, marks and backs among them,
-- compared by what is read in their two memories. Assumes nothing.
use mathlib.Core.Path.{◌≡◌, ap, sym, ◌∙◌, subst₂}
use mathlib.Core.Bool.{true}
use Prim.Native.Nat.{ℕ}
use Rattle.meaning.specs.Comparing.{SameUpToOrder, Contains, NoMore}
use Rattle.meaning.proofs.Decisions.{any_order, no_more}
use Rattle.rules.specs.Checks.{Handed, OneRuleSet}
use Rattle.rules.proofs.Within.{one_refl}
use Rattle.ledger.specs.Sessions.{Opening, places_by, verdict_by}
use Rattle.ledger.specs.History.{memory_after, granted, read_off, Session, begun, newest_handed, decisions_of, shows}
use Rattle.ledger.proofs.Demand.{session_places, session_by}

-- what a session shows, by any k that is one rule set with what the newest call not refused was handed
shows_by : (k : Handed) {o : Opening} (s : Session o) → granted (begun s).answer ≡ true → OneRuleSet k (newest_handed s) → shows s ≡ verdict_by k o (decisions_of s)
shows_by k {o} s e one =
    ap (λ (n : ℕ). read_off n (memory_after (begun s).memory s.calls)) (session_places s.handed o s.memory s.work s.calls e ∙ sym one.places)
    ∙ (session_by k s.handed o s.memory s.work s.calls e one).session_tells

-- WHO DECIDED FIRST PLAYS NO PART: where the decisions are the same up to order, the result, the least cost and the kept masks are the same
pub session_any_order : (o : Opening) (s t : Session o) → granted (begun s).answer ≡ true → granted (begun t).answer ≡ true
    → OneRuleSet (newest_handed s) (newest_handed t) → SameUpToOrder (decisions_of s) (decisions_of t) → shows s ≡ shows t
unfolding verdict_by places_by
session_any_order o s t e f one same =
    let k : Handed = newest_handed s in shows_by k s e (one_refl k) ∙ (any_order _ _ _ _ _ _ same ∙ sym (shows_by k t f one))

-- FURTHER DECISIONS NEVER GIVE BACK: where those of s contain those of t, a value struck in t is struck in s, and the least cost of s is not
-- below that of t while s has a roster
pub session_no_more : (o : Opening) (s t : Session o) → granted (begun s).answer ≡ true → granted (begun t).answer ≡ true
    → OneRuleSet (newest_handed s) (newest_handed t) → Contains (decisions_of s) (decisions_of t) → NoMore (shows s) (shows t)
unfolding verdict_by places_by
session_no_more o s t e f one more =
    let k : Handed = newest_handed s in subst₂ NoMore (sym (shows_by k s e (one_refl k))) (sym (shows_by k t f one)) (no_more _ _ _ _ _ _ more)
