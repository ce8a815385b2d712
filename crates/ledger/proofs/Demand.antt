-- Demand 3: after an opening that is not refused and any calls, refused ones among them, what is read in the memory is what a filter
-- tells of the opening with the decisions neither refused nor taken back, a filter of what is kept tells the same, and the memory is
-- well-formed. Each call is handed a rule set anew: one that is not refused, the opening's. Assumes nothing.
use mathlib.Core.Path.{◌≡◌, refl, sym, ap, ◌∙◌}
use mathlib.Core.Bool.{Bool, true, false, cond, not, ◌&&◌}
use mathlib.Core.Logic.{⊎_elim}
use mathlib.Core.List.{List, [], ◌∷◌, ◌++◌, append-nil}
use Prim.Native.Nat.{ℕ, zero, suc, ◌+◌, ◌≤◌, ◌<◌}
use native.Mathlib.Omega.{arith}
use lib.ListN.{length}
use lib.Seq.{take_at}
use borrow.Author.Tests.{ltb-true}
use Rattle.meaning.specs.Meaning.{Rules, Place, places, Decision, Verdict, verdict, verdict_of}
use Rattle.meaning.proofs.Verdicts.{verdict_answers}
use Rattle.meaning.proofs.Decisions.{verdict_again}
use Rattle.rules.specs.Checks.{Handed, sizes_right, OneRuleSet}
use Rattle.rules.specs.Answers.{Check, check, decided, work_after}
use Rattle.rules.proofs.Checks.{both, Passed, all_passed, size_of_lem, sizes_of}
use Rattle.rules.proofs.Within.{one_refl}
use Rattle.ledger.specs.History.{Call, made, memory_after, Seen, seen, seen_of, granted, last_handed, SameRules, stands, marks_to_pass, standing_after, read_off, limits_of, OnHand}
use Rattle.ledger.specs.Sessions.{Opening, Entry, decision, mark, is_mark, marks, is_decision, decisions, standing, places_by, verdict_by, Ask, deciding, marking, going_back, ask_checks, after, back_to}
use Rattle.ledger.proofs.Bounds.{entry_right, entries_right, WithinBounds}
use Rattle.ledger.specs.Readiness.{Left, left, ready_checks}
use Rattle.ledger.specs.Calls.{became, call_checks, called, open_checks, opened}
use Rattle.ledger.specs.Layout.{most_decisions, most_marks, memory_size}
use Rattle.ledger.specs.Memory.{shown_of, image_of, entries_of, opening_of, held_in, well_formed}
use Rattle.ledger.proofs.WellFormed.{verdict_by_long, image_entries, image_opening, image_long, image_right, formed_within}
use Rattle.ledger.proofs.Numbers.{and_both}
use Rattle.ledger.proofs.Alike.{verdict_by_alike, formed_alike}
use Rattle.ledger.proofs.Checked.{memory_of, lengths_of}

-- no check of the list answers 0 or 11
abbrev refusing : List Check → Bool
refusing [] = true
refusing (check n ok ∷ ks) = not (granted n) && refusing ks

refusing_more : (ks ls : List Check) → refusing ks ≡ true → refusing ls ≡ true → refusing (ks ++ ls) ≡ true
refusing_more [] ls e f = f
refusing_more (check n ok ∷ ks) ls e f =
    let b = both (not (granted n)) (refusing ks) e in and_both (not (granted n)) (refusing (ks ++ ls)) b.0 (refusing_more ks ls b.1 f)

-- what holds of every refusal, and of what is done where all checks are passed, holds of what is decided
decided_case : {A : Type 0} (P : A → Type 0) (refuse : ℕ → A) (done : A) (ks : List Check) → refusing ks ≡ true
    → ((n : ℕ) → granted n ≡ false → P (refuse n)) → (Passed ks → P done) → P (decided ks refuse done)
unfolding decided
decided_case P refuse done [] e f g = g tt
decided_case P refuse done (check n true ∷ ks) e f g =
    decided_case P refuse done ks (both (not (granted n)) (refusing ks) e).1 f (λ p. g (refl, p))
decided_case P refuse done (check n false ∷ ks) e f g = f n (not_granted (granted n) (both (not (granted n)) (refusing ks) e).0)
  where
    not_granted : (b : Bool) → not b ≡ true → b ≡ false
    not_granted true h = cc
    not_granted false h = refl

-- the session after a call that is not refused is within its bounds
module _ (n v : ℕ) (o : Opening) where
  more : (e : Entry) (es : List Entry) → WithinBounds n v o es → entry_right n v e ≡ true → is_decision e + decisions es ≤ most_decisions
      → is_mark e + marks es ≤ most_marks → WithinBounds n v o (e ∷ es)
  unfolding entries_right decisions marks
  more e es f a b c = record {
    masks_long = f.masks_long;
    limits_long = f.limits_long;
    masks_right_lem = f.masks_right_lem;
    entries_right_lem = and_both (entry_right n v e) (entries_right n v es) a f.entries_right_lem;
    few = b;
    open_few = c;
  }

  less : (e : Entry) (es : List Entry) → WithinBounds n v o (e ∷ es) → WithinBounds n v o es
  unfolding entries_right decisions marks
  less e es f = record {
    masks_long = f.masks_long;
    limits_long = f.limits_long;
    masks_right_lem = f.masks_right_lem;
    entries_right_lem = (both (entry_right n v e) (entries_right n v es) f.entries_right_lem).1;
    few = omega (arith, f.few);
    open_few = omega (arith, f.open_few);
  }

  back_within : (es : List Entry) → WithinBounds n v o es → WithinBounds n v o (back_to es)
  unfolding back_to
  back_within [] f = f
  back_within (decision d ∷ es) f = back_within es (less (decision d) es f)
  back_within (mark ∷ es) f = less mark es f

  after_within : (a : Ask) (es : List Entry) → WithinBounds n v o es → Passed (ask_checks n v a es) → WithinBounds n v o (after a es)
  unfolding after entry_right is_decision is_mark
  after_within (deciding d) es f p = more (decision d) es f p.0 (omega (arith, ltb-true (decisions es) most_decisions p.1.0)) (omega (arith, f.open_few))
  after_within marking es f p = more mark es f refl (omega (arith, f.few)) (omega (arith, ltb-true (marks es) most_marks p.0))
  after_within going_back es f p = back_within es f

-- the start of sizes that pass their check is a state
start_right : (h : Handed) → sizes_right h.places h.rules.arcs.states h.rules.arcs.values h.start ≡ true → h.start < h.rules.arcs.states
start_right h e = (size_of_lem _ _ _ (sizes_of _ _ _ _ e).size).start_state

abbrev Inside : Handed → Opening → List Entry → Type 0
Inside h o es = WithinBounds h.places h.rules.arcs.values o es

-- memory that is ready for a call holds the same session, whatever the call is handed
module _ (h k : Handed) (o : Opening) (es : List Entry) (m w : List ℕ) (f : Inside h o es) (e : m ≡ image_of h o es)
    (p : Passed (ready_checks k m w)) where
  memory_long : length m ≡ memory_size k.places
  memory_long = memory_of k (length m) w (p.0, (p.1.0, (p.1.1.0, tt)))

  same_places : k.places ≡ h.places
  same_places = let a = memory_long in omega (arith, image_long h o es f, ap length e)

  same_opening : opening_of k.places (held_in k.places m) ≡ o
  same_opening = rw (same_places, e) (image_opening h o es f)

  same_entries : entries_of (held_in k.places m) ≡ es
  same_entries = rw (same_places, e) (image_entries h o es f)

  same_inside : Inside k o es
  same_inside =
      let s = sizes_of _ _ _ _ p.0 in
      rw (same_opening, same_entries) at (formed_within k m memory_long s.some_places s.few_places (size_of_lem _ _ _ s.size).few_values p.1.1.1.0)

-- a call upon it leaves it as it was, or leaves the image, by what the call is handed, of the session after what it asks
module _ (k : Handed) (o : Opening) where
  data Stepped (a : Ask) (es : List Entry) (m : List ℕ) (x : Left) : Type 0 where
    refused : granted x.answer ≡ false → x.memory ≡ m → Stepped a es m x
    done : granted x.answer ≡ true → x.memory ≡ image_of k o (after a es) → Inside k o (after a es) → k.start < k.rules.arcs.states
        → Stepped a es m x

  verdict_granted : (ds : List Decision) → granted (verdict_by k o ds).answered ≡ true
  unfolding granted verdict_by
  verdict_granted ds = ⊎_elim (λ e. rw e) (λ e. rw e) (verdict_answers k.rules k.start 0 (places_by o ds))

  became_granted : (es : List Entry) (w : List ℕ) → (granted (became k o es w).answer ≡ true) × ((became k o es w).memory ≡ image_of k o es)
  unfolding became
  became_granted es w = (verdict_granted (standing es), refl)

  abbrev asked : Ask → List Entry → List Check
  asked a es = ask_checks k.places k.rules.arcs.values a es

  refusing_ask : (a : Ask) (es : List Entry) → refusing (asked a es) ≡ true
  unfolding granted
  refusing_ask (deciding d) es = refl
  refusing_ask marking es = refl
  refusing_ask going_back es = refl

  refusing_ready : (m w : List ℕ) → refusing (ready_checks k m w) ≡ true
  unfolding granted
  refusing_ready m w = refl

  stepped : (h : Handed) (a : Ask) (es : List Entry) (m w : List ℕ) → Inside h o es → m ≡ image_of h o es → Stepped a es m (called k a m w)
  unfolding called
  stepped h a es m w f e =
      let l : List ℕ = held_in k.places m in
      decided_case (Stepped a es m) (λ n. left n m (work_after n w)) (became k (opening_of k.places l) (after a (entries_of l)) w)
      (call_checks k a m w) (refusing_more (ready_checks k m w) (asked a (entries_of l)) (refusing_ready m w) (refusing_ask a (entries_of l)))
      (λ n e. refused e refl)
      (λ p.
      let r : Passed (ready_checks k m w) = (p.0, (p.1.0, (p.1.1.0, (p.1.1.1.0, tt)))) in
      let q : Passed (asked a (entries_of l)) = p.1.1.1.1 in
      let i = same_entries h k o es m w f e r in
      rw (same_opening h k o es m w f e r, i)
      (let b = became_granted (after a es) w in
      done b.0 b.1 (after_within k.places k.rules.arcs.values o a es (same_inside h k o es m w f e r) (rw i at q)) (start_right k r.0)))

-- j times back
backs : ℕ → List Entry → List Entry
backs zero es = es
backs (suc j) es = backs j (back_to es)

-- what stands by the calls is what stands in the session
module _ (es : List Entry) (log : List Seen) (before : (j : ℕ) → standing_after j log ≡ standing (backs j es)) where
  stands_by : (a : Ask) (j : ℕ) → standing_after (marks_to_pass j a) log ++ stands j a ≡ standing (backs j (after a es))
  unfolding marks_to_pass stands after standing backs back_to
  stands_by (deciding d) zero = ap (λ (ds : List Decision). ds ++ (d ∷ [])) (before zero)
  stands_by (deciding d) (suc j) = append-nil _ ∙ before (suc j)
  stands_by marking zero = append-nil _ ∙ before zero
  stands_by marking (suc j) = append-nil _ ∙ before j
  stands_by going_back zero = append-nil _ ∙ before 1
  stands_by going_back (suc j) = append-nil _ ∙ before (suc (suc j))

  stands_refused : (a : Ask) (n : ℕ) → granted n ≡ false → (j : ℕ) → standing_after j (seen a n ∷ log) ≡ standing (backs j es)
  unfolding standing_after
  stands_refused a n e j = rw e (before j)

  stands_done : (a : Ask) (n : ℕ) → granted n ≡ true → (j : ℕ) → standing_after j (seen a n ∷ log) ≡ standing (backs j (after a es))
  unfolding standing_after
  stands_done a n e j = rw e (stands_by a j)

nothing_stands : (j : ℕ) → standing_after j [] ≡ standing (backs j [])
unfolding standing_after standing backs back_to
nothing_stands zero = refl
nothing_stands (suc j) = nothing_stands j

-- a list of places is that of its masks and its limits
masks_of : List Place → List ℕ
masks_of [] = []
masks_of (p ∷ ps) = p.mask ∷ masks_of ps

places_of : (ps : List Place) → places (masks_of ps) (limits_of ps) ≡ ps
unfolding places masks_of limits_of
places_of [] = refl
places_of (p ∷ ps) = ap (λ (qs : List Place). p ∷ qs) (places_of ps)

masks_length : (ps : List Place) → length (masks_of ps) ≡ length ps
unfolding masks_of
masks_length [] = refl
masks_length (p ∷ ps) = ap suc (masks_length ps)

pub limits_length : (ps : List Place) → length (limits_of ps) ≡ length ps
unfolding limits_of
limits_length [] = refl
limits_length (p ∷ ps) = ap suc (limits_length ps)

again : (r : Rules) (q : ℕ) (ps : List Place) → verdict_of r q 0 (places (verdict_of r q 0 ps).masks (limits_of ps)) ≡ verdict_of r q 0 ps
again r q ps = rw (places_of ps) at (verdict_again r q 0 (masks_of ps) (limits_of ps) (masks_length ps ∙ sym (limits_length ps)))

-- the session that the calls have come to, by what was last handed
module _ (o : Opening) where
  record Reached (h : Handed) (m : List ℕ) (log : List Seen) : Type 0 where
    entries : List Entry
    inside : Inside h o entries
    image : m ≡ image_of h o entries
    start_state : h.start < h.rules.arcs.states
    as_seen : (j : ℕ) → standing_after j log ≡ standing (backs j entries)

  step_on : (h : Handed) (c : Call) (m : List ℕ) (log : List Seen) → Reached h m log
      → Reached (cond (granted (made c m).answer) c.handed h) (made c m).memory (seen c.ask (made c m).answer ∷ log)
  step_on h c m log r = go (made c m) (stepped c.handed o h c.ask r.entries m c.work r.inside r.image)
    where
      go : (x : Left) → Stepped c.handed o c.ask r.entries m x
          → Reached (cond (granted x.answer) c.handed h) x.memory (seen c.ask x.answer ∷ log)
      go x (refused e i) =
          rw (e, i) (record {
            entries = r.entries;
            inside = r.inside;
            image = r.image;
            start_state = r.start_state;
            as_seen = stands_refused r.entries log r.as_seen c.ask x.answer e;
          })
      go x (done e i f l) =
          rw e (record {
            entries = after c.ask r.entries;
            inside = f;
            image = i;
            start_state = l;
            as_seen = stands_done r.entries log r.as_seen c.ask x.answer e;
          })

  reads_of : (h : Handed) (es : List Entry) → Inside h o es → read_off h.places (image_of h o es) ≡ verdict_by h o (standing es)
  unfolding image_of shown_of read_off
  reads_of h es f =
      let t : Verdict = verdict_by h o (standing es) in
      ap (λ (ks : List ℕ). verdict t.answered ks t.cheapest)
      (take_at t.masks _ h.places (verdict_by_long h o (standing es) f.masks_long f.limits_long))

-- what is kept tells the same once more, whatever it is read from
on_hand : (h : Handed) (o : Opening) (ds : List Decision) (m : List ℕ) → read_off h.places m ≡ verdict_by h o ds → well_formed h m ≡ true → OnHand h o ds m
unfolding verdict_by
on_hand h o ds m r f = record {
  session_tells = r;
  session_again =
      ap (λ (t : Verdict). verdict_of h.rules h.start 0 (places t.masks (limits_of (places_by o ds)))) r
      ∙ again h.rules h.start (places_by o ds);
  session_formed = f;
}

-- it is on hand for one rule set, however it was handed in
on_hand_alike : (h k : Handed) (o : Opening) (ds : List Decision) (m : List ℕ) → OneRuleSet h k → h.start < h.rules.arcs.states → OnHand k o ds m → OnHand h o ds m
on_hand_alike h k o ds m one state t =
    on_hand h o ds m (ap (λ (n : ℕ). read_off n m) one.places ∙ t.session_tells ∙ sym (verdict_by_alike h k one state o ds))
    (formed_alike h k one state m ∙ t.session_formed)

module _ (h : Handed) (o : Opening) where
  reached : (m : List ℕ) → m ≡ image_of h o [] → Inside h o [] → h.start < h.rules.arcs.states → (cs : List Call)
      → Reached o (last_handed h m cs) (memory_after m cs) (seen_of m cs)
  unfolding memory_after seen_of last_handed
  reached m e f l [] = record { entries = []; inside = f; image = e; start_state = l; as_seen = nothing_stands }
  reached m e f l (c ∷ cs) = step_on o (last_handed h m cs) c (memory_after m cs) (seen_of m cs) (reached m e f l cs)

  -- where every call not refused was handed the opening's rule set, so was the newest
  same_rules : (m : List ℕ) (cs : List Call) → SameRules h m cs → OneRuleSet h (last_handed h m cs)
  unfolding SameRules last_handed
  same_rules m [] s = one_refl h
  same_rules m (c ∷ cs) s = go (granted (made c (memory_after m cs)).answer) s.0 (same_rules m cs s.1)
    where
      go : (b : Bool) → (b ≡ true → OneRuleSet h c.handed) → OneRuleSet h (last_handed h m cs) → OneRuleSet h (cond b c.handed (last_handed h m cs))
      go true e i = e refl
      go false e i = i

  -- an opening that is not refused has passed its checks
  pub opening_passed : (m w : List ℕ) → granted (opened h o m w).answer ≡ true → Passed (open_checks h o m w)
  unfolding opened granted
  opening_passed m w =
      decided_case (λ x. granted x.answer ≡ true → Passed (open_checks h o m w)) (λ n. left n m (work_after n w)) (became h o [] w)
      (open_checks h o m w) refl (λ n e f. absurd (let z : ◌≡◌ {A = ℕ} 0 1 = cc in omega arith)) (λ p e. p)

  module _ (m w : List ℕ) (p : Passed (open_checks h o m w)) where
    opening_image : (opened h o m w).memory ≡ image_of h o []
    unfolding opened
    opening_image =
        ap (λ (x : Left). x.memory) (all_passed (λ n. left n m (work_after n w)) (became h o [] w) (open_checks h o m w) p) ∙ (became_granted h o [] w).1

    opening_within : Inside h o []
    unfolding entries_right decisions marks
    opening_within =
        let a = lengths_of h.places h.rules.arcs.targets h.rules.arcs.costs o (length m) (length w) p.1.0 in
        record {
          masks_long = a.masks_are;
          limits_long = a.limits_are;
          masks_right_lem = p.1.1.1.0;
          entries_right_lem = refl;
          few = omega arith;
          open_few = omega arith;
        }

-- what an opening that is not refused and any calls come to
module _ (h : Handed) (o : Opening) (m w : List ℕ) (cs : List Call) (e : granted (opened h o m w).answer ≡ true) where
  abbrev begins : List ℕ
  begins = (opened h o m w).memory

  comes_to : Reached o (last_handed h begins cs) (memory_after begins cs) (seen_of begins cs)
  comes_to =
      let p = opening_passed h o m w e in
      reached h o begins (opening_image h o m w p) (opening_within h o m w p) (start_right h p.0) cs

  -- the newest call not refused was handed as many places as the opening has masks
  pub session_places : length o.masks ≡ (last_handed h begins cs).places
  session_places = comes_to.inside.masks_long

-- For any calls, each handed anything: by what the newest call not refused was handed
pub session_last : (h : Handed) (o : Opening) (m w : List ℕ) (cs : List Call) → granted (opened h o m w).answer ≡ true
    → OnHand (last_handed h (opened h o m w).memory cs) o (standing_after 0 (seen_of (opened h o m w).memory cs)) (memory_after (opened h o m w).memory cs)
unfolding backs
session_last h o m w cs e =
    let k : Handed = last_handed h (opened h o m w).memory cs in
    let r = comes_to h o m w cs e in
    on_hand k o _ _ (rw (r.image, r.as_seen 0) (reads_of o k r.entries r.inside)) (rw r.image (image_right k o r.entries r.inside))

-- the same by any k that is one rule set with that
pub session_by : (k h : Handed) (o : Opening) (m w : List ℕ) (cs : List Call) → granted (opened h o m w).answer ≡ true
    → OneRuleSet k (last_handed h (opened h o m w).memory cs)
    → OnHand k o (standing_after 0 (seen_of (opened h o m w).memory cs)) (memory_after (opened h o m w).memory cs)
session_by k h o m w cs e one =
    on_hand_alike k _ o _ _ one (rw (one.start, one.rules.states) (comes_to h o m w cs e).start_state) (session_last h o m w cs e)

-- DEMAND 3, where every call not refused was handed the opening's rule set
pub demand_3 : (h : Handed) (o : Opening) (m w : List ℕ) (cs : List Call) → granted (opened h o m w).answer ≡ true
    → SameRules h (opened h o m w).memory cs
    → OnHand h o (standing_after 0 (seen_of (opened h o m w).memory cs)) (memory_after (opened h o m w).memory cs)
demand_3 h o m w cs e s = session_by h h o m w cs e (same_rules h o (opened h o m w).memory cs s)
