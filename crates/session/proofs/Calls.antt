-- The returns of keep, limit, mark and back. Assumes nothing.
use mathlib.Core.Path.{◌≡◌, refl, sym, ap, ap₂, ◌∙◌}
use mathlib.Core.Bool.{Bool, true, false, cond}
use mathlib.Core.Logic.{⊎_elim}
use mathlib.Core.List.{List, ◌∷◌, ◌++◌, append-nil}
use Prim.Native.Nat.{ℕ, ◌+◌, ◌-◌, ◌≤◌, ◌<◌}
use native.Mathlib.Omega.{arith}
use Rattle.std.specs.Prelude.{Option, None, Some}
use lib.Dec.{eqb, ltb}
use lib.ListN.{length, get_or, drop, take, replicate, length-append, length-replicate, length-drop, drop_of_length-le}
use lib.Seq.{drop_at, length-take-le, get_or-drop}
use borrow.Author.Tests.{eq-eqb, lt-ltb, le-ltb}
use Rattle.meaning.specs.Meaning.{Decision, Verdict}
use Rattle.meaning.specs.Bounds.{most_places, most_values}
use Rattle.meaning.proofs.Verdicts.{verdict_answers}
use Rattle.rules.specs.Checks.{Handed}
use Rattle.rules.specs.Answers.{decided, work_after, zeros}
use Rattle.rules.proofs.Checks.{Passed, size_of_lem, sizes_of}
use Rattle.ledger.specs.Sessions.{Opening, Entry, decision, mark, is_mark, marks, is_decision, decisions, standing, places_by, verdict_by, Ask, deciding, marking, going_back, decision_right, ask_checks, after, back_to}
use Rattle.ledger.proofs.Bounds.{WithinBounds}
use Rattle.ledger.specs.Readiness.{readiness, ready_of, ready_checks, lent_checks, Left, left, renewed_of, renewed_by, Lent}
use Rattle.ledger.specs.Calls.{became, called}
use Rattle.ledger.specs.Layout.{most_decisions, most_marks, most_entries, shown_size, held_size, memory_size}
use Rattle.ledger.specs.Memory.{count_of, rows_of, held_of, shown_of, image_of, entry_of, entries_of, opening_of, held_in, row_right, held_right, verdict_held, Held}
use Rattle.ledger.proofs.WellFormed.{formed_held, formed_within, formed_shown}
use Rattle.ledger.proofs.Numbers.{tail_is}
use Rattle.ledger.proofs.Checked.{through, refused_on, passed_on, lent_of_lem, memory_of}
use Rattle.ledger.proofs.Image.{one_each, held_of_lem, entries_of_lem, opening_of_lem, long_of}
use Rattle.session.specs.Inner.{Counted, pushed, mark_at, undone_at, Formed, decided_on}
use Rattle.session.proofs.Pushes.{Addable, held_counts, added_within, added_counts, added_held}
use Rattle.session.proofs.Backs.{counted, no_mark, undo_there, back_within, some_marks, back_held}

-- memory in which what is held has become y
abbrev pub around : ℕ → List ℕ → List ℕ → List ℕ
around n m y = take (shown_size n) m ++ (y ++ drop (length m - shown_size n) (held_in n m))

module _ (n : ℕ) (m y : List ℕ) (long : length m ≡ memory_size n) where
  front_long : length (take (shown_size n) m) ≡ shown_size n
  front_long = length-take-le (shown_size n) m (omega arith)

  pub around_is : around n m y ≡ take (shown_size n) m ++ y
  around_is =
      ap (λ (t : List ℕ). take (shown_size n) m ++ t)
      (ap (λ (t : List ℕ). y ++ t) (drop_of_length-le (held_in n m) {i = length m - shown_size n} (simp length-drop (omega arith))) ∙ append-nil y)

  pub around_held : held_in n (around n m y) ≡ y
  around_held = ap (held_in n) around_is ∙ drop_at (take (shown_size n) m) y (shown_size n) front_long

  pub around_long : length y ≡ held_size n → length (around n m y) ≡ memory_size n
  around_long e = ap length around_is ∙ length-append (take (shown_size n) m) y ∙ (let f = front_long in omega arith)

-- what is told of a session that is held
pub verdict_of_lem : (h : Handed) (o : Opening) (es : List Entry) → WithinBounds h.places h.rules.arcs.values o es
    → verdict_held h (held_of h.places h.rules.arcs.states h.rules.arcs.values h.start o es) ≡ verdict_by h o (standing es)
unfolding verdict_held
verdict_of_lem h o es f =
    ap₂ (λ (a : List Entry) (b : Opening). verdict_by h b (standing a))
    (entries_of_lem h.places h.rules.arcs.states h.rules.arcs.values h.start o es f)
    (opening_of_lem h.places h.rules.arcs.states h.rules.arcs.values h.start o es f)

-- renewing gives the image
module _ (h : Handed) (m y w : List ℕ) (o : Opening) (es : List Entry) (lent : Lent h w) (long : length m ≡ memory_size h.places)
    (is : y ≡ held_of h.places h.rules.arcs.states h.rules.arcs.values h.start o es)
    (fits : WithinBounds h.places h.rules.arcs.values o es) where
  abbrev right : List ℕ → Bool
  right l = held_right h.places h.rules.arcs.states h.rules.arcs.values h.start l

  right_now : right (held_in h.places (around h.places m y)) ≡ true
  right_now =
      ap right (around_held h.places m y long ∙ is)
      ∙ held_of_lem h.places h.rules.arcs.states h.rules.arcs.values h.start o es fits

  long_now : length (around h.places m y) ≡ memory_size h.places
  long_now = around_long h.places m y long (ap length is ∙ long_of h.places h.rules.arcs.states h.rules.arcs.values h.start o es fits)

  by_renewing : renewed_by h (held_in h.places (around h.places m y)) w ≡ became h o es w
  unfolding renewed_by became image_of
  by_renewing =
      ap (λ (l : List ℕ). left (verdict_held h l).answered (shown_of (verdict_held h l) ++ l) (zeros w)) (around_held h.places m y long ∙ is)
      ∙ ap (λ (t : Verdict). left t.answered (shown_of t ++ held_of h.places h.rules.arcs.states h.rules.arcs.values h.start o es) (zeros w))
      (verdict_of_lem h o es fits)

  pub renews_as : (x : Left) → x ≡ renewed_of h (around h.places m y) w → x ≡ became h o es w
  unfolding renewed_of decided
  renews_as x e =
      (rw (lent.sized, lent.tabled, eq-eqb _ _ long_now, eq-eqb _ _ lent.worked, lent.ruled, right_now) at e) ∙ by_renewing

-- memory that is ready
module _ (h : Handed) (m w : List ℕ) (f : Formed h m w) where
  abbrev l : List ℕ
  l = held_in h.places m

  abbrev part : List ℕ
  part = take (length m - shown_size h.places) l

  abbrev es : List Entry
  es = entries_of l

  pub bounds : (1 ≤ h.places) × (h.places ≤ most_places) × (h.rules.arcs.values ≤ most_values)
  bounds = let s = sizes_of _ _ _ _ f.lent.sized in (s.some_places, s.few_places, (size_of_lem _ _ _ s.size).few_values)

  pub held_is : Held h.places h.rules.arcs.states h.rules.arcs.values h.start l
  held_is = let b = bounds in formed_held h m f.long b.0 b.1 b.2 f.formed

  fits_is : WithinBounds h.places h.rules.arcs.values (opening_of h.places l) es
  fits_is = let b = bounds in formed_within h m f.long b.0 b.1 b.2 f.formed

  pub at_decisions : get_or m (shown_size h.places + 4) 0 ≡ decisions es
  at_decisions =
      sym (get_or-drop (shown_size h.places) m 4 0) ∙ (held_counts h.places h.rules.arcs.states h.rules.arcs.values h.start l held_is).0

  pub at_marks : get_or m (shown_size h.places + 5) 0 ≡ marks es
  at_marks =
      sym (get_or-drop (shown_size h.places) m 5 0) ∙ (held_counts h.places h.rules.arcs.states h.rules.arcs.values h.start l held_is).1

  -- one more entry
  module _ (k p x : ℕ) (add : Addable h.places h.rules.arcs.states h.rules.arcs.values h.start k p x l) where
    pub push_ready : Counted part × (get_or part 4 0 + get_or part 5 0 < most_entries)
    push_ready =
        let c = added_counts h.places h.rules.arcs.states h.rules.arcs.values h.start k p x l add in
        rw (tail_is (shown_size h.places) m) (record { few = c.0; open_few = c.1; long = omega (arith, add.held.long) }, c.2)

    pushed_held : (y : List ℕ) → y ≡ pushed k p x part
        → y ≡ held_of h.places h.rules.arcs.states h.rules.arcs.values h.start (opening_of h.places l) (entry_of k p x ∷ es)
    pushed_held y e =
        e ∙ ap (pushed k p x) (tail_is (shown_size h.places) m)
        ∙ added_held h.places h.rules.arcs.states h.rules.arcs.values h.start k p x l add

    push_renews : (y : List ℕ) → y ≡ pushed k p x part → (r : Left) → r ≡ renewed_of h (around h.places m y) w
        → r ≡ became h (opening_of h.places l) (entry_of k p x ∷ es) w
    push_renews y e r g =
        renews_as h m y w (opening_of h.places l) (entry_of k p x ∷ es) f.lent f.long (pushed_held y e)
        (added_within h.places h.rules.arcs.states h.rules.arcs.values h.start k p x l add) r g

    -- an entry that decides nothing leaves what is shown
    push_shows : standing (entry_of k p x ∷ es) ≡ standing es → (y : List ℕ) → y ≡ pushed k p x part
        → around h.places m y ≡ image_of h (opening_of h.places l) (entry_of k p x ∷ es)
    unfolding image_of verdict_held
    push_shows s y e =
        let b = bounds in
        around_is h.places m y f.long
        ∙ ap₂ (λ (a d : List ℕ). a ++ d)
        (formed_shown h m f.long b.0 b.1 b.2 f.formed ∙ ap (λ (ds : List Decision). shown_of (verdict_by h (opening_of h.places l) ds)) (sym s))
        (pushed_held y e)

  -- decisions
  module _ (k p x : ℕ) (row : row_right h.places h.rules.arcs.values k p x ≡ true) (no : is_mark (entry_of k p x) ≡ 0) where
    pub decide_full : most_decisions ≤ get_or m (shown_size h.places + 4) 0 → left 8 m w ≡ decided_on h (entry_of k p x) m w
    unfolding decided_on decided
    decide_full c = let d = at_decisions in rw (le-ltb (decisions es) most_decisions (omega arith)) (ap (left 8 m) f.cleared)

    pub decide_adds : get_or m (shown_size h.places + 4) 0 < most_decisions
        → Addable h.places h.rules.arcs.states h.rules.arcs.values h.start k p x l
    unfolding decisions marks
    decide_adds c =
        let d = at_decisions in
        let b = fits_is in
        record { held = held_is; row = row; few = omega (arith, one_each (entry_of k p x)); open_few = omega (arith, b.open_few) }

    pub decide_goes : get_or m (shown_size h.places + 4) 0 < most_decisions → (y : List ℕ) → y ≡ pushed k p x part
        → (r : Left) → r ≡ renewed_of h (around h.places m y) w → r ≡ decided_on h (entry_of k p x) m w
    unfolding decided_on decided
    decide_goes c y e r g =
        let d = at_decisions in
        rw (lt-ltb (decisions es) most_decisions (omega arith)) (push_renews k p x (decide_adds c) y e r g)

  -- a mark
  pub mark_adds : get_or m (shown_size h.places + 5) 0 < most_marks
      → Addable h.places h.rules.arcs.states h.rules.arcs.values h.start 3 0 0 l
  unfolding row_right entry_of decisions marks is_decision is_mark
  mark_adds c =
      let d = at_marks in
      let b = fits_is in
      record { held = held_is; row = refl; few = omega (arith, b.few); open_few = omega arith }

  mark_entry : (entry_of 3 0 0 ≡ mark) × (standing (entry_of 3 0 0 ∷ es) ≡ standing es)
  unfolding entry_of standing
  mark_entry = (refl, refl)

  -- the result on hand is an answer
  on_hand : (o : Opening) (es : List Entry) → cond (eqb (get_or (image_of h o es) 0 0) 0) 0 11 ≡ (verdict_by h o (standing es)).answered
  unfolding image_of shown_of verdict_by
  on_hand o es =
      ⊎_elim (λ e. rw e) (λ e. rw e) (verdict_answers h.rules h.start 0 (places_by o (standing es)))

  pub mark_goes : get_or m (shown_size h.places + 5) 0 < most_marks → (y : List ℕ) → y ≡ pushed 3 0 0 part
      → (r : ℕ) → r ≡ cond (eqb (get_or (around h.places m y) 0 0) 0) 0 11
      → left r (around h.places m y) w ≡ became h (opening_of h.places l) (mark ∷ es) w
  unfolding became
  mark_goes c y e r g =
      let i : around h.places m y ≡ image_of h (opening_of h.places l) (mark ∷ es) =
      push_shows 3 0 0 (mark_adds c) mark_entry.1 y e ∙ ap (λ (x : Entry). image_of h (opening_of h.places l) (x ∷ es)) mark_entry.0 in
      ap₂ (λ (x : ℕ) (t : List ℕ). left x t w) (g ∙ ap (λ (t : List ℕ). cond (eqb (get_or t 0 0) 0) 0 11) i ∙ on_hand (opening_of h.places l) (mark ∷ es)) i
      ∙ ap (left _ _) f.cleared

  -- back
  pub back_ready : Counted part
  back_ready = rw (tail_is (shown_size h.places) m) (counted h.places h.rules.arcs.states h.rules.arcs.values h.start l held_is)

  module _ (j : Option ℕ) (is : j ≡ mark_at (count_of part) (rows_of part)) where
    newest : j ≡ mark_at (count_of l) (rows_of l)
    newest = is ∙ ap (λ (t : List ℕ). mark_at (count_of t) (rows_of t)) (tail_is (shown_size h.places) m)

    pub back_none : j ≡ None → marks es ≡ 0
    back_none z = no_mark h.places h.rules.arcs.states h.rules.arcs.values h.start l held_is j newest z

    module _ (i : ℕ) (z : j ≡ Some i) where
      pub undo_ready : Counted part × (i < get_or part 4 0 + get_or part 5 0) × (1 ≤ get_or part 5 0) × (get_or part 5 0 ≤ i + 1)
      undo_ready =
          let u = undo_there h.places h.rules.arcs.states h.rules.arcs.values h.start l held_is j newest i z in
          (back_ready, rw (tail_is (shown_size h.places) m) u.0, rw (tail_is (shown_size h.places) m) u.1, rw (tail_is (shown_size h.places) m) u.2)

      pub back_some : 0 < marks es
      back_some = some_marks h.places h.rules.arcs.states h.rules.arcs.values h.start l held_is j newest i z

      pub back_renews : (y : List ℕ) → y ≡ undone_at i part → (r : Left) → r ≡ renewed_of h (around h.places m y) w
          → r ≡ became h (opening_of h.places l) (back_to es) w
      back_renews y e r g =
          renews_as h m y w (opening_of h.places l) (back_to es) f.lent f.long
          (e ∙ ap (undone_at i) (tail_is (shown_size h.places) m)
          ∙ back_held h.places h.rules.arcs.states h.rules.arcs.values h.start l held_is j newest i z)
          (back_within h.places h.rules.arcs.states h.rules.arcs.values h.start l held_is j newest i z) r g

-- a call by what `ready` answers
module _ (h : Handed) (m w w' : List ℕ) (a : ℕ) (e : readiness a w' ≡ ready_of h m w) where
  pub call_refused : (ask : Ask) → (a ≡ 0 → ⊥) → left a m w' ≡ called h ask m w
  unfolding ready_of called
  call_refused ask z = refused_on w (zeros w) (λ n u. left n m u) _ _ (ready_checks h m w) (readiness a w') e z

  module _ (z : a ≡ 0) where
    both_of : Passed (ready_checks h m w) × (w' ≡ zeros w)
    unfolding ready_of
    both_of = passed_on w (zeros w) (ready_checks h m w) (readiness a w') refl e z

    lent_part : Passed (lent_checks h (length m) (length w))
    lent_part = let p = both_of.0 in (p.0, (p.1.0, (p.1.1.0, tt)))

    zeros_again : zeros (zeros w) ≡ zeros w
    zeros_again = ap (λ (k : ℕ). replicate k 0) (length-replicate (length w) 0)

    pub ready_formed : Formed h m w'
    ready_formed =
        let t = lent_of_lem h (length m) w lent_part in
        rw both_of.1 (record {
          lent = record { sized = t.sized; tabled = t.tabled; ruled = t.ruled; worked = length-replicate (length w) 0 ∙ t.worked };
          long = memory_of h (length m) w lent_part;
          formed = both_of.0.1.1.1.0;
          cleared = sym zeros_again;
        })

    abbrev l' : List ℕ
    l' = held_in h.places m

    call_tail : (ask : Ask) → called h ask m w
        ≡ decided (ask_checks h.places h.rules.arcs.values ask (entries_of l')) (λ n. left n m (work_after n w)) (became h (opening_of h.places l') (after ask (entries_of l')) w)
    unfolding called
    call_tail ask = through (ready_checks h m w) (ask_checks h.places h.rules.arcs.values ask (entries_of l')) _ _ both_of.0

    -- the work table is cleared already
    became_now : (o : Opening) (es : List Entry) → became h o es w' ≡ became h o es w
    unfolding became
    became_now o es = ap (left _ _) (ap (λ (u : List ℕ). zeros u) both_of.1 ∙ zeros_again)

    pub call_far : (d : Decision) → decision_right h.places h.rules.arcs.values d ≡ false → left 7 m w' ≡ called h (deciding d) m w
    unfolding decided
    call_far d b = rw (call_tail (deciding d), b) (ap (left 7 m) both_of.1)

    pub call_decides : (d : Decision) (k p x : ℕ) → entry_of k p x ≡ decision d → decision_right h.places h.rules.arcs.values d ≡ true
        → (r : Left) → r ≡ decided_on h (entry_of k p x) m w' → r ≡ called h (deciding d) m w
    unfolding decided_on decided after
    call_decides d k p x i b r g =
        rw (call_tail (deciding d), b)
        (g ∙ ap₂ (λ (s t : Left). cond (ltb (decisions (entries_of l')) most_decisions) s t)
        (became_now (opening_of h.places l') (entry_of k p x ∷ entries_of l') ∙ ap (λ (c : Entry). became h (opening_of h.places l') (c ∷ entries_of l') w) i)
        (ap (left 8 m) (ap (λ (u : List ℕ). zeros u) both_of.1 ∙ zeros_again)))

    pub call_full : most_marks ≤ marks (entries_of l') → left 9 m w' ≡ called h marking m w
    unfolding decided
    call_full c = rw (call_tail marking, le-ltb (marks (entries_of l')) most_marks c) (ap (left 9 m) both_of.1)

    pub call_marks : marks (entries_of l') < most_marks → (r : Left) → r ≡ became h (opening_of h.places l') (mark ∷ entries_of l') w' → r ≡ called h marking m w
    unfolding decided after
    call_marks c r g = rw (call_tail marking, lt-ltb (marks (entries_of l')) most_marks c) (g ∙ became_now _ _)

    pub call_none : marks (entries_of l') ≡ 0 → left 10 m w' ≡ called h going_back m w
    unfolding decided
    call_none c = rw (call_tail going_back, c) (ap (left 10 m) both_of.1)

    pub call_backs : 0 < marks (entries_of l') → (r : Left) → r ≡ became h (opening_of h.places l') (back_to (entries_of l')) w' → r ≡ called h going_back m w
    unfolding decided after
    call_backs c r g = rw (call_tail going_back, lt-ltb 0 (marks (entries_of l')) c) (g ∙ became_now _ _)

-- what a call that goes on knows of what it is lent
module _ (h : Handed) (m w w' : List ℕ) (e : readiness 0 w' ≡ ready_of h m w) where
  pub ready_now : Formed h m w'
  ready_now = ready_formed h m w w' 0 e refl

  pub ready_bounds : (h.places ≤ most_places) × (length m ≡ memory_size h.places)
  ready_bounds = ((bounds h m w' ready_now).1, ready_now.long)
