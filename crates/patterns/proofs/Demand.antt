-- WHAT IS ASKED OF A PATTERN'S SHEET: its answers, its words, its states and their order. Assumes nothing.
use mathlib.Core.Path.{◌≡◌, refl, sym, ap, ◌∙◌}
use mathlib.Core.Bool.{Bool, true, false, cond}
use mathlib.Core.Logic.{inl, inr, ⊎_elim, ◌↔◌}
use mathlib.Core.List.{List, [], ◌∷◌, ◌++◌, map, cons≢nil}
use Prim.Native.Nat.{ℕ, ◌*◌, ◌^◌, ◌≤◌, ◌<◌}
use native.Mathlib.Omega.{arith}
use native.Mathlib.Decide.{dec_le}
use lib.Dec.{eqb, leb, ltb}
use lib.ListN.{length, get_or, drop, replicate, length-replicate, get_or-replicate, length-map, length-append}
use lib.Pow.{pow_pos}
use borrow.Author.Tests.{le-leb, lt-leb, leb-true, ltb-true, lt-ltb, eq-eqb}
use Rattle.kinds.specs.Bits.{bit}
use Rattle.kinds.proofs.Bits.{bit_ext, mask_lt, some_bit}
use Rattle.meaning.specs.Bounds.{most_states, most_values, table_size}
use Rattle.meaning.specs.Lists.{from, all}
use Rattle.meaning.specs.Meaning.{Rules, rules_of, accepted}
use Rattle.meaning.proofs.Members.{Below}
use Rattle.meaning.proofs.Lists.{both_ways}
use Rattle.rules.specs.Answers.{decided}
use Rattle.rules.specs.Checks.{tables_long, rules_right}
use Rattle.rules.proofs.Checks.{both, and_goes, never, size_last, long_tables, rules_tables, arcs_few}
use Rattle.rules.proofs.Lawful.{Lawful, lawful_right}
use Rattle.patterns.specs.Pattern.{Pattern, Matches, letter, then, left, right, once, again, none, some, letters, CouldRead, Share, empty, equal}
use Rattle.patterns.specs.Line.{RightLine, Line, lawful, unlawful, read_line}
use Rattle.patterns.specs.Places.{onward, ends}
use Rattle.numbering.specs.Numbering.{MoreThan, reaches, meets, met, targets_of, accepting_of, over, leads_to, words_up_to}
use Rattle.patterns.specs.Outcome.{Outcome, made_of, pattern_refused, pattern_done, states_of, count_right, pattern_of}
use Rattle.patterns.proofs.Members.{no_bits}
use Rattle.patterns.proofs.Lines.{line_right, one_pattern}
use Rattle.numbering.proofs.Numbering.{more_than, met_first, met_closed}
use Rattle.numbering.proofs.States.{first_alone, same_state, states_in_order}
use Rattle.numbering.proofs.Sheets.{sheet_of, numbered_runs, targets_length, target_in}
use Rattle.numbering.proofs.Over.{over_length, over_at}
use Rattle.patterns.proofs.Sets.{set_is}
use Rattle.patterns.proofs.Words.{letter_at, onward_lt, accepts_matches}

are_long : (t c : List ℕ) → length t ≡ table_size → length c ≡ table_size → tables_long t c ≡ true
unfolding tables_long
are_long t c h k = rw (eq-eqb (length t) table_size h, eq-eqb (length c) table_size k)

reach_lt : (p : Pattern) (c v : ℕ) (w : List ℕ) → reaches (onward p) c (v ∷ w) < 2 ^ length (letters p)
reach_lt p c v [] = go (eqb (onward p c v) 0)
  where
    go : (b : Bool) → cond b 0 (onward p c v) < 2 ^ length (letters p)
    go true = pow_pos (length (letters p))
    go false = onward_lt p c v
reach_lt p c v (u ∷ w) = go (eqb (onward p c v) 0) (reach_lt p (onward p c v) u w)
  where
    go : (b : Bool) → reaches (onward p) (onward p c v) (u ∷ w) < 2 ^ length (letters p) → cond b 0 (reaches (onward p) (onward p c v) (u ∷ w)) < 2 ^ length (letters p)
    go true h = pow_pos (length (letters p))
    go false h = h

-- a word whose last letter was read is not empty
unread : (p : Pattern) (w : List ℕ) (i : ℕ) → CouldRead p w i → w ≡ [] → ⊥
unread p w i r z =
    let e = sym (length-map (r.before ++ (i ∷ [])) (letter_at p)) ∙ ap length (r.same ∙ z) in
    let l = length-append r.before (i ∷ []) in
    omega arith

both_empty : (p : Pattern) {u w : List ℕ} → Share p u w → (u ≡ [] → w ≡ []) × (w ≡ [] → u ≡ [])
both_empty p (empty e f) = (λ z. f, λ z. e)
both_empty p (equal i r h) = (λ z. absurd (unread p _ i r z), λ z. absurd (unread p _ i ((h i).0 r) z))

-- words reach one set exactly if the same places could have read their last letters
same_set : (p : Pattern) (x y : ℕ) (u w : List ℕ) → ((reaches (onward p) 0 (x ∷ u) ≡ reaches (onward p) 0 (y ∷ w)) × (reaches (onward p) 0 (x ∷ u) ≡ 0 → ⊥)) ↔ Share p (x ∷ u) (y ∷ w)
same_set p x y u w = (fwd, bwd)
  where
    fwd : (reaches (onward p) 0 (x ∷ u) ≡ reaches (onward p) 0 (y ∷ w)) × (reaches (onward p) 0 (x ∷ u) ≡ 0 → ⊥) → Share p (x ∷ u) (y ∷ w)
    fwd h =
        let b = some_bit (length (letters p)) (reaches (onward p) 0 (x ∷ u)) (reach_lt p 0 x u) h.1 in
        equal b.0 ((set_is p x u b.0).0 b.2) (λ k. (
          λ a. (set_is p y w k).0 (ap (λ (m : ℕ). bit m k) (sym h.0) ∙ (set_is p x u k).1 a),
          λ a. (set_is p x u k).0 (ap (λ (m : ℕ). bit m k) h.0 ∙ (set_is p y w k).1 a),
        ))

    bwd : Share p (x ∷ u) (y ∷ w) → (reaches (onward p) 0 (x ∷ u) ≡ reaches (onward p) 0 (y ∷ w)) × (reaches (onward p) 0 (x ∷ u) ≡ 0 → ⊥)
    bwd (empty e f) = absurd (cons≢nil e)
    bwd (equal i r h) = (
      bit_ext (length (letters p)) (reaches (onward p) 0 (x ∷ u)) (reaches (onward p) 0 (y ∷ w)) (reach_lt p 0 x u) (reach_lt p 0 y w)
          (λ k l. both_ways _ _ (λ a. (set_is p y w k).1 ((h k).0 ((set_is p x u k).0 a))) (λ a. (set_is p x u k).1 ((h k).1 ((set_is p y w k).0 a)))),
      no_bits (reaches (onward p) 0 (x ∷ u)) i ((set_is p x u i).1 r),
    )

-- the letters of a pattern are below vs, so the words that it matches are too
all_parts : (f : ℕ → Bool) (xs ys : List ℕ) → all f (xs ++ ys) ≡ true → (all f xs ≡ true) × (all f ys ≡ true)
all_parts f [] ys h = (refl, h)
all_parts f (x ∷ xs) ys h =
    let a = both (f x) (all f (xs ++ ys)) h in
    let r = all_parts f xs ys a.1 in
    (and_goes (f x) (all f xs) true a.0 r.0, r.1)

below_append : (vs : ℕ) (u w : List ℕ) → Below vs u → Below vs w → Below vs (u ++ w)
below_append vs [] w h k = k
below_append vs (v ∷ u) w h k = (h.0, below_append vs u w h.1 k)

match_below : (vs : ℕ) {p : Pattern} {w : List ℕ} → all (λ v. ltb v vs) (letters p) ≡ true → Matches p w → Below vs w
match_below vs h (letter {v}) = (ltb-true v vs (both (ltb v vs) true h).0, tt)
match_below vs h (then {p} {q} {a} {b} m n) =
    let l = all_parts (λ v. ltb v vs) (letters p) (letters q) h in
    below_append vs a b (match_below vs l.0 m) (match_below vs l.1 n)
match_below vs h (left {p} {q} m) = match_below vs (all_parts (λ v. ltb v vs) (letters p) (letters q) h).0 m
match_below vs h (right {p} {q} m) = match_below vs (all_parts (λ v. ltb v vs) (letters p) (letters q) h).1 m
match_below vs h (once m) = match_below vs h m
match_below vs h (again {a = a} {b} m n) = below_append vs a b (match_below vs h m) (match_below vs h n)
match_below vs h none = tt
match_below vs h (some m) = match_below vs h m

-- NO OTHER WORDS: the pattern of a right line matches words of values below V alone
pub pattern_outside : (vs : ℕ) (s : List ℕ) (p : Pattern) (w : List ℕ) → RightLine vs s p → Matches p w → Below vs w
pattern_outside vs s p w r m = match_below vs r.values m

module _ (p : Pattern) (vs : ℕ) (more costs : List ℕ) (few : length (met (onward p) vs 0 most_states) ≤ most_states) where
  abbrev sheet : Rules
  sheet = sheet_of (onward p) (ends p) vs (met (onward p) vs 0 most_states) more costs

  -- the sheet of a pattern accepts the words of the pattern
  sheet_matches : (w : List ℕ) → Below vs w → (accepted sheet 0 w ≡ true) ↔ Matches p w
  sheet_matches w b =
      let e = numbered_runs (onward p) (ends p) vs 0 most_states more costs w (omega arith) few b in
      (λ a. (accepts_matches p w).0 (sym e ∙ a), λ m. e ∙ (accepts_matches p w).1 m)

  -- no other word leads where the empty one does
  alone : (v : ℕ) (w : List ℕ) → Below vs (v ∷ w) → leads_to sheet.arcs 0 (v ∷ w) ≡ 1 → ⊥
  alone v w b h = first_alone (onward p) (ends p) vs 0 most_states more costs (omega arith) few v w b refl h

  sheet_shares : (u w : List ℕ) → Below vs u → Below vs w
      → ((leads_to sheet.arcs 0 u ≡ leads_to sheet.arcs 0 w) × (leads_to sheet.arcs 0 u ≡ 0 → ⊥)) ↔ Share p u w
  sheet_shares [] [] bu bw = (λ h. empty refl refl, λ h. (refl, λ z. omega arith))
  sheet_shares [] (y ∷ w) bu bw = (λ h. absurd (alone y w bw (sym h.0)), λ h. absurd (cons≢nil ((both_empty p h).0 refl)))
  sheet_shares (x ∷ u) [] bu bw = (λ h. absurd (alone x u bu h.0), λ h. absurd (cons≢nil ((both_empty p h).1 refl)))
  sheet_shares (x ∷ u) (y ∷ w) bu bw =
      let s = same_state (onward p) (ends p) vs 0 most_states more costs (omega arith) few x y u w bu bw in
      let t = same_set p x y u w in
      (λ h. t.0 (s.0 h), λ h. s.1 (t.1 h))

module _ (s : List ℕ) (vs : ℕ) (t c : List ℕ) (count : count_right vs ≡ true) (long : tables_long t c ≡ true) where
  -- how a call ends
  is_wrong : read_line vs s ≡ unlawful → pattern_of s vs t c ≡ pattern_refused t c 15
  unfolding pattern_of decided
  is_wrong e = rw (count, long, e)

  is_many : (p : Pattern) → read_line vs s ≡ lawful p → most_states < length (states_of vs p) → pattern_of s vs t c ≡ pattern_refused t c 14
  unfolding pattern_of decided
  is_many p e h = rw (count, long, e, lt-leb (length (states_of vs p)) most_states h)

  is_done : (p : Pattern) → read_line vs s ≡ lawful p → length (states_of vs p) ≤ most_states → pattern_of s vs t c ≡ pattern_done vs (lawful p) t c
  unfolding pattern_of decided
  is_done p e h = rw (count, long, e, le-leb (length (states_of vs p)) most_states h)

  -- any two ends have different numbers
  data Ends : Type 0 where
    wrong : read_line vs s ≡ unlawful → (pattern_of s vs t c).answer ≡ 15 → Ends
    many : (p : Pattern) → read_line vs s ≡ lawful p → most_states < length (states_of vs p) → (pattern_of s vs t c).answer ≡ 14 → Ends
    done : (p : Pattern) → read_line vs s ≡ lawful p → length (states_of vs p) ≤ most_states → (pattern_of s vs t c).answer ≡ 0 → Ends

  ends_by_lem : (x : Line) → read_line vs s ≡ x → Ends
  ends_by_lem unlawful e = wrong e (ap (λ (o : Outcome). o.answer) (is_wrong e))
  ends_by_lem (lawful p) e = go (dec_le (length (states_of vs p)) most_states)
    where
      go : Dec (length (states_of vs p) ≤ most_states) → Ends
      go (yes h) = done p e h (ap (λ (o : Outcome). o.answer) (is_done p e h))
      go (no h) = many p e (omega arith) (ap (λ (o : Outcome). o.answer) (is_many p e (omega arith)))

  how : Ends
  how = ends_by_lem (read_line vs s) refl

  -- ANSWER 15 exactly if the line is not right
  pub wrong_exactly : ((pattern_of s vs t c).answer ≡ 15) ↔ ((p : Pattern) → RightLine vs s p → ⊥)
  wrong_exactly = (λ h. fwd h how, bwd how)
    where
      fwd : (pattern_of s vs t c).answer ≡ 15 → Ends → (p : Pattern) → RightLine vs s p → ⊥
      fwd h (wrong e a) p r = let z : unlawful ≡ lawful p = sym e ∙ (line_right vs s p).1 r in never cc
      fwd h (many q e g a) p r = absurd (omega arith)
      fwd h (done q e g a) p r = absurd (omega arith)

      bwd : Ends → ((p : Pattern) → RightLine vs s p → ⊥) → (pattern_of s vs t c).answer ≡ 15
      bwd (wrong e a) n = a
      bwd (many q e g a) n = absurd (n q ((line_right vs s q).0 e))
      bwd (done q e g a) n = absurd (n q ((line_right vs s q).0 e))

  -- with any other answer it is right
  pub right_otherwise : ((pattern_of s vs t c).answer ≡ 15 → ⊥) → (p : Pattern) × RightLine vs s p
  right_otherwise n = go how
    where
      go : Ends → (p : Pattern) × RightLine vs s p
      go (wrong e a) = absurd (n a)
      go (many q e g a) = (q, (line_right vs s q).0 e)
      go (done q e g a) = (q, (line_right vs s q).0 e)

  module _ (p : Pattern) (right : RightLine vs s p) where
    same_pattern : (q : Pattern) → read_line vs s ≡ lawful q → q ≡ p
    same_pattern q e = one_pattern vs s q p ((line_right vs s q).0 e) right

    -- ANSWER 14 exactly if a right line has more than 64 states
    pub many_exactly : ((pattern_of s vs t c).answer ≡ 14) ↔ MoreThan (onward p) vs 0 most_states
    unfolding states_of
    many_exactly = (λ h. fwd h how, bwd how)
      where
        fwd : (pattern_of s vs t c).answer ≡ 14 → Ends → MoreThan (onward p) vs 0 most_states
        fwd h (wrong e a) = absurd (omega arith)
        fwd h (many q e g a) = (more_than (onward p) vs 0 most_states).0 (rw (same_pattern q e) at g)
        fwd h (done q e g a) = absurd (omega arith)

        bwd : Ends → MoreThan (onward p) vs 0 most_states → (pattern_of s vs t c).answer ≡ 14
        bwd (wrong e a) m = let z : unlawful ≡ lawful p = sym e ∙ (line_right vs s p).1 right in never cc
        bwd (many q e g a) m = a
        bwd (done q e g a) m =
            let b : length (met (onward p) vs 0 most_states) ≤ most_states = rw (same_pattern q e) at g in
            let d = (more_than (onward p) vs 0 most_states).1 m in
            absurd (omega arith)

    -- and 0 exactly if it has not
    pub done_exactly : ((pattern_of s vs t c).answer ≡ 0) ↔ (length (states_of vs p) ≤ most_states)
    done_exactly = (λ h. fwd h how, λ h. ap (λ (o : Outcome). o.answer) (is_done p ((line_right vs s p).1 right) h))
      where
        fwd : (pattern_of s vs t c).answer ≡ 0 → Ends → length (states_of vs p) ≤ most_states
        fwd h (wrong e a) = absurd (omega arith)
        fwd h (many q e g a) = absurd (omega arith)
        fwd h (done q e g a) = rw (same_pattern q e) at g

    module _ (answered : (pattern_of s vs t c).answer ≡ 0) where
      few : length (states_of vs p) ≤ most_states
      few = done_exactly.0 answered

      outcome : pattern_of s vs t c ≡ pattern_done vs (lawful p) t c
      outcome = is_done p ((line_right vs s p).1 right) few

      abbrev states : List ℕ
      states = met (onward p) vs 0 most_states

      -- what stands behind the arcs, and the costs
      abbrev rest : List ℕ
      rest = drop (length (targets_of (onward p) vs states)) t

      abbrev free : List ℕ
      free = over (replicate (length states * vs) 0) c

      -- THE SHEET ACCEPTS EXACTLY THE WORDS OF THE PATTERN
      pub pattern_words : (w : List ℕ) → Below vs w → (accepted (made_of (pattern_of s vs t c)) (pattern_of s vs t c).start w ≡ true) ↔ Matches p w
      unfolding states_of over
      pattern_words w b = rw outcome (sheet_matches p vs rest free few w b)

      -- PREFIXES SHARE A STATE exactly if both are empty, or the same places, and some, could have read their last letters
      pub pattern_shares : (u w : List ℕ) → Below vs u → Below vs w
          → let o = pattern_of s vs t c in let leads = leads_to (made_of o).arcs o.start in ((leads u ≡ leads w) × (leads u ≡ 0 → ⊥)) ↔ Share p u w
      unfolding states_of over
      pattern_shares u w bu bw = rw outcome (sheet_shares p vs rest free few u w bu bw)

      -- THE ORDER: gone through in order, shorter ones first, then smaller values first, all prefixes of up to n letters meet state 0, then
      -- state 1, and so on to the last
      pub pattern_order : (n : ℕ) → most_states ≤ n → let o = pattern_of s vs t c in meets [] (map (leads_to (made_of o).arcs o.start) (words_up_to vs n)) ≡ from 1 o.states
      unfolding states_of over
      pattern_order n h =
          ap (λ (o : Outcome). meets [] (map (leads_to (made_of o).arcs o.start) (words_up_to vs n))) outcome
          ∙ states_in_order (onward p) (ends p) vs 0 most_states rest free (omega arith) few n h
          ∙ ap (λ (o : Outcome). from 1 o.states) (sym outcome)

      made_lawful : 1 ≤ vs → Lawful (rules_of (length states) vs (over (targets_of (onward p) vs states) t) free (accepting_of (ends p) states))
      unfolding accepting_of over states_of
      made_lawful v1 =
          let b = length-replicate {A = ℕ} (length states * vs) 0 in
          record {
            bits = mask_lt (λ i. ends p (get_or states i 0)) (length states);
            entry = λ k h.
                let z : get_or free k 0 ≡ 0 = over_at (replicate (length states * vs) 0) c k (omega arith) ∙ get_or-replicate (length states * vs) k 0 0 h in
                ⊎_elim (λ x. inl (x, z)) (λ x. inr (x, omega arith))
                (target_in (onward p) (ends p) vs states rest free (λ i u d e g. met_closed (onward p) vs 0 most_states i u (omega (arith, few)) d e g) k (omega arith) h);
          }

      -- EVERY CALL TAKES THE RULE SET: it passes the checks 1, 2 and 3
      pub pattern_right : let o = pattern_of s vs t c in rules_right o.states o.values o.start o.targets o.costs o.accepting ≡ true
      unfolding count_right states_of
      pattern_right =
          let v = both (leb 1 vs) _ count in
          let v1 = leb-true 1 vs v.0 in
          let v16 = leb-true vs most_values v.1 in
          let l = long_tables t c long in
          let q = (met_first (onward p) vs 0 most_states).1 in
          let n = arcs_few {q = length states} {v = vs} few v16 in
          let a = targets_length (onward p) vs states in
          let b = length-replicate {A = ℕ} (length states * vs) 0 in
          let size = sym (size_last (length states) vs 0 q few v1 v16) ∙ lt-ltb 0 (length states) q in
          let tables = are_long (over (targets_of (onward p) vs states) t) free
          (over_length (targets_of (onward p) vs states) t (omega (arith, l.0)) ∙ l.0)
          (over_length (replicate (length states * vs) 0) c (omega (arith, l.1)) ∙ l.1) in
          ap (λ (o : Outcome). rules_right o.states o.values o.start o.targets o.costs o.accepting) outcome
          ∙ rules_tables (length states) vs 0 (over (targets_of (onward p) vs states) t) free (accepting_of (ends p) states) size tables
          ∙ lawful_right (rules_of (length states) vs (over (targets_of (onward p) vs states) t) free (accepting_of (ends p) states)) (made_lawful v1)
