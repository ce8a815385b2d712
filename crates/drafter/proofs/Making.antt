-- What is printed by what the reader of patterns answers. Assumes nothing.
use mathlib.Core.Path.{◌≡◌, refl, sym, ap, ◌∙◌, subst}
use mathlib.Core.Bool.{true}
use mathlib.Core.List.{List, [], ◌∷◌, ◌++◌}
use Prim.Native.Nat.{ℕ, ◌+◌, ◌-◌, ◌≤◌}
use native.Mathlib.Omega.{arith}
use native.Mathlib.Decide.{dec_le}
use lib.ListN.{length, get_or, take, drop, replicate, length-append, length-drop}
use lib.Seq.{take_all, take_at, get_or-append-add}
use borrow.Author.Tests.{eq-eqb, ne_eqb, le-leb}
use Rattle.meaning.specs.Bounds.{most_states, most_values, table_size}
use Rattle.meaning.specs.Meaning.{rules_of}
use Rattle.rules.specs.Checks.{tables_long, rules_right}
use Rattle.rules.proofs.Checks.{never}
use Rattle.text.specs.Bytes.{feed}
use Rattle.text.specs.Numbers.{Field, number, malformed, outside, read_field, NumberAt}
use Rattle.text.specs.Lines.{on_field}
use Rattle.text.specs.declared.lines.Fault.{Fault}
use Rattle.text.specs.declared.numbers.Number.{Number}
use Rattle.text.specs.declared.numbers.NumberFault.{NumberFault}
use Rattle.std.specs.Prelude.{Result, Ok, Err}
use Rattle.rules.specs.declared.Answer.{Answer}
use Rattle.rules.specs.declared.Answer.TheVariants.{ManyStates}
use Rattle.rules.specs.declared.Outline.{Outline}
use Rattle.rules.specs.Answers.{number_of, answer_of, carried}
use Rattle.std.specs.Result.{result_unwrap_or}
use Rattle.compositor.specs.Leaving.{left_by}
use Rattle.rules.proofs.Refusals.{number_some}
use Rattle.rules.proofs.Unique.{answer_one}
use native.Mathlib.Decide.{ℕ_discrete}
use Rattle.text.proofs.Scans.{value_is}
use Rattle.numbering.proofs.Numbering.{more_than}
use Rattle.patterns.specs.Pattern.{Pattern}
use Rattle.patterns.specs.Line.{RightLine}
use Rattle.patterns.specs.Places.{onward}
use Rattle.patterns.specs.Outcome.{Outcome, pattern_left, states_of, count_right, pattern_of}
use Rattle.patterns.proofs.Demand.{right_otherwise, many_exactly, done_exactly, pattern_right}
use Rattle.sheet.specs.Sheets.{sheet_text}
use Rattle.scribe.specs.Writing.{Outcome as Writing, longest_sheet, write_left, write_of}
use Rattle.scribe.proofs.Longest.{right_short}
use Rattle.scribe.proofs.Outcomes.{right_writes}
use Rattle.drafter.specs.Drafting.{line_of, pattern_line, states_line, values_line, draft_of, drafted, pattern_job_text}

-- the line of an input
pub line_fed : (s : List ℕ) → get_or s (length s - 1) 0 ≡ feed → take (length s - 1) s ≡ line_of s
unfolding line_of
line_fed s h = rw (eq-eqb (get_or s (length s - 1) 0) feed h)

pub line_whole : (s : List ℕ) → (get_or s (length s - 1) 0 ≡ feed → ⊥) → s ≡ line_of s
unfolding line_of
line_whole s h = rw (ne_eqb (get_or s (length s - 1) 0) feed h)

pub line_none : (s : List ℕ) → length s ≡ 0 → s ≡ line_of s
line_none [] h = line_whole [] (λ z. absurd (omega arith))
line_none (b ∷ s) h = absurd (omega arith)

-- the last byte of a text
pub last_of : (s t : List ℕ) → 1 ≤ length t → get_or (s ++ t) (length (s ++ t) - 1) 0 ≡ get_or t (length t - 1) 0
last_of s t h = let e : length (s ++ t) - 1 ≡ length s + (length t - 1) = omega (arith, length-append s t) in rw e (get_or-append-add s t (length t - 1) 0)

-- by its last byte and the rest
module _ (s : List ℕ) (x : ℕ) (rest : List ℕ) (e : s ≡ rest ++ (x ∷ [])) where
  last_is : get_or s (length s - 1) 0 ≡ x
  last_is = ap (λ (l : List ℕ). get_or l (length l - 1) 0) e ∙ last_of rest (x ∷ []) (omega arith)

  pub split_fed : x ≡ feed → rest ≡ line_of s
  split_fed h =
      sym (ap (take (length s - 1)) e ∙ take_at rest (x ∷ []) (length s - 1) (omega (arith, ap length e, length-append rest (x ∷ [])))) ∙ line_fed s (last_is ∙ h)

  pub split_whole : (x ≡ feed → ⊥) → s ≡ line_of s
  split_whole h = line_whole s (λ z. h (sym last_is ∙ z))

pub zeros_long : tables_long (replicate table_size 0) (replicate table_size 0) ≡ true
unfolding tables_long
zeros_long = refl

pub count_in : (v : ℕ) → 1 ≤ v → v ≤ most_values → count_right v ≡ true
unfolding count_right
count_in v h k = rw (le-leb 1 v h, le-leb v most_values k)

-- the field that the line begins with
field_none : (x : Field) (f : Fault) → on_field x (λ v l. Ok v) ≡ Err f → values_line ≡ drafted x
unfolding drafted
field_none (number v l) f e = never cc
field_none malformed f e = refl
field_none outside f e = refl

module _ (l s : List ℕ) (e : l ≡ line_of s) (r : Result Number NumberFault) (field : NumberAt (read_field 1 most_values (drop 0 l)) l r) where
  pub shows_none : (f : Fault) → on_field (read_field 1 most_values (drop 0 l)) (λ v l. Ok v) ≡ Err f → values_line ≡ pattern_job_text s
  unfolding pattern_job_text
  shows_none f h = field_none (read_field 1 most_values l) f h ∙ ap (λ (x : List ℕ). drafted (read_field 1 most_values x)) e

  pub shows_draft : (m : Number) → r ≡ Ok m → draft_of (pattern_of (take (length l - m.end) (drop m.end l)) m.value (replicate table_size 0) (replicate table_size 0)) ≡ pattern_job_text s
  unfolding pattern_job_text drafted
  shows_draft m h =
      let rest : take (length l - m.end) (drop m.end l) ≡ drop m.end l = take_all (length l - m.end) (drop m.end l) (omega (arith, length-drop m.end l)) in
      rw (rest, ← e, value_is l (read_field 1 most_values l) r field m h)

carried_by : (r : Result ℕ Answer) → result_unwrap_or r 0 ≡ carried r
carried_by (Ok n) = refl
carried_by (Err a) = refl

-- what is answered neither 15 nor 14 is a right rule set
module _ (l : List ℕ) (v : ℕ) (t c : List ℕ) (count : count_right v ≡ true) (long : tables_long t c ≡ true) where
  pub made_right : let o = pattern_of l v t c in (o.answer ≡ 15 → ⊥) → (o.answer ≡ 14 → ⊥) → rules_right o.states o.values o.start o.targets o.costs o.accepting ≡ true
  unfolding states_of
  made_right n m = go (right_otherwise l v t c count long n).0 (right_otherwise l v t c count long n).1
    where
      go : (p : Pattern) → RightLine v l p → let o = pattern_of l v t c in rules_right o.states o.values o.start o.targets o.costs o.accepting ≡ true
      go p r = few (dec_le (length (states_of v p)) most_states)
        where
          few : Dec (length (states_of v p) ≤ most_states) → let o = pattern_of l v t c in rules_right o.states o.values o.start o.targets o.costs o.accepting ≡ true
          few (yes h) = pattern_right l v t c count long p r ((done_exactly l v t c count long p r).1 h)
          few (no h) = absurd (m ((many_exactly l v t c count long p r).1 ((more_than (onward p) v 0 most_states).0 (omega arith))))

  -- and what is refused for neither V, the tables nor its states is no pattern
  refused_else : (a : Answer) (t2 c2 : List ℕ) → left_by (Err a) t2 c2 ≡ pattern_of l v t c → (a ≡ ManyStates → ⊥) → number_of a ≡ 15
  unfolding states_of
  refused_else a t2 c2 e n = go (ℕ_discrete (number_of a) 15)
    where
      same : number_of a ≡ (pattern_of l v t c).answer
      same = ap (λ (o : Outcome). o.answer) e

      go : Dec (number_of a ≡ 15) → number_of a ≡ 15
      go (yes h) = h
      go (no h) = absurd (side (right_otherwise l v t c count long (λ z. h (same ∙ z))).0 (right_otherwise l v t c count long (λ z. h (same ∙ z))).1)
        where
          side : (p : Pattern) → RightLine v l p → ⊥
          side p r = few (dec_le (length (states_of v p)) most_states)
            where
              few : Dec (length (states_of v p) ≤ most_states) → ⊥
              few (yes k) = number_some a (same ∙ (done_exactly l v t c count long p r).1 k)
              few (no k) = n (answer_one a ManyStates (same ∙ (many_exactly l v t c count long p r).1 ((more_than (onward p) v 0 most_states).0 (omega arith))))

  module _ (a q w s m : ℕ) (t2 c2 : List ℕ) (e : pattern_left a q w s m t2 c2 ≡ pattern_of l v t c) where
    shows_pattern : a ≡ 15 → pattern_line ≡ draft_of (pattern_of l v t c)
    unfolding draft_of
    shows_pattern h = subst (λ (o : Outcome). pattern_line ≡ draft_of o) e (rw (eq-eqb a 15 h))

    shows_states : (a ≡ 15 → ⊥) → a ≡ 14 → states_line ≡ draft_of (pattern_of l v t c)
    unfolding draft_of
    shows_states h k = subst (λ (o : Outcome). states_line ≡ draft_of o) e (rw (ne_eqb a 15 h, eq-eqb a 14 k))

    module _ (h : a ≡ 15 → ⊥) (k : a ≡ 14 → ⊥) (b : List ℕ) (room : longest_sheet ≤ length b) (x n : ℕ) (b2 : List ℕ)
        (put : write_left x n b2 ≡ write_of (rules_of q w t2 c2 m) s b) where
      abbrev text : List ℕ
      text = sheet_text (rules_of q w t2 c2 m) s

      written : write_left x n b2 ≡ write_left 0 (length text) (text ++ drop (length text) b)
      written =
          let f : a ≡ (pattern_of l v t c).answer = ap (λ (o : Outcome). o.answer) e in
          let r : rules_right q w s t2 c2 m ≡ true =
          subst (λ (o : Outcome). rules_right o.states o.values o.start o.targets o.costs o.accepting ≡ true) (sym e) (made_right (λ z. h (f ∙ z)) (λ z. k (f ∙ z))) in
          put ∙ right_writes (rules_of q w t2 c2 m) s b r (omega (arith, right_short q w s t2 c2 m r))

      sheet_there : n ≤ length b2
      sheet_there =
          let e1 : n ≡ length text = ap (λ (o : Writing). o.length) written in
          let e2 : b2 ≡ text ++ drop (length text) b = ap (λ (o : Writing). o.buffer) written in
          omega (arith, ap length e2, length-append text (drop (length text) b))

      shows_sheet : take n b2 ≡ draft_of (pattern_of l v t c)
      unfolding draft_of
      shows_sheet =
          let e1 : length text ≡ n = sym (ap (λ (o : Writing). o.length) written) in
          let e2 : b2 ≡ text ++ drop (length text) b = ap (λ (o : Writing). o.buffer) written in
          ap (take n) e2 ∙ take_at text (drop (length text) b) n e1 ∙ subst (λ (o : Outcome). text ≡ draft_of o) e (rw (ne_eqb a 15 h, ne_eqb a 14 k))

  -- the arms of what reading the pattern gave
  pub told_pattern : (a : Answer) (t2 c2 : List ℕ) → left_by (Err a) t2 c2 ≡ pattern_of l v t c → (a ≡ ManyStates → ⊥) → pattern_line ≡ draft_of (pattern_of l v t c)
  told_pattern a t2 c2 e n = shows_pattern (number_of a) 0 0 0 0 t2 c2 e (refused_else a t2 c2 e n)

  pub told_states : (a : Answer) (t2 c2 : List ℕ) → left_by (Err a) t2 c2 ≡ pattern_of l v t c → a ≡ ManyStates → states_line ≡ draft_of (pattern_of l v t c)
  told_states a t2 c2 e h = let k : number_of a ≡ 14 = ap number_of h in shows_states (number_of a) 0 0 0 0 t2 c2 e (λ z. absurd (omega arith)) k

  module _ (o : Outline) (t2 c2 : List ℕ) (e : left_by (Ok o) t2 c2 ≡ pattern_of l v t c) (b : List ℕ) (room : longest_sheet ≤ length b) (r : Result ℕ Answer) (b2 : List ℕ)
      (put : write_left (answer_of r) (carried r) b2 ≡ write_of (rules_of o.size.states o.size.values t2 c2 o.accepting) o.size.start.0 b) (n : ℕ) (k : n ≡ result_unwrap_or r 0) where
    length_is : n ≡ carried r
    length_is = k ∙ carried_by r

    pub told_there : n ≤ length b2
    told_there =
        subst (λ (i : ℕ). i ≤ length b2) (sym length_is)
        (sheet_there 0 o.size.states o.size.values o.size.start.0 o.accepting t2 c2 e (λ z. absurd (omega arith)) (λ z. absurd (omega arith)) b room (answer_of r) (carried r) b2 put)

    pub told_sheet : take n b2 ≡ draft_of (pattern_of l v t c)
    told_sheet =
        ap (λ (i : ℕ). take i b2) length_is
        ∙ shows_sheet 0 o.size.states o.size.values o.size.start.0 o.accepting t2 c2 e (λ z. absurd (omega arith)) (λ z. absurd (omega arith)) b room (answer_of r) (carried r) b2 put
