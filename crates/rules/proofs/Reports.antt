-- What the prefix report tells, in the words of the request. Assumes nothing.
use mathlib.Core.Path.{◌≡◌, refl, sym, ap, ◌∙◌}
use mathlib.Core.Bool.{Bool, true, false, cond, false≢true}
use mathlib.Core.Logic.{◌↔◌}
use mathlib.Core.List.{List, []}
use mathlib.Core.List.{Memᴰ as In}
use Prim.Native.Nat.{ℕ, zero, suc, ◌+◌, ◌≤◌}
use native.Mathlib.Omega.{arith}
use lib.ListN.{length, take}
use borrow.Author.Tests.{eqb-true}
use Rattle.meaning.specs.Lists.{any, some}
use Rattle.meaning.specs.Meaning.{accepted}
use Rattle.meaning.specs.Prefixes.{begins, behind}
use Rattle.meaning.proofs.Lists.{any_in, in_any, some_in, in_some}
use Rattle.meaning.proofs.Members.{Below}
use Rattle.meaning.proofs.Prefixes.{accepted_in, behind_begins, behind_accepted}
use Rattle.rules.specs.Answers.{decided}
use Rattle.rules.specs.Checks.{Handed, tables_long}
use Rattle.rules.specs.Inner.{report_rest}
use Rattle.rules.specs.Report.{Outcome, outcome, drawn_checks, full_words, report_checks, report_of}
use Rattle.rules.proofs.Checks.{both, not_so, Passed, all_passed, answered}
use Rattle.rules.proofs.Walk.{values_below}

module _ (h : Handed) (w : List ℕ) where
  -- the accepted words of n values
  abbrev Full : List ℕ → Type 0
  Full u = (length u ≡ h.places) × Below h.rules.arcs.values u × (accepted h.rules h.start u ≡ true)

  -- what answer 0 says
  record Reported : Type 0 where
    long : length w ≡ h.places
    below : Below h.rules.arcs.values w
    any_full : some (full_words h) ≡ true
    is : (report_of h w).report ≡ behind w (full_words h)

  reported : (report_of h w).answer ≡ 0 → Reported
  unfolding report_of
  reported e =
      let p = answered (λ (o : Outcome). o.answer) (λ n. outcome n 0) (outcome 0 (behind w (full_words h))) (λ n. refl) 0 (report_checks h w) refl e in
      record {
        long = eqb-true _ _ (both (tables_long h.rules.arcs.targets h.rules.arcs.costs) _ p.1.0).1;
        below = values_below _ w p.1.1.1.0;
        any_full = p.1.1.1.1.0;
        is = ap (λ (o : Outcome). o.report) (all_passed (λ n. outcome n 0) (outcome 0 (behind w (full_words h))) (report_checks h w) p);
      }

  -- UNDER 0 THE REPORT IS 0 EXACTLY IF THE ROSTER IS ACCEPTED
  pub report_accepted : (report_of h w).answer ≡ 0 → ((report_of h w).report ≡ 0) ↔ (accepted h.rules h.start w ≡ true)
  report_accepted e =
      let t = reported e in
      rw (t.is, ← t.long) (behind_accepted h.rules h.start w t.below (rw (← t.long) at t.any_full))

  -- AND OTHERWISE FROM 1 TO n
  pub report_otherwise : (report_of h w).answer ≡ 0 → accepted h.rules h.start w ≡ false → (1 ≤ (report_of h w).report) × ((report_of h w).report ≤ h.places)
  unfolding behind
  report_otherwise e f = (go (report_of h w).report refl, omega (arith, (reported e).is, (reported e).long))
    where
      go : (n : ℕ) → (report_of h w).report ≡ n → 1 ≤ n
      go zero d = absurd (false≢true (sym f ∙ (report_accepted e).0 d))
      go (suc n) d = omega arith

  -- IT LEAVES A PREFIX EXACTLY IF SOME ACCEPTED WORD OF n VALUES BEGINS WITH THAT
  pub report_prefix : (report_of h w).answer ≡ 0 → (k : ℕ) → k ≤ h.places
      → (k + (report_of h w).report ≤ h.places) ↔ ((u : List ℕ) × Full u × (begins (take k w) u ≡ true))
  report_prefix e k l = (fwd, bwd)
    where
      leaves : (k + behind w (full_words h) ≤ length w) ↔ (any (begins (take k w)) (full_words h) ≡ true)
      leaves = behind_begins w (full_words h) k (reported e).any_full (omega (arith, (reported e).long))

      fwd : k + (report_of h w).report ≤ h.places → (u : List ℕ) × Full u × (begins (take k w) u ≡ true)
      fwd m =
          let t = any_in (begins (take k w)) (full_words h) (leaves.0 (omega (arith, (reported e).is, (reported e).long))) in
          (t.0, (accepted_in h.rules h.start h.places t.0).0 t.1, t.2)

      bwd : (u : List ℕ) × Full u × (begins (take k w) u ≡ true) → k + (report_of h w).report ≤ h.places
      bwd t =
          omega (
            arith,
            (reported e).is,
            (reported e).long,
            leaves.1 (in_any (begins (take k w)) ((accepted_in h.rules h.start h.places t.0).1 t.1) t.2),
          )

  -- no word of n values is accepted
  abbrev NoWord : Type 0
  NoWord = (u : List ℕ) → length u ≡ h.places → Below h.rules.arcs.values u → accepted h.rules h.start u ≡ false

  no_word : (some (full_words h) ≡ false) ↔ NoWord
  no_word = (fwd, bwd)
    where
      full : (u : List ℕ) → In u (full_words h) ↔ Full u
      full u = accepted_in h.rules h.start h.places u

      fwd : some (full_words h) ≡ false → NoWord
      fwd e u l b = not_so _ (λ a. false≢true (sym e ∙ in_some ((full u).1 (l, b, a))))

      bwd : NoWord → some (full_words h) ≡ false
      bwd f = not_so _ (λ s. let m = some_in (full_words h) s in let t = (full m.0).0 m.1 in false≢true (sym (f m.0 t.0 t.1) ∙ t.2))

  -- 11 EXACTLY IF NO WORD OF n VALUES IS ACCEPTED, the checks before 11 being passed
  pub report_none : ((report_of h w).answer ≡ 11) ↔ (Passed (drawn_checks h w []) × NoWord)
  unfolding report_of decided
  report_none = (fwd, bwd)
    where
      rest : Outcome
      rest = report_rest w (full_words h)

      through : Passed (drawn_checks h w []) → (report_of h w).answer ≡ rest.answer
      through p = ap (λ (o : Outcome). o.answer) (all_passed (λ n. outcome n 0) rest (drawn_checks h w []) p)

      last : (b : Bool) → (cond b (outcome 0 (behind w (full_words h))) (outcome 11 0)).answer ≡ 11 → b ≡ false
      last true e = absurd (omega arith)
      last false e = refl

      fwd : (report_of h w).answer ≡ 11 → Passed (drawn_checks h w []) × NoWord
      fwd e =
          let p = answered (λ (o : Outcome). o.answer) (λ n. outcome n 0) rest (λ n. refl) 11 (drawn_checks h w []) refl e in
          (p, no_word.0 (last (some (full_words h)) (sym (through p) ∙ e)))

      bwd : Passed (drawn_checks h w []) × NoWord → (report_of h w).answer ≡ 11
      bwd t = through t.0 ∙ rw (no_word.1 t.1)
