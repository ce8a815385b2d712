-- A job carried out: what its lines leave in masks and limits, and what is printed then. Assumes nothing.
use mathlib.Core.Path.{◌≡◌, refl, ap, sym, ◌∙◌}
use mathlib.Core.Bool.{true}
use mathlib.Core.List.{List, [], ◌∷◌, ◌++◌}
use Prim.Native.Nat.{ℕ, zero, suc, ◌+◌, ◌-◌, ◌^◌, ◌≤◌}
use native.Mathlib.Omega.{arith}
use lib.ListN.{length, take, drop, replicate, length-replicate, length-append, length-drop}
use lib.Seq.{length-take-le, take_all}
use Rattle.std.proofs.lemmas.List.{take-append-le}
use lib.Pow.{pow_pos}
use borrow.Author.Tests.{lt-ltb}
use Rattle.std.specs.Prelude.{Ok, Err}
use Rattle.meaning.specs.Meaning.{Decision, Rules, places, verdict_of}
use Rattle.meaning.specs.Lists.{all}
use Rattle.meaning.specs.Bounds.{top}
use Rattle.rules.specs.declared.RuleSet.{RuleSet}
use Rattle.rules.specs.Checks.{handed_in, size_right, sizes_right, rules_right, masks_right}
use Rattle.rules.proofs.Checks.{both, Size, size_of_lem, sizes_last}
use Rattle.text.specs.Numbers.{read_number}
use Rattle.text.specs.Lines.{strip, lines, LineAt}
use Rattle.text.proofs.Decimals.{number_read}
use Rattle.text.proofs.Judging.{on_strip_right, on_field_right, close_right}
use Rattle.text.specs.declared.lines.Fault.{Fault}
use Rattle.job.specs.Input.{most_days, most_lines, days_word, read_count, read_days, days, wrong_line, read_decisions}
use Rattle.job.specs.Output.{job_line, verdict_text}
use Rattle.job.specs.Job.{asked, days_done, done_text, rota}
use Rattle.job.specs.Mend.{before_drawn, from_drawn, read_wish, wish_text, mend_text, mend}
use Rattle.job.specs.Inner.{Took, AskedFor, RulesRight, Ready, program}
use Rattle.job.specs.declared.plan.Task.{Task}
use Rattle.rules.proofs.Choices.{choice_right, choices_right, decides_right}

-- the size of a rule set that is right
pub right_size : (q v s : ℕ) (t c : List ℕ) (a : ℕ) → rules_right q v s t c a ≡ true → Size q v s
unfolding rules_right
right_size q v s t c a h = size_of_lem q v s (both (size_right q v s) _ h).0

pub right_sizes : (n q v s : ℕ) (t c : List ℕ) (a : ℕ) → 1 ≤ n → n ≤ most_days → rules_right q v s t c a ≡ true → sizes_right n q v s ≡ true
unfolding rules_right
right_sizes n q v s t c a h k e = sym (sizes_last n q v s h (omega arith)) ∙ (both (size_right q v s) _ e).0

pub length_of : (n x : ℕ) (xs : List ℕ) → xs ≡ replicate n x → length xs ≡ n
length_of n x xs e = ap length e ∙ length-replicate n x

-- full masks are right
full_right : (v n : ℕ) → masks_right v (replicate n (2 ^ v - 1)) ≡ true
unfolding masks_right
full_right v zero = refl
full_right v (suc n) = rw (lt-ltb (2 ^ v - 1) (2 ^ v) (omega (arith, pow_pos v))) (full_right v n)

-- the first n of equal numbers
take_replicate : (n m x : ℕ) → n ≤ m → take n (replicate m x) ≡ replicate n x
take_replicate zero m x h = refl
take_replicate (suc n) zero x h = absurd (omega arith)
take_replicate (suc n) (suc m) x h = ap (λ (l : List ℕ). x ∷ l) (take_replicate n m x (omega arith))

pub first_of : (n m x : ℕ) (xs : List ℕ) → n ≤ m → xs ≡ replicate m x → take n xs ≡ replicate n x
first_of n m x xs h e = ap (take n) e ∙ take_replicate n m x h

-- what the lines ask for: full masks and limits at the top, narrowed by the decisions
module _ (n v : ℕ) (L : List (List ℕ)) (full : List ℕ) (f : full ≡ replicate n (2 ^ v - 1)) where
  pub asked_all : (tops : List ℕ) → tops ≡ replicate n top → (ms ls : List ℕ) → Took (read_decisions (length full) v 2 most_lines L) full tops (Ok tt) ms ls → length ms ≡ length full → length ls ≡ length tops
      → (us vs : List ℕ) → n ≤ most_days → length us ≡ most_days → length vs ≡ most_days
      → (ds : List Decision) × (read_decisions n v 2 most_lines L ≡ days n ds) × AskedFor ds n v (ms ++ drop n us) (ls ++ drop n vs)
  asked_all tops g ms ls t p q us vs h k l =
      let a : length full ≡ n = length_of n _ full f in
      let b : length tops ≡ n = length_of n _ tops g in
      let x : take n (ms ++ drop n us) ≡ ms = take-append-le n ms (drop n us) (omega arith) ∙ take_all n ms (omega arith) in
      let y : take n (ls ++ drop n vs) ≡ ls = take-append-le n ls (drop n vs) (omega arith) ∙ take_all n ls (omega arith) in (
        t.0,
        rw a at t.1,
        record {
          standing = rw (x, y, ← f, ← g) t.2;
          right = rw x
              (choices_right v ms ls (omega arith) ∙ (ap (all (choice_right v)) t.2
              ∙ decides_right v (places full tops) t.0 (sym (choices_right v full tops (omega arith)) ∙ (ap (masks_right v) f ∙ full_right v n))));
          masks_long = omega (arith, length-append ms (drop n us), length-drop n us);
          limits_long = omega (arith, length-append ls (drop n vs), length-drop n vs);
        },
      )

-- the filter and the planner can be handed it
pub ready_for : (r : RuleSet) {n : ℕ} {ds : List Decision} {ms ls : List ℕ} → RulesRight r → 1 ≤ n → n ≤ most_days → AskedFor ds n r.size.values ms ls
    → Ready (handed_in n r) (take n ms) (take n ls)
ready_for r {n} {ds} {ms} {ls} h a b k = record {
  sizes = right_sizes n r.size.states r.size.values r.size.start.0 r.targets.now r.costs.now r.accepting a b h;
  rules = h;
  masks = k.right;
  masks_long = length-take-le n ms (omega (arith, k.masks_long));
  limits_long = length-take-le n ls (omega (arith, k.limits_long));
  few = b;
}

-- what is printed then
module _ (r : Rules) (s n : ℕ) (L : List (List ℕ)) where
  pub carried_wrong : (i : ℕ) → read_decisions n r.arcs.values 2 most_lines L ≡ wrong_line i → job_line i ≡ rota r s n L
  unfolding rota done_text
  carried_wrong i e = ap (done_text r s) (sym e)

  pub carried_all : {ms ls : List ℕ} (ds : List Decision) → read_decisions n r.arcs.values 2 most_lines L ≡ days n ds → AskedFor ds n r.arcs.values ms ls
      → verdict_text (verdict_of r s 0 (places (take n ms) (take n ls))) ≡ rota r s n L
  unfolding rota done_text
  carried_all ds e a = ap (λ (ps : List _). verdict_text (verdict_of r s 0 ps)) a.standing ∙ ap (done_text r s) (sym e)

module _ (r : Rules) (s n : ℕ) (all : List (List ℕ)) {L : List (List ℕ)} (b : L ≡ before_drawn all) where
  pub mend_wrong : (i : ℕ) → read_decisions n r.arcs.values 2 most_lines L ≡ wrong_line i → job_line i ≡ mend r s n all
  unfolding mend mend_text
  mend_wrong i e = ap (mend_text r s all) (sym e ∙ ap (read_decisions n r.arcs.values 2 most_lines) b)

  -- the last two lines decide
  pub mend_all : {ms ls : List ℕ} (ds : List Decision) → read_decisions n r.arcs.values 2 most_lines L ≡ days n ds → AskedFor ds n r.arcs.values ms ls
      → (rest : List (List ℕ)) (number : ℕ) → rest ≡ from_drawn all → number ≡ 2 + length (before_drawn all)
      → wish_text r s (places (take n ms) (take n ls)) (read_wish n r.arcs.values number rest) ≡ mend r s n all
  unfolding mend mend_text
  mend_all ds e a rest number f c =
      ap (λ (ps : List _). wish_text r s ps (read_wish n r.arcs.values number rest)) a.standing
      ∙ (ap (λ (x : List (List ℕ)). wish_text r s (asked r n ds) (read_wish n r.arcs.values number x)) f
      ∙ (ap (λ (i : ℕ). wish_text r s (asked r n ds) (read_wish n r.arcs.values i (from_drawn all))) c
      ∙ ap (mend_text r s all) (sym e ∙ ap (read_decisions n r.arcs.values 2 most_lines) b)))

-- a task by another name
pub task_is : (t u : Task) (r : Rules) (s n : ℕ) (ls : List (List ℕ)) → t ≡ u → program u r s n ls ≡ program t r s n ls
task_is t u r s n ls e = ap (λ (x : Task). program x r s n ls) (sym e)

-- a number that is read is in range
pub count_range : (w : List ℕ) (lo hi : ℕ) (l : List ℕ) (n : ℕ) → read_count w lo hi l ≡ Ok n → (lo ≤ n) × (n ≤ hi)
unfolding read_count
count_range w lo hi l n x =
    let (s, e0, f0) = on_strip_right (strip w l) _ n x in
    let (m, t, e1, f1) = on_field_right (read_number lo hi s) _ n f0 in
    let r = number_read lo hi s m t e1 in
    let c = close_right true m n t f1 in
    (omega (arith, r.low, c.2), omega (arith, r.high, c.2))

-- the days line
pub days_is : (l : List ℕ) → read_count days_word 1 most_days l ≡ read_days l
unfolding read_days
days_is l = refl

pub days_range : (l : List ℕ) (n : ℕ) → Ok n ≡ read_days l → (1 ≤ n) × (n ≤ most_days)
days_range l n e = count_range days_word 1 most_days l n (days_is l ∙ sym e)

-- the job by its first line
module _ (done : ℕ → List (List ℕ) → List ℕ) (text : List ℕ) where
  pub job_empty : length text ≡ 0 → job_line 1 ≡ days_done done (lines text)
  unfolding days_done lines
  job_empty h = ap (λ (t : List ℕ). days_done done (lines t)) (sym (none text h))
    where
      none : (t : List ℕ) → length t ≡ 0 → t ≡ []
      none [] h = refl
      none (b ∷ t) h = absurd (omega arith)

  module _ (end : ℕ) (l : LineAt text 0 end) where
    cuts : lines text ≡ take end text ∷ lines (drop end text)
    cuts = let z : end - 0 ≡ end = omega arith in rw z at l.cuts

    pub job_wrong : (f : Fault) → Err f ≡ read_days (take end text) → job_line 1 ≡ days_done done (lines text)
    unfolding days_done
    job_wrong f k = sym (rw (cuts, sym k))

    pub job_right : (n : ℕ) → Ok n ≡ read_days (take end text) → done n (lines (drop end text)) ≡ days_done done (lines text)
    unfolding days_done
    job_right n k = sym (rw (cuts, sym k))
