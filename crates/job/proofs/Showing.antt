-- A filter that no check refuses tells what the list of rosters tells. Assumes nothing.
use mathlib.Core.Path.{◌≡◌, ap, sym, ◌∙◌}
use mathlib.Core.List.{List, ◌++◌}
use Prim.Native.Nat.{ℕ}
use lib.ListN.{length}
use borrow.Author.Tests.{eq-eqb, ne_eqb}
use Rattle.meaning.specs.Meaning.{places, Verdict, verdict_of}
use Rattle.meaning.specs.Bounds.{work_size}
use Rattle.rules.specs.Checks.{Handed, size_right, tables_long, rules_right}
use Rattle.rules.proofs.Checks.{both}
use Rattle.filter.specs.Filter.{Left, left, filter_done, filter_of}
use Rattle.filter.proofs.Passes.{filter_passes}
use Rattle.job.specs.Inner.{Ready}
use Rattle.job.specs.Output.{kept_lines, least_line, none_text, verdict_text}

-- every check is passed
pub passed : (h : Handed) (ms ls ks work : List ℕ) → Ready h ms ls → length ks ≡ h.places → length work ≡ work_size h.places
    → filter_of h ms ls ks work ≡ filter_done (verdict_of h.rules h.start 0 (places ms ls)) work
unfolding rules_right
passed h ms ls ks work r ek ew =
    let b = both (tables_long h.rules.arcs.targets h.rules.arcs.costs) _ (both (size_right h.rules.arcs.states h.rules.arcs.values h.start) _ r.rules).1 in
    filter_passes h ms ls ks work r.sizes b.0 b.1 r.masks r.masks_long r.limits_long ek ew

-- what is printed of it
module _ (t : Verdict) (work : List ℕ) (a l : ℕ) (ks w : List ℕ) (e : left a l ks w ≡ filter_done t work) where
  pub shows_kept : a ≡ 0 → kept_lines 0 ks ++ least_line l ≡ verdict_text t
  unfolding verdict_text filter_done
  shows_kept h =
      let x : a ≡ t.answered = ap (λ (o : Left). o.answer) e in
      let y : l ≡ t.cheapest = ap (λ (o : Left). o.least) e in
      let z : ks ≡ t.masks = ap (λ (o : Left). o.kept) e in
      rw (eq-eqb t.answered 0 (sym x ∙ h), y, z)

  pub shows_none : (a ≡ 0 → ⊥) → none_text ≡ verdict_text t
  unfolding verdict_text filter_done
  shows_none h =
      let x : a ≡ t.answered = ap (λ (o : Left). o.answer) e in
      rw (ne_eqb t.answered 0 (λ z. h (x ∙ z)))
