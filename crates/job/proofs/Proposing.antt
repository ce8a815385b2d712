-- A planner that no check refuses tells what the list of rosters tells. Assumes nothing.
use mathlib.Core.Path.{◌≡◌, refl, ap}
use mathlib.Core.List.{List, [], ◌∷◌, ◌++◌}
use Prim.Native.Nat.{ℕ}
use native.Mathlib.Omega.{arith}
use lib.ListN.{length}
use borrow.Author.Tests.{eq-eqb, le-leb}
use Rattle.meaning.specs.Meaning.{places, rosters}
use Rattle.meaning.specs.Bounds.{plan_size}
use Rattle.rules.specs.Checks.{Handed, size_right, tables_long, rules_right}
use Rattle.rules.specs.Answers.{decided}
use Rattle.rules.proofs.Checks.{both}
use Rattle.mending.specs.Mending.{mended}
use Rattle.mending.specs.Outcomes.{Planned, planned, rosters_long, mend_done, mend_from, mend_of}
use Rattle.job.specs.Output.{none_text}
use Rattle.job.specs.Mend.{changes_line, change_lines, roster_line, mended_text}
use Rattle.job.specs.Inner.{Ready, Wished}

-- every check is passed
pub mend_passes : (h : Handed) (ms ls ds : List ℕ) (k : ℕ) (roster work : List ℕ) → Ready h ms ls → Wished h.places h.rules.arcs.values ds k
    → length roster ≡ h.places → length work ≡ plan_size h.places
    → mend_of h ms ls ds k roster work ≡ mend_done ds (mended ds k (rosters h.rules h.start 0 (places ms ls))) roster work
unfolding rules_right mend_of mend_from rosters_long decided
mend_passes h ms ls ds k roster work g w er ew =
    let b = both (tables_long h.rules.arcs.targets h.rules.arcs.costs) _ (both (size_right h.rules.arcs.states h.rules.arcs.values h.start) _ g.rules).1 in
    rw (g.sizes, b.0, eq-eqb _ _ g.masks_long, eq-eqb _ _ g.limits_long, eq-eqb _ _ w.drawn_long, eq-eqb _ _ er, eq-eqb _ _ ew, b.1, g.masks, le-leb _ _ w.most, w.drawn_right)

-- what is printed of it
module _ (ds roster work : List ℕ) (a n : ℕ) (out left : List ℕ) where
  pub shows_mended : (ws : List (List ℕ)) → planned a n out left ≡ mend_done ds ws roster work → a ≡ 0 → changes_line n ++ (change_lines 0 ds out ++ roster_line out) ≡ mended_text ds ws
  unfolding mend_done mended_text
  shows_mended [] e h = let x : a ≡ 11 = ap (λ (o : Planned). o.answer) e in absurd (omega arith)
  shows_mended (w ∷ ws) e h =
      let x : n ≡ _ = ap (λ (o : Planned). o.changed) e in
      let y : out ≡ w = ap (λ (o : Planned). o.roster) e in
      rw (x, y)

  pub shows_unmended : (ws : List (List ℕ)) → planned a n out left ≡ mend_done ds ws roster work → (a ≡ 0 → ⊥) → none_text ≡ mended_text ds ws
  unfolding mend_done mended_text
  shows_unmended [] e h = refl
  shows_unmended (w ∷ ws) e h = absurd (h (ap (λ (o : Planned). o.answer) e))
