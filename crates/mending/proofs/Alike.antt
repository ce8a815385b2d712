-- One rule set, handed to the planner and to the checker in two ways: places from Q × V on play no part. Assumes nothing.
use mathlib.Core.Path.{◌≡◌, ap, ◌∙◌}
use mathlib.Core.Bool.{Bool, ◌&&◌}
use mathlib.Core.List.{List}
use Prim.Native.Nat.{ℕ}
use lib.Dec.{eqb}
use Rattle.meaning.specs.Meaning.{places, allowed, rosters}
use Rattle.rules.specs.Checks.{Handed, OneRuleSet}
use Rattle.rules.specs.Report.{values_right}
use Rattle.rules.proofs.Checks.{both}
use Rattle.rules.proofs.Walk.{values_below}
use Rattle.rules.proofs.Within.{allowed_alike, rosters_alike, calls_alike}
use Rattle.mending.specs.Mending.{changes, mended, right}
use Rattle.mending.specs.Outcomes.{mend_done, mend_from, mend_of, said, check_from, check_of}

module _ (h k : Handed) (one : OneRuleSet h k) (ms ls ds : List ℕ) where
  pub mend_alike : (most : ℕ) (roster work : List ℕ) → mend_of h ms ls ds most roster work ≡ mend_of k ms ls ds most roster work
  unfolding mend_of mend_from
  mend_alike most roster work =
      calls_alike h k one _ _ _ _ _ _ _ (cc one.places) (λ s. cc one.rules.values)
      (λ s p. ap (λ (ws : List (List ℕ)). mend_done ds (mended ds most ws) roster work)
      (rosters_alike h.rules k.rules one.rules h.start 0 (places ms ls) s ∙ ap (λ (q : ℕ). rosters k.rules q 0 (places ms ls)) one.start))

  pub check_alike : (w : List ℕ) (claimed : ℕ) → check_of h ms ls ds w claimed ≡ check_of k ms ls ds w claimed
  unfolding check_of check_from right
  check_alike w claimed =
      calls_alike h k one _ _ _ _ _ _ _ (cc one.places) (λ s. cc one.rules.values)
      (λ s p. ap (λ (b : Bool). said 0 (b && eqb (changes ds w) claimed))
      (allowed_alike h.rules k.rules one.rules h.start 0 (places ms ls) w s (values_below _ w (both (values_right h.rules.arcs.values ds) _ p.1.0).1)
      ∙ ap (λ (q : ℕ). allowed k.rules q 0 (places ms ls) w) one.start))
