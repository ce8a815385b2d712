-- One rule set, handed to the filter and to the first roster in two ways: places from Q × V on play no part. Assumes nothing.
use mathlib.Core.Path.{◌≡◌, ap, ◌∙◌}
use mathlib.Core.List.{List}
use Prim.Native.Nat.{ℕ}
use Rattle.meaning.specs.Meaning.{Verdict, places, rosters, first}
use Rattle.rules.specs.Checks.{Handed, OneRuleSet}
use Rattle.rules.proofs.Within.{rosters_alike, calls_alike, tells_alike}
use Rattle.filter.specs.Filter.{filter_done, filter_of}
use Rattle.filter.specs.First.{first_done, first_of}

module _ (h k : Handed) (one : OneRuleSet h k) (ms ls : List ℕ) where
  pub filter_alike : (ks work : List ℕ) → filter_of h ms ls ks work ≡ filter_of k ms ls ks work
  unfolding filter_of
  filter_alike ks work =
      calls_alike h k one _ _ _ _ _ _ _ (cc one.places) (λ s. cc one.rules.values)
      (λ s p. ap (λ (t : Verdict). filter_done t work) (tells_alike h k one (places ms ls) s))

  pub first_alike : (i v : ℕ) (roster work : List ℕ) → first_of h ms ls i v roster work ≡ first_of k ms ls i v roster work
  unfolding first_of
  first_alike i v roster work =
      calls_alike h k one _ _ _ _ _ _ _ (cc one.places) (λ s. cc (one.places, one.rules.values))
      (λ s p. ap (λ (ws : List (List ℕ)). first_done (first i v ws) roster work)
      (rosters_alike h.rules k.rules one.rules h.start 0 (places ms ls) s ∙ ap (λ (q : ℕ). rosters k.rules q 0 (places ms ls)) one.start))
