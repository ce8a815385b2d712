-- One rule set, handed to a session call in two ways: places from Q × V on play no part. Assumes nothing.
use mathlib.Core.Path.{◌≡◌, ap, ◌∙◌}
use mathlib.Core.List.{List, []}
use Prim.Native.Nat.{ℕ, ◌<◌}
use Rattle.meaning.specs.Meaning.{Decision}
use Rattle.rules.specs.Checks.{Handed, OneRuleSet}
use Rattle.rules.proofs.Within.{calls_alike, tells_alike}
use Rattle.ledger.specs.Sessions.{Opening, Entry, standing, places_by, verdict_by, Ask, after}
use Rattle.ledger.specs.Calls.{became, called, opened}
use Rattle.ledger.specs.Memory.{image_of, entries_of, opening_of, held_in, verdict_held, well_formed}

module _ (h k : Handed) (one : OneRuleSet h k) where
  -- where the start is a state
  module _ (state : h.start < h.rules.arcs.states) where
    pub verdict_by_alike : (o : Opening) (ds : List Decision) → verdict_by h o ds ≡ verdict_by k o ds
    unfolding verdict_by
    verdict_by_alike o ds = tells_alike h k one (places_by o ds) state

    pub formed_alike : (m : List ℕ) → well_formed h m ≡ well_formed k m
    unfolding well_formed verdict_held
    formed_alike m =
        let l : List ℕ = held_in h.places m in
        cc (one.places, one.start, one.rules.states, one.rules.values, verdict_by_alike (opening_of h.places l) (standing (entries_of l)))

    became_alike : (o : Opening) (es : List Entry) (w : List ℕ) → became h o es w ≡ became k o es w
    unfolding became image_of
    became_alike o es w = cc (one.places, one.start, one.rules.states, one.rules.values, verdict_by_alike o (standing es))

  pub called_alike : (a : Ask) (m w : List ℕ) → called h a m w ≡ called k a m w
  unfolding called
  called_alike a m w =
      calls_alike h k one _ _ _ _ _ _ _ (cc one.places) (λ s. cc (one.places, one.rules.values, formed_alike s m))
      (λ s p.
      became_alike s _ _ w ∙ ap (λ (n : ℕ). became k (opening_of n (held_in n m)) (after a (entries_of (held_in n m))) w) one.places)

  pub opened_alike : (o : Opening) (m w : List ℕ) → opened h o m w ≡ opened k o m w
  unfolding opened
  opened_alike o m w = calls_alike h k one _ _ _ _ _ _ _ (cc one.places) (λ s. cc one.rules.values) (λ s p. became_alike s o [] w)
