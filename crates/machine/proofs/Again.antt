-- Filtering once more changes nothing, of the filter itself: handed what a session has on hand, it passes its checks. Assumes nothing.
use mathlib.Core.Path.{◌≡◌, ap, ◌∙◌}
use mathlib.Core.Bool.{true}
use mathlib.Core.List.{List}
use Prim.Native.Nat.{ℕ}
use lib.ListN.{length}
use Rattle.meaning.specs.Meaning.{Decision, Verdict}
use Rattle.meaning.specs.Bounds.{work_size}
use Rattle.rules.specs.Checks.{Handed, masks_right}
use Rattle.rules.proofs.Lawful.{kept_right}
use Rattle.ledger.specs.Sessions.{Opening, places_by, verdict_by}
use Rattle.ledger.specs.Calls.{opened}
use Rattle.ledger.specs.History.{Call, memory_after, seen_of, granted, SameRules, standing_after, read_off, limits_of}
use Rattle.ledger.proofs.Checked.{lengths_of}
use Rattle.ledger.proofs.WellFormed.{places_by_long, verdict_by_long}
use Rattle.ledger.proofs.Demand.{limits_length, opening_passed, demand_3}
use Rattle.filter.specs.Filter.{filter_done, filter_of}
use Rattle.filter.proofs.Passes.{filter_passes}

-- after an opening that is not refused and any calls, each that is not refused handed the opening's rule set
module _ (h : Handed) (o : Opening) (m w : List ℕ) (cs : List Call) (answered : granted (opened h o m w).answer ≡ true)
    (same : SameRules h (opened h o m w).memory cs) where
  -- the memory, the decisions neither refused nor taken back, and the kept masks
  abbrev memory : List ℕ
  memory = memory_after (opened h o m w).memory cs

  abbrev ds : List Decision
  ds = standing_after 0 (seen_of (opened h o m w).memory cs)

  abbrev kept : List ℕ
  kept = (read_off h.places memory).masks

  kept_range : masks_right h.rules.arcs.values kept ≡ true
  unfolding verdict_by
  kept_range =
      ap (λ (t : Verdict). masks_right h.rules.arcs.values t.masks) (demand_3 h o m w cs answered same).session_tells
      ∙ kept_right h.rules h.start 0 (places_by o ds)

  pub filter_again : (out work : List ℕ) → length out ≡ h.places → length work ≡ work_size h.places
      → filter_of h kept (limits_of (places_by o ds)) out work ≡ filter_done (verdict_by h o ds) work
  filter_again out work a b =
      let p = opening_passed h o m w answered in
      let l = lengths_of h.places _ _ o (length m) (length w) p.1.0 in
      let t = demand_3 h o m w cs answered same in
      filter_passes h kept (limits_of (places_by o ds)) out work p.0 l.tabled p.1.1.0 kept_range
      (ap (λ (x : Verdict). length x.masks) t.session_tells ∙ verdict_by_long h o ds l.masks_are l.limits_are)
      (limits_length (places_by o ds) ∙ places_by_long h o ds l.masks_are l.limits_are) a b
      ∙ ap (λ (x : Verdict). filter_done x work) t.session_again
