-- Well-formed memory is the image of one session within its bounds, and of no other. Assumes nothing.
use mathlib.Core.Path.{◌≡◌, sym, ap, ap₂, ◌∙◌}
use mathlib.Core.Bool.{Bool, true}
use mathlib.Core.List.{List, ◌++◌}
use Prim.Native.Nat.{ℕ, ◌≤◌}
use native.Mathlib.Omega.{arith}
use lib.ListN.{length, take, length-append, length-drop, take-append-drop}
use lib.Seq.{take_at, drop_at}
use Rattle.meaning.specs.Meaning.{Decision, places, Verdict}
use Rattle.meaning.specs.Bounds.{most_places, most_values}
use Rattle.meaning.proofs.Members.{length_places}
use Rattle.meaning.proofs.Verdicts.{verdict_long}
use Rattle.meaning.proofs.Decisions.{length_decides}
use Rattle.rules.specs.Checks.{Handed}
use Rattle.rules.proofs.Checks.{both}
use Rattle.ledger.specs.Sessions.{Opening, Entry, standing, places_by, verdict_by}
use Rattle.ledger.proofs.Bounds.{WithinBounds}
use Rattle.ledger.specs.Layout.{shown_size, memory_size}
use Rattle.ledger.specs.Memory.{held_of, shown_of, image_of, entries_of, opening_of, held_in, held_right, verdict_held, same, well_formed, Held}
use Rattle.ledger.proofs.Numbers.{and_both, same_eq, same_refl}
use Rattle.ledger.proofs.Image.{held_of_lem, entries_of_lem, opening_of_lem, long_of, reads_back, reads_within}

module _ (h : Handed) where
  abbrev held : Opening → List Entry → List ℕ
  held o es = held_of h.places h.rules.arcs.states h.rules.arcs.values h.start o es

  abbrev right : List ℕ → Bool
  right l = held_right h.places h.rules.arcs.states h.rules.arcs.values h.start l

  -- a mask is kept for each place, whatever the decisions
  pub places_by_long : (o : Opening) (ds : List Decision) → length o.masks ≡ h.places → length o.limits ≡ h.places
      → length (places_by o ds) ≡ h.places
  unfolding places_by
  places_by_long o ds a b = length_decides (places o.masks o.limits) ds ∙ length_places o.masks o.limits (a ∙ sym b) ∙ a

  pub verdict_by_long : (o : Opening) (ds : List Decision) → length o.masks ≡ h.places → length o.limits ≡ h.places
      → length (verdict_by h o ds).masks ≡ h.places
  unfolding verdict_by
  verdict_by_long o ds a b = verdict_long h.rules h.start 0 (places_by o ds) ∙ places_by_long o ds a b

  module _ (o : Opening) (es : List Entry) (f : WithinBounds h.places h.rules.arcs.values o es) where
    abbrev verdict_now : Verdict
    verdict_now = verdict_by h o (standing es)

    shown_long : length (shown_of verdict_now) ≡ shown_size h.places
    unfolding shown_of
    shown_long = let a = verdict_by_long o (standing es) f.masks_long f.limits_long in omega arith

    pub image_held : held_in h.places (image_of h o es) ≡ held o es
    unfolding image_of
    image_held = drop_at (shown_of verdict_now) (held o es) (shown_size h.places) shown_long

    pub image_shown : take (shown_size h.places) (image_of h o es) ≡ shown_of verdict_now
    unfolding image_of
    image_shown = take_at (shown_of verdict_now) (held o es) (shown_size h.places) shown_long

    pub image_entries : entries_of (held_in h.places (image_of h o es)) ≡ es
    image_entries = ap entries_of image_held ∙ entries_of_lem h.places h.rules.arcs.states h.rules.arcs.values h.start o es f

    pub image_opening : opening_of h.places (held_in h.places (image_of h o es)) ≡ o
    image_opening =
        ap (opening_of h.places) image_held ∙ opening_of_lem h.places h.rules.arcs.states h.rules.arcs.values h.start o es f

    pub image_verdict : verdict_held h (held_in h.places (image_of h o es)) ≡ verdict_now
    unfolding verdict_held
    image_verdict = ap₂ (λ (a : List Entry) (b : Opening). verdict_by h b (standing a)) image_entries image_opening

    pub image_long : length (image_of h o es) ≡ memory_size h.places
    unfolding image_of
    image_long =
        length-append (shown_of verdict_now) (held o es)
        ∙ (let a = shown_long in let b = long_of h.places h.rules.arcs.states h.rules.arcs.values h.start o es f in omega arith)

    -- the image of a session within its bounds is well-formed
    pub image_right : well_formed h (image_of h o es) ≡ true
    unfolding well_formed
    image_right =
        and_both (right (held_in h.places (image_of h o es))) _
        (ap right image_held ∙ held_of_lem h.places h.rules.arcs.states h.rules.arcs.values h.start o es f)
        (ap₂ (λ (a : List ℕ) (b : Verdict). same a (shown_of b)) image_shown image_verdict ∙ same_refl (shown_of verdict_now))

  -- one memory is the image of one session
  pub image_one : (o o' : Opening) (es es' : List Entry) → WithinBounds h.places h.rules.arcs.values o es
      → WithinBounds h.places h.rules.arcs.values o' es' → image_of h o es ≡ image_of h o' es' → (o ≡ o') × (es ≡ es')
  image_one o o' es es' f f' e = (
    sym (image_opening o es f) ∙ ap (λ (t : List ℕ). opening_of h.places (held_in h.places t)) e ∙ image_opening o' es' f',
    sym (image_entries o es f) ∙ ap (λ (t : List ℕ). entries_of (held_in h.places t)) e ∙ image_entries o' es' f',
  )

  -- well-formed memory is the image of the session read from it, which is within its bounds
  module _ (m : List ℕ) (long : length m ≡ memory_size h.places) (low : 1 ≤ h.places) (high : h.places ≤ most_places)
      (few : h.rules.arcs.values ≤ most_values) (formed : well_formed h m ≡ true) where
    abbrev l : List ℕ
    l = held_in h.places m

    pub formed_held : Held h.places h.rules.arcs.states h.rules.arcs.values h.start l
    unfolding well_formed
    formed_held = record {
      some_places = low;
      few_places = high;
      few_values = few;
      long = simp length-drop (omega arith);
      right = (both (right l) _ formed).0;
    }

    pub formed_within : WithinBounds h.places h.rules.arcs.values (opening_of h.places l) (entries_of l)
    formed_within = reads_within h.places h.rules.arcs.states h.rules.arcs.values h.start l formed_held

    pub formed_shown : take (shown_size h.places) m ≡ shown_of (verdict_held h l)
    unfolding well_formed
    formed_shown = same_eq (take (shown_size h.places) m) (shown_of (verdict_held h l)) (both (right l) _ formed).1

    pub formed_image : m ≡ image_of h (opening_of h.places l) (entries_of l)
    unfolding image_of verdict_held
    formed_image =
        sym (take-append-drop (shown_size h.places) m)
        ∙ ap₂ (λ (a b : List ℕ). a ++ b) formed_shown
        (reads_back h.places h.rules.arcs.states h.rules.arcs.values h.start l formed_held)
