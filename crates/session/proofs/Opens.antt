-- The returns of open. Assumes nothing.
use mathlib.Core.Path.{◌≡◌, refl, sym, ap, ◌∙◌}
use mathlib.Core.Bool.{Bool, true, false, ◌&&◌}
use mathlib.Core.List.{List, []}
use Prim.Native.Nat.{ℕ, ◌-◌, ◌≤◌}
use native.Mathlib.Omega.{arith}
use lib.Dec.{eqb}
use lib.ListN.{length, take, length-drop}
use borrow.Author.Tests.{eq-eqb}
use Rattle.meaning.specs.Bounds.{most_places, most_states, most_values, work_size}
use Rattle.rules.specs.Checks.{Handed, sizes_right, tables_long, tables_right, rules_right, masks_right}
use Rattle.rules.specs.Answers.{decided, zeros}
use Rattle.rules.proofs.Checks.{not_so, size_of_lem, sizes_of, rules_tables}
use Rattle.ledger.specs.Sessions.{Opening, marks, decisions}
use Rattle.ledger.proofs.Bounds.{entries_right, WithinBounds}
use Rattle.ledger.specs.Readiness.{Left, left, renewed_of}
use Rattle.ledger.specs.Calls.{open_long, opened}
use Rattle.ledger.specs.Layout.{shown_size, held_size, memory_size}
use Rattle.ledger.specs.Memory.{held_of, held_in}
use Rattle.ledger.proofs.Numbers.{tail_is}
use Rattle.ledger.proofs.Checked.{OpenLengths, lengths_of}
use Rattle.session.proofs.Calls.{around, renews_as}

module _ (n : ℕ) (t c : List ℕ) (o : Opening) (m w : ℕ) where
  pub lengths_no : (OpenLengths n t c o m w → ⊥) → false ≡ (tables_long t c && open_long n o m w)
  lengths_no k = sym (not_so (tables_long t c && open_long n o m w) (λ e. k (lengths_of n t c o m w e)))

  pub tables_no : tables_long t c ≡ false → false ≡ (tables_long t c && open_long n o m w)
  unfolding open_long
  tables_no e = rw e

  -- the last length decides where the others are right
  pub lengths_last : tables_long t c ≡ true → m ≡ memory_size n → w ≡ work_size n → length o.masks ≡ n
      → eqb (length o.limits) n ≡ (tables_long t c && open_long n o m w)
  unfolding open_long
  lengths_last a b d e = rw (a, eq-eqb _ _ b, eq-eqb _ _ d, eq-eqb _ _ e)

module _ (h : Handed) (o : Opening) (m w : List ℕ) where
  abbrev sized : Bool
  sized = sizes_right h.places h.rules.arcs.states h.rules.arcs.values h.start

  abbrev ruled : Bool
  ruled = rules_right h.rules.arcs.states h.rules.arcs.values h.start h.rules.arcs.targets h.rules.arcs.costs h.rules.accepting

  pub open_size : sized ≡ false → left 1 m w ≡ opened h o m w
  unfolding opened decided
  open_size a = rw a

  abbrev long : Bool
  long = tables_long h.rules.arcs.targets h.rules.arcs.costs && open_long h.places o (length m) (length w)

  module _ (a : sized ≡ true) where
    pub open_lengths : long ≡ false → left 2 m w ≡ opened h o m w
    unfolding opened decided
    open_lengths b = rw (a, b)

    module _ (b : long ≡ true) where
      abbrev lengths : OpenLengths h.places h.rules.arcs.targets h.rules.arcs.costs o (length m) (length w)
      lengths = lengths_of h.places h.rules.arcs.targets h.rules.arcs.costs o (length m) (length w) b

      third : (r : Bool) → ruled ≡ r
          → tables_right h.rules.arcs.states h.rules.arcs.values h.rules.arcs.targets h.rules.arcs.costs h.rules.accepting ≡ r
      third r g = sym (rules_tables _ _ _ _ _ _ (sizes_of _ _ _ _ a).size lengths.tabled) ∙ g

      pub open_rules : ruled ≡ false → (w' : List ℕ) → w' ≡ zeros w → left 3 m w' ≡ opened h o m w
      unfolding opened decided
      open_rules g w' z = rw (a, b, third false g) (ap (left 3 m) z)

      module _ (g : ruled ≡ true) where
        pub open_mask : masks_right h.rules.arcs.values o.masks ≡ false → (w' : List ℕ) → w' ≡ zeros w → left 4 m w' ≡ opened h o m w
        unfolding opened decided
        open_mask k w' z = rw (a, b, third true g, k) (ap (left 4 m) z)

        pub begin_ready : (h.places ≤ most_places) × (h.rules.arcs.states ≤ most_states) × (h.rules.arcs.values ≤ most_values)
            × (length o.masks ≡ h.places) × (length o.limits ≡ h.places)
            × (length (take (length m - shown_size h.places) (held_in h.places m)) ≡ held_size h.places)
        begin_ready =
            let s = sizes_of _ _ _ _ a in
            let t = size_of_lem _ _ _ s.size in
            let c = lengths.memory_is in
            (s.few_places, t.few_states_lem, t.few_values, lengths.masks_are, lengths.limits_are, ap length (tail_is (shown_size h.places) m) ∙ simp length-drop (omega arith))

        open_within : masks_right h.rules.arcs.values o.masks ≡ true → WithinBounds h.places h.rules.arcs.values o []
        unfolding entries_right decisions marks
        open_within k = record {
          masks_long = lengths.masks_are;
          limits_long = lengths.limits_are;
          masks_right_lem = k;
          entries_right_lem = refl;
          few = omega arith;
          open_few = omega arith;
        }

        pub open_done : masks_right h.rules.arcs.values o.masks ≡ true
            → (y : List ℕ) → y ≡ held_of h.places h.rules.arcs.states h.rules.arcs.values h.start o []
            → (x : Left) → x ≡ renewed_of h (around h.places m y) w → x ≡ opened h o m w
        unfolding opened decided
        open_done k y i x z =
            rw (a, b, third true g, k)
            (renews_as h m y w o [] (record { sized = a; tabled = lengths.tabled; ruled = third true g; worked = lengths.work_is }) lengths.memory_is i (open_within k) x z)
