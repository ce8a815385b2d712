-- A filter that no check refuses tells what the list of rosters tells. Assumes nothing.
use mathlib.Core.Path.{◌≡◌}
use mathlib.Core.Bool.{true}
use mathlib.Core.List.{List}
use Prim.Native.Nat.{ℕ}
use lib.ListN.{length}
use borrow.Author.Tests.{eq-eqb}
use Rattle.meaning.specs.Meaning.{places, verdict_of}
use Rattle.meaning.specs.Bounds.{work_size}
use Rattle.rules.specs.Checks.{Handed, sizes_right, tables_long, tables_right, masks_right}
use Rattle.rules.specs.Answers.{decided}
use Rattle.filter.specs.Filter.{lengths_right, filter_done, filter_of}

module _ (h : Handed) (ms ls ks work : List ℕ) where
  pub filter_passes : sizes_right h.places h.rules.arcs.states h.rules.arcs.values h.start ≡ true
      → tables_long h.rules.arcs.targets h.rules.arcs.costs ≡ true
      → tables_right h.rules.arcs.states h.rules.arcs.values h.rules.arcs.targets h.rules.arcs.costs h.rules.accepting ≡ true
      → masks_right h.rules.arcs.values ms ≡ true → length ms ≡ h.places → length ls ≡ h.places → length ks ≡ h.places
      → length work ≡ work_size h.places
      → filter_of h ms ls ks work ≡ filter_done (verdict_of h.rules h.start 0 (places ms ls)) work
  unfolding filter_of decided lengths_right
  filter_passes sized tabled ruled masked a b c d =
      rw (sized, tabled, eq-eqb _ _ a, eq-eqb _ _ b, eq-eqb _ _ c, eq-eqb _ _ d, ruled, masked)
