-- The returns of `lent_right`. Assumes nothing.
use mathlib.Core.Path.{◌≡◌, sym, ap, ◌∙◌}
use mathlib.Core.Bool.{Bool, true, false, ◌&&◌}
use mathlib.Core.List.{List}
use Prim.Native.Nat.{ℕ, ◌-◌}
use native.Mathlib.Omega.{arith}
use lib.ListN.{length, take, length-drop}
use lib.Dec.{eqb}
use borrow.Author.Tests.{eqb-true}
use Rattle.meaning.specs.Bounds.{work_size}
use Rattle.rules.specs.Checks.{Handed, sizes_right, tables_long, tables_right, rules_right}
use Rattle.rules.specs.Answers.{decided, zeros}
use Rattle.rules.proofs.Checks.{both, sizes_of, rules_tables}
use Rattle.ledger.specs.Readiness.{readiness}
use Rattle.ledger.specs.Layout.{memory_size, shown_size, held_size}
use Rattle.ledger.specs.Memory.{held_in, held_right}
use Rattle.ledger.proofs.Numbers.{tail_is}
use Rattle.machine.specs.Inner.{lent_of}

-- what is held, as it is lent on
abbrev part : ℕ → List ℕ → List ℕ
part n m = take (length m - shown_size n) (held_in n m)

pub part_long : (n : ℕ) (m : List ℕ) → length m ≡ memory_size n → length (part n m) ≡ held_size n
part_long n m e = ap length (tail_is (shown_size n) m) ∙ simp length-drop (omega arith)

module _ (h : Handed) (m w : List ℕ) where
  abbrev sized : Bool
  sized = sizes_right h.places h.rules.arcs.states h.rules.arcs.values h.start

  abbrev long : Bool
  long = tables_long h.rules.arcs.targets h.rules.arcs.costs && (eqb (length m) (memory_size h.places) && eqb (length w) (work_size h.places))

  pub lent_size : sized ≡ false → readiness 1 w ≡ lent_of h m w
  unfolding lent_of decided
  lent_size a = rw a

  module _ (a : sized ≡ true) where
    pub lent_lengths : long ≡ false → readiness 2 w ≡ lent_of h m w
    unfolding lent_of decided
    lent_lengths b = rw (a, b)

    module _ (b : long ≡ true) where
      tabled : tables_long h.rules.arcs.targets h.rules.arcs.costs ≡ true
      tabled = (both (tables_long h.rules.arcs.targets h.rules.arcs.costs) _ b).0

      pub memory_is : length m ≡ memory_size h.places
      memory_is = eqb-true _ _ (both (eqb (length m) (memory_size h.places)) _ (both (tables_long h.rules.arcs.targets h.rules.arcs.costs) _ b).1).0

      abbrev ruled : Bool
      ruled = rules_right h.rules.arcs.states h.rules.arcs.values h.start h.rules.arcs.targets h.rules.arcs.costs h.rules.accepting

      third : (r : Bool) → ruled ≡ r
          → tables_right h.rules.arcs.states h.rules.arcs.values h.rules.arcs.targets h.rules.arcs.costs h.rules.accepting ≡ r
      third r f = sym (rules_tables _ _ _ _ _ _ (sizes_of _ _ _ _ a).size tabled) ∙ f

      pub lent_rules : ruled ≡ false → (w' : List ℕ) → w' ≡ zeros w → readiness 3 w' ≡ lent_of h m w
      unfolding lent_of decided
      lent_rules f w' g = rw (a, b, third false f, g)

      abbrev right : List ℕ → Bool
      right l = held_right h.places h.rules.arcs.states h.rules.arcs.values h.start l

      module _ (f : ruled ≡ true) (k : Bool) (g : k ≡ right (part h.places m)) where
        told : (r : Bool) → k ≡ r → right (held_in h.places m) ≡ r
        told r i = sym (g ∙ ap right (tail_is (shown_size h.places) m)) ∙ i

        pub lent_held : k ≡ false → (w' : List ℕ) → w' ≡ zeros w → readiness 12 w' ≡ lent_of h m w
        unfolding lent_of decided
        lent_held i w' j = rw (a, b, third true f, told false i, j)

        pub lent_done : k ≡ true → readiness 0 w ≡ lent_of h m w
        unfolding lent_of decided
        lent_done i = rw (a, b, third true f, told true i)
