-- A kind by its number. Assumes nothing.
use mathlib.Core.Path.{◌≡◌, sym, ap, ◌∙◌}
use Prim.Native.Nat.{ℕ}
use Rattle.machine.specs.Kinds.{kind_number}
use Rattle.machine.specs.declared.rows.Kind.{Kind}

pub numbered : (k j : Kind) (n : ℕ) → k ≡ j → kind_number k ≡ n → n ≡ kind_number j
numbered k j n e f = sym f ∙ ap kind_number e
