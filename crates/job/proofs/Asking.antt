-- The largest mask of so many values, and a number's ceiling by another name. Assumes nothing.
use mathlib.Core.Path.{◌≡◌, sym, ◌∙◌}
use mathlib.Core.List.{List}
use Prim.Native.Nat.{ℕ, ◌-◌, ◌^◌, ◌≤◌}
use native.Mathlib.Omega.{arith}
use lib.Dec.{ltb}
use Rattle.kinds.specs.Bits.{width, mask_of}
use Rattle.kinds.proofs.Bits.{ones_mask}
use Rattle.meaning.specs.Bounds.{most_values}
use Rattle.text.specs.Numbers.{read_number, NumberAt}
use Rattle.text.specs.declared.numbers.Number.{Number}
use Rattle.text.specs.declared.numbers.NumberFault.{NumberFault}
use Rattle.text.specs.Lines.{Judged}
use Rattle.text.specs.declared.lines.Fault.{Fault}
use Rattle.meaning.specs.Meaning.{Decision}
use Rattle.job.specs.Inner.{AskedAt}
use Rattle.job.specs.declared.asks.Asked.{Asked}
use Rattle.std.specs.Prelude.{Result, Ok, Err}

-- the full mask
pub full_is : (v m : ℕ) → v ≤ most_values → m ≡ mask_of (λ u. ltb u v) width → m ≡ 2 ^ v - 1
full_is v m h e = e ∙ sym (ones_mask width v v (omega arith))

pub ceiling_is : (s x : List ℕ) (lo h k : ℕ) (r : Result Number NumberFault) → h ≡ k → NumberAt (read_number lo h x) s r → NumberAt (read_number lo k x) s r
ceiling_is s x lo h k r e n = rw e at n

-- what is read of a line, by another name
pub asked_as : {x y : Judged Decision} (n : ℕ) (r : Result Asked Fault) → x ≡ y → AskedAt x n r → AskedAt y n r
asked_as n (Ok a) e h = (h.0 ∙ e, h.1)
asked_as n (Err f) e h = h ∙ e
