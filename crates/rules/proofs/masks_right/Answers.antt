use borrow.Author.Tests.{tests}
use lib.Dec.{ltb}
use native.Mathlib.Omega.{arith}
use Prim.Native.Nat.{◌^◌}
use Rattle.std.proofs.Common.{rules}
use Rattle.std.proofs.lemmas.Iterator.{YieldsList-from_slice}
use Rattle.std.proofs.lemmas.Iterator.Search.{all_from_yields_List}
use Rattle.std.proofs.lemmas.List.{take_all}
use Rattle.rules.specs.Checks.{masks_right}
use Rattle.rules.proofs.masks_right.Goals as goal

-- For the code as it stands the check would find this by unfolding alone. Written out it holds of any slice that has all the masks, so that
-- a wrong program which leaves one out is refused for that one.
pub returns : goal.returns
unfolding masks_right
returns c = all_from_yields_List (λ m. ltb m (2 ^ c.args.values)) _ _ _ c.all.ensures.ran (YieldsList-from_slice c.args.masks.now (grind (arith, take_all))) (λ x b q k. search (rules, tests))
