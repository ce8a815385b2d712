-- What the planner and the checker are lent beside the tables has its lengths, one by one. Assumes nothing.
use mathlib.Core.Path.{◌≡◌}
use mathlib.Core.Bool.{true}
use Prim.Native.Nat.{ℕ}
use lib.Dec.{eqb}
use borrow.Author.Tests.{eqb-true, eq-eqb}
use Rattle.rules.proofs.Checks.{both}
use Rattle.mending.specs.Outcomes.{rosters_long}

pub record Long (n ms ls ds out : ℕ) : Type 0 where
  pub of_masks : ms ≡ n
  pub of_limits : ls ≡ n
  pub of_drawn : ds ≡ n
  pub of_out : out ≡ n

pub long_of : (n ms ls ds out : ℕ) → rosters_long n ms ls ds out ≡ true → Long n ms ls ds out
unfolding rosters_long
long_of n ms ls ds out h =
    let a = both (eqb ms n) _ h in
    let b = both (eqb ls n) _ a.1 in
    let c = both (eqb ds n) _ b.1 in
    record { of_masks = eqb-true _ _ a.0; of_limits = eqb-true _ _ b.0; of_drawn = eqb-true _ _ c.0; of_out = eqb-true _ _ c.1 }

-- where the others are right, the last decides
pub long_last : (n ms ls ds out : ℕ) → ms ≡ n → ls ≡ n → ds ≡ n → eqb out n ≡ rosters_long n ms ls ds out
unfolding rosters_long
long_last n ms ls ds out a b c = rw (eq-eqb ms n a, eq-eqb ls n b, eq-eqb ds n c)
