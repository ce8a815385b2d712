-- A session within its bounds. Assumes nothing.
use mathlib.Core.Path.{◌≡◌}
use mathlib.Core.Bool.{Bool, true, ◌&&◌}
use mathlib.Core.List.{List, [], ◌∷◌}
use Prim.Native.Nat.{ℕ, ◌≤◌}
use lib.ListN.{length}
use Rattle.rules.specs.Checks.{masks_right}
use Rattle.ledger.specs.Layout.{most_decisions, most_marks}
use Rattle.ledger.specs.Sessions.{Opening, Entry, decision, mark, marks, decisions, decision_right}

-- at n places and v values
unfoldable pub entry_right : ℕ → ℕ → Entry → Bool
entry_right n v (decision d) = decision_right n v d
entry_right n v mark = true

unfoldable pub entries_right : ℕ → ℕ → List Entry → Bool
entries_right n v [] = true
entries_right n v (e ∷ es) = entry_right n v e && entries_right n v es

pub record WithinBounds (n v : ℕ) (o : Opening) (es : List Entry) : Type 0 where
  pub masks_long : length o.masks ≡ n
  pub limits_long : length o.limits ≡ n
  pub masks_right_lem : masks_right v o.masks ≡ true
  pub entries_right_lem : entries_right n v es ≡ true
  pub few : decisions es ≤ most_decisions
  pub open_few : marks es ≤ most_marks
