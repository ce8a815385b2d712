-- What the inner contracts cite. Inner: no public contract cites this file.
use Rattle.std.specs.Prelude.{List, ◌≡◌, ℕ, ◌≤◌, length}
use Rattle.meaning.specs.Meaning.{Rules}
use Rattle.meaning.specs.Bounds.{most_places, most_states, most_values, table_size}

-- what the walk is lent, in its sizes
pub record Sizes (r : Rules) (ms ls ds w : List ℕ) : Type 0 where
  pub few_states_lem : r.arcs.states ≤ most_states
  pub few_values : r.arcs.values ≤ most_values
  pub all_targets : length r.arcs.targets ≡ table_size
  pub all_costs : length r.arcs.costs ≡ table_size
  pub few_places : length w ≤ most_places
  pub all_masks : length ms ≡ length w
  pub all_limits : length ls ≡ length w
  pub all_drawn : length ds ≡ length w
