-- The sizes of the paper, each named once. The code's names for them are in crates/rules/src/bounds.rt.
use Rattle.std.specs.Prelude.{ℕ, ◌+◌, ◌*◌}
use Rattle.kinds.specs.Bits.{width}

abbrev pub most_places : ℕ
most_places = 366

abbrev pub most_states : ℕ
most_states = 64

abbrev pub most_values : ℕ
most_values = width

abbrev pub most_cost : ℕ
most_cost = 1000

-- the target that means: no arc
abbrev pub no_target : ℕ
no_target = 255

-- the places of a lent rule table
abbrev pub table_size : ℕ
table_size = most_states * most_values

-- the numbers of a lent work table: a row for each layer
abbrev pub work_size : ℕ → ℕ
work_size n = (n + 1) * most_states

-- the most changes that a planner can be asked for, and the numbers of the work table that it is lent: a row for each layer and number of changes
abbrev pub most_changes : ℕ
most_changes = 7

abbrev pub plan_size : ℕ → ℕ
plan_size n = (most_changes + 1) * work_size n

-- no running cost passes this, so a limit above it counts as it. Laws speak of it by name alone.
unfoldable pub top : ℕ
top = most_places * most_cost
