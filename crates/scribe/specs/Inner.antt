-- What only the inner functions' contracts cite.
use Rattle.std.specs.Prelude.{◌≡◌, ◌≤◌, List, ℕ, length}
use Rattle.meaning.specs.Bounds.{most_states, most_values, table_size}
use Rattle.meaning.specs.Meaning.{Arcs}
use Rattle.meaning.specs.Lists.{from, each}
use Rattle.rules.specs.declared.RuleSet.{RuleSet}
use Rattle.sheet.specs.Lines.{line_text}
use Rattle.sheet.specs.Sheets.{final_line, arc_line}

-- the first n of some texts
unfoldable pub listed : (ℕ → List ℕ) → ℕ → List ℕ
listed f n = each f (from 0 n)

-- the final line of a state, the arc line of a state on a value, and the arc lines of a state: each may be none
unfoldable pub state_text : ℕ → ℕ → List ℕ
state_text accepting q = each line_text (final_line accepting q)

unfoldable pub arc_text : Arcs → ℕ → ℕ → List ℕ
arc_text a q v = each line_text (arc_line a q v)

unfoldable pub row_text : Arcs → ℕ → List ℕ
row_text a q = listed (arc_text a q) a.values

-- a rule set of whose sizes and tables the checks have been made
pub record Writable (r : RuleSet) : Type 0 where
  pub few_states_lem : r.size.states ≤ most_states
  pub few_values : r.size.values ≤ most_values
  pub targets_long : length r.targets.now ≡ table_size
  pub costs_long : length r.costs.now ≡ table_size
