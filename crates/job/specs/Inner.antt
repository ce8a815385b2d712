-- What only the inner functions' contracts cite.
use Rattle.std.specs.Prelude.{◌≡◌, true, false, Option, None, Some, Result, Ok, Err, List, ℕ, ◌+◌, ◌-◌, ◌^◌, ◌≤◌, ◌<◌, length, take, drop, replicate}
use Rattle.meaning.specs.Meaning.{Decision, Keep, Limit, places, decides}
use Rattle.meaning.specs.Bounds.{top, most_changes}
use Rattle.rules.specs.Checks.{Handed, sizes_right, rules_right, masks_right}
use Rattle.rules.specs.declared.RuleSet.{RuleSet}
use Rattle.rules.specs.Report.{values_right}
use Rattle.text.specs.Lines.{Judged, lines}
use Rattle.text.specs.declared.lines.Fault.{Fault}
use Rattle.job.specs.Input.{most_days, before, parted, after, Job, days, wrong_line}
use Rattle.job.specs.Job.{Program, rota}
use Rattle.job.specs.Mend.{before_drawn, from_drawn, Wish, wish, wrong_wish, read_last, mend}
use Rattle.job.specs.declared.asks.Asked.{Asked}
use Rattle.job.specs.declared.asks.Asked.TheVariants as the-asked
use Rattle.job.specs.declared.plan.Room.{Room}
use Rattle.job.specs.declared.plan.Task.{Task}
use Rattle.job.specs.declared.plan.Task.TheVariants as the-task
use Rattle.job.specs.declared.take.WrongLine.{WrongLine}

-- an input cut at its first empty line, if there is one
abbrev pub JobAt : List ℕ → Option ℕ → Type 0
JobAt s None = false ≡ parted true s
JobAt s (Some job) = (job ≤ length s) × (true ≡ parted true s) × (drop job s ≡ after true s)

pub record CutAt (s : List ℕ) (sheet : ℕ) (job : Option ℕ) : Type 0 where
  pub inside : sheet ≤ length s
  pub sheet_is : take sheet s ≡ before true s
  pub job_is : JobAt s job

-- the decision that a line asks for; and its place is there
abbrev pub decision_of : Asked → Decision
decision_of (the-asked.Keep i m) = Keep i m.0
decision_of (the-asked.Limit i c) = Limit i c

abbrev pub AskedIn : Asked → ℕ → ℕ → Type 0
AskedIn (the-asked.Keep i m) masks limits = i < masks
AskedIn (the-asked.Limit i c) masks limits = i < limits

-- a line of a job, as the code has it: what is read is asked for of n days
abbrev pub AskedAt : Judged Decision → ℕ → Result Asked Fault → Type 0
AskedAt x n (Ok a) = (Ok (decision_of a) ≡ x) × AskedIn a n n
AskedAt x n (Err f) = Err f ≡ x

-- the lines of a job that were taken: all its decisions are in the masks and limits, or its first wrong line is told
abbrev pub Took : Job → List ℕ → List ℕ → Result Unit WrongLine → List ℕ → List ℕ → Type 0
Took j ms ls (Ok u) ms2 ls2 = (ds : List Decision) × (j ≡ days (length ms) ds) × (places ms2 ls2 ≡ decides (places ms ls) ds)
Took j ms ls (Err k) ms2 ls2 = j ≡ wrong_line k.0

-- what the decisions make of full masks and of limits at the top, for n days
pub record AskedFor (ds : List Decision) (n v : ℕ) (ms ls : List ℕ) : Type 0 where
  pub standing : places (take n ms) (take n ls) ≡ decides (places (replicate n (2 ^ v - 1)) (replicate n top)) ds
  pub right : masks_right v (take n ms) ≡ true
  pub masks_long : length ms ≡ most_days
  pub limits_long : length ls ≡ most_days

abbrev pub Asks : Job → ℕ → ℕ → Result Room WrongLine → Type 0
Asks j n v (Ok r) = (ds : List Decision) × (j ≡ days n ds) × AskedFor ds n v r.masks r.limits
Asks j n v (Err k) = j ≡ wrong_line k.0

-- the program that a task is
abbrev pub program : Task → Program
program the-task.Filter = rota
program the-task.Mend = mend

-- a rule set, as it is lent, that passes its checks
abbrev pub RulesRight : RuleSet → Type 0
RulesRight r = rules_right r.size.states r.size.values r.size.start.0 r.targets.now r.costs.now r.accepting ≡ true

-- what the filter and the planner are handed: checked rules, and right masks and limits for n days
pub record Ready (h : Handed) (ms ls : List ℕ) : Type 0 where
  pub sizes : sizes_right h.places h.rules.arcs.states h.rules.arcs.values h.start ≡ true
  pub rules : rules_right h.rules.arcs.states h.rules.arcs.values h.start h.rules.arcs.targets h.rules.arcs.costs h.rules.accepting ≡ true
  pub masks : masks_right h.rules.arcs.values ms ≡ true
  pub masks_long : length ms ≡ h.places
  pub limits_long : length ls ≡ h.places
  pub few : h.places ≤ most_days

-- a text cut at the first line from `from` on that begins with the word `drawn`, which has that number
pub record DrawnAt (s : List ℕ) (from at number : ℕ) : Type 0 where
  pub low : from ≤ at
  pub high : at ≤ length s
  pub before_is : lines (drop from (take at s)) ≡ before_drawn (lines (drop from s))
  pub from_is : lines (drop at s) ≡ from_drawn (lines (drop from s))
  pub counted : number ≡ 2 + length (before_drawn (lines (drop from s)))
  pub bounded : number ≤ length s + 2

-- the last two lines, as the code has them: the drawn roster stands in a slice
abbrev pub wish_view : Result ℕ WrongLine → List ℕ → Wish
wish_view (Ok k) w = wish w k
wish_view (Err k) w = wrong_wish k.0

pub record LastAt (ls : List (List ℕ)) (number : ℕ) (r : Result ℕ WrongLine) : Type 0 where
  pub says : (w : List ℕ) → wish_view r w ≡ read_last w number ls

-- a drawn roster of n days, and the most changes
pub record Wished (n v : ℕ) (ds : List ℕ) (k : ℕ) : Type 0 where
  pub drawn_long : length ds ≡ n
  pub drawn_right : values_right v ds ≡ true
  pub most : k ≤ most_changes
