-- What a call is handed, and the checks of answers 1 to 4 as tests that compute.
use Rattle.std.specs.Prelude.{◌≡◌, Bool, ◌&&◌, ◌||◌, List, ◌∷◌, ℕ, ◌*◌, ◌^◌, ◌<◌, leb, ltb, eqb, length, get_or}
use Rattle.meaning.specs.Meaning.{Rules, rules_of}
use Rattle.meaning.specs.Lists.{from, all}
use Rattle.meaning.specs.Bounds.{most_places, most_states, most_values, most_cost, no_target, table_size}
use Rattle.rules.specs.Answers.{Check, check}
use Rattle.rules.specs.declared.RuleSet.{RuleSet}

-- what a call on a rule set is handed: n, Q, V, start, the rule tables and the accepting mask
pub record Handed : Type 0 where
  pub places : ℕ
  pub start : ℕ
  pub rules : Rules

abbrev pub handed : ℕ → ℕ → ℕ → ℕ → List ℕ → List ℕ → ℕ → Handed
handed n q v s t c a = record { places = n; start = s; rules = rules_of q v t c a }

-- the same of a rule set as the code is lent it
abbrev pub handed_in : ℕ → RuleSet → Handed
handed_in n r = handed n r.size.states r.size.values r.size.start.0 r.targets.now r.costs.now r.accepting

-- and the rule set that it stands for
abbrev pub rules_in : RuleSet → Rules
rules_in r = rules_of r.size.states r.size.values r.targets.now r.costs.now r.accepting

-- tables alike in their first n places
abbrev pub Alike : ℕ → List ℕ → List ℕ → Type 0
Alike n xs ys = (k : ℕ) → k < n → get_or xs k 0 ≡ get_or ys k 0

-- rules alike in all that plays a part: places from Q × V on play none
pub record RulesAlike (r u : Rules) : Type 0 where
  pub states : r.arcs.states ≡ u.arcs.states
  pub values : r.arcs.values ≡ u.arcs.values
  pub accepting : r.accepting ≡ u.accepting
  pub targets : Alike (r.arcs.states * r.arcs.values) r.arcs.targets u.arcs.targets
  pub costs : Alike (r.arcs.states * r.arcs.values) r.arcs.costs u.arcs.costs

-- one rule set, handed in twice: in tables of the same lengths, as any two full ones are
pub record OneRuleSet (h k : Handed) : Type 0 where
  pub places : h.places ≡ k.places
  pub start : h.start ≡ k.start
  pub rules : RulesAlike h.rules k.rules
  pub targets_long : length h.rules.arcs.targets ≡ length k.rules.arcs.targets
  pub costs_long : length h.rules.arcs.costs ≡ length k.rules.arcs.costs

-- answer 1: n, Q, V outside its range, or start not below Q
unfoldable pub size_right : ℕ → ℕ → ℕ → Bool
size_right q v s = leb 1 q && (leb q most_states && (leb 1 v && (leb v most_values && ltb s q)))

unfoldable pub sizes_right : ℕ → ℕ → ℕ → ℕ → Bool
sizes_right n q v s = leb 1 n && (leb n most_places && size_right q v s)

-- answer 2: each call has further slices, and tests their lengths beside these
unfoldable pub tables_long : List ℕ → List ℕ → Bool
tables_long t c = eqb (length t) table_size && eqb (length c) table_size

-- answer 3: target neither 255 nor below Q, cost over 1,000, cost at a missing arc, accepting bit at or above Q;
-- places from Q × V on play no part
unfoldable pub arc_right : ℕ → ℕ → ℕ → Bool
arc_right q t c = (eqb t no_target && eqb c 0) || (ltb t q && leb c most_cost)

-- from place k on, m places
unfoldable pub tables_from : ℕ → List ℕ → List ℕ → ℕ → ℕ → ℕ → Bool
tables_from q t c a k m = all (λ k. arc_right q (get_or t k 0) (get_or c k 0)) (from k m) && ltb a (2 ^ q)

unfoldable pub tables_right : ℕ → ℕ → List ℕ → List ℕ → ℕ → Bool
tables_right q v t c a = tables_from q t c a 0 (q * v)

-- a rule set passes the checks of 1, 2 and 3
unfoldable pub rules_right : ℕ → ℕ → ℕ → List ℕ → List ℕ → ℕ → Bool
rules_right q v s t c a = size_right q v s && (tables_long t c && tables_right q v t c a)

-- answer 4: a choice mask has a bit at or above V
unfoldable pub masks_right : ℕ → List ℕ → Bool
masks_right v ms = all (λ m. ltb m (2 ^ v)) ms

-- the checks 1, 2 and 3 of a call that is lent a rule set, where `long` says whether the slices beside the tables have their lengths; then its others
abbrev pub rule_checks : Handed → Bool → List Check → List Check
rule_checks h long others =
    let a = h.rules.arcs in
    check 1 (sizes_right h.places a.states a.values h.start)
    ∷ check 2 (tables_long a.targets a.costs && long)
    ∷ check 3 (tables_right a.states a.values a.targets a.costs h.rules.accepting)
    ∷ others
