-- The sizes of what the passes are lent.
use mathlib.Core.Path.{◌≡◌, refl, sym, ap, ◌∙◌}
use mathlib.Core.Bool.{Bool, true, false, false≢true}
use mathlib.Core.List.{List}
use Rattle.std.proofs.Common.{Option, Ok, Err}
use Rattle.std.specs.Result.{is_ok}
use Rattle.std.proofs.lemmas.Result.{IfOk-at_ok}
use Prim.Native.Nat.{ℕ, ◌≤◌, ◌<◌}
use Rattle.meaning.specs.Meaning.{arcs_of}
use native.Mathlib.Omega.{arith}
use native.Mathlib.Decide.{dec_le, ℕ_discrete}
use lib.ListN.{length, take, length-take}
use Rattle.meaning.specs.Bounds.{most_places, most_states, most_values, most_changes, table_size, work_size, plan_size}
use Rattle.rooms.specs.Tables.{Net, frame, Same, Sizes, Fits, Prepared, Prepares}
use Rattle.rooms.specs.Changes.{PlanSizes, Finds, NearRuns}

-- lists of the same lengths have the same sizes
pub sizes_same : {qs vs : ℕ} {t c ms ls work ts cs own caps now : List ℕ} → Sizes qs vs t c ms ls work → length ts ≡ length t → length cs ≡ length c
    → length own ≡ length ms → length caps ≡ length ls → length now ≡ length work → Sizes qs vs ts cs own caps now
sizes_same r a b d e f = record {
  few_states_lem = r.few_states_lem;
  few_values = r.few_values;
  all_targets = a ∙ r.all_targets;
  all_costs = b ∙ r.all_costs;
  some_places = omega (arith, d, r.some_places);
  few_places = omega (arith, d, r.few_places);
  all_limits = e ∙ (r.all_limits ∙ sym d);
  all_work = omega (arith, d, f, r.all_work);
}

pub sizes_right_lem : (qs vs : ℕ) (t c ms ls work : List ℕ) → Dec (Sizes qs vs t c ms ls work)
sizes_right_lem qs vs t c ms ls work =
    go (dec_le qs most_states) (dec_le vs most_values) (ℕ_discrete (length t) table_size) (ℕ_discrete (length c) table_size) (dec_le 1 (length ms)) (dec_le (length ms) most_places)
    (ℕ_discrete (length ls) (length ms)) (ℕ_discrete (length work) (work_size (length ms)))
  where
    go : Dec (qs ≤ most_states) → Dec (vs ≤ most_values) → Dec (length t ≡ table_size) → Dec (length c ≡ table_size) → Dec (1 ≤ length ms) → Dec (length ms ≤ most_places)
        → Dec (length ls ≡ length ms) → Dec (length work ≡ work_size (length ms)) → Dec (Sizes qs vs t c ms ls work)
    go (yes a) (yes b) (yes d) (yes e) (yes f) (yes g) (yes h) (yes k) = yes (record {
      few_states_lem = a;
      few_values = b;
      all_targets = d;
      all_costs = e;
      some_places = f;
      few_places = g;
      all_limits = h;
      all_work = k;
    })
    go (no a) b d e f g h k = no (λ s. a s.few_states_lem)
    go (yes a) (no b) d e f g h k = no (λ s. b s.few_values)
    go (yes a) (yes b) (no d) e f g h k = no (λ s. d s.all_targets)
    go (yes a) (yes b) (yes d) (no e) f g h k = no (λ s. e s.all_costs)
    go (yes a) (yes b) (yes d) (yes e) (no f) g h k = no (λ s. f s.some_places)
    go (yes a) (yes b) (yes d) (yes e) (yes f) (no g) h k = no (λ s. g s.few_places)
    go (yes a) (yes b) (yes d) (yes e) (yes f) (yes g) (no h) k = no (λ s. h s.all_limits)
    go (yes a) (yes b) (yes d) (yes e) (yes f) (yes g) (yes h) (no k) = no (λ s. k s.all_work)

-- a backward pass that stays, and one that is made
pub prepares_not : {qs vs accepting : ℕ} {t c ms ls to fee arcs work : List ℕ} → (Sizes qs vs t c ms ls work → length to ≡ table_size → length fee ≡ table_size → ⊥)
    → Prepares qs vs t c accepting ms ls to fee arcs work to fee arcs work false
prepares_not h = record { right = λ e. absurd (false≢true e); wrong = λ e. (h, refl, refl, refl, refl) }

pub prepares_is : {qs vs accepting : ℕ} {t c ms ls to fee arcs work to' fee' arcs' work' : List ℕ} → Sizes qs vs t c ms ls work → length to ≡ table_size → length fee ≡ table_size
    → Prepared qs vs t c accepting ms ls to fee arcs work to' fee' arcs' work' → Prepares qs vs t c accepting ms ls to fee arcs work to' fee' arcs' work' true
prepares_is s a b p = record { right = λ e. (s, a, b, p); wrong = λ e. absurd (false≢true (sym e)) }

-- the same for the table by changes
pub plan_not : {qs vs k : ℕ} {t c ms ls ds work : List ℕ} → (PlanSizes qs vs t c ms ls ds k work → ⊥)
    → (false ≡ true → PlanSizes qs vs t c ms ls ds k work) × (false ≡ false → PlanSizes qs vs t c ms ls ds k work → ⊥)
plan_not h = (λ e. absurd (false≢true e), λ e. h)

pub plan_fits : {qs vs k : ℕ} {t c ms ls ds work : List ℕ} {found : Bool} → length ds ≡ length ms → k ≤ most_changes → length work ≡ plan_size (length ms)
    → Fits qs vs t c ms ls (take (work_size (length ms)) work) found → (found ≡ true → PlanSizes qs vs t c ms ls ds k work) × (found ≡ false → PlanSizes qs vs t c ms ls ds k work → ⊥)
plan_fits d k w f = (λ e. record { plain = f.right e; all_drawn = d; few_changes = k; all_rows = w }, λ e s. f.wrong e s.plain)

-- tables of the same lengths, and no more changes
pub plan_same : {qs vs k : ℕ} {t c ts cs ms ls ds work : List ℕ} → PlanSizes qs vs t c ms ls ds k work → length ts ≡ length t → length cs ≡ length c → PlanSizes qs vs ts cs ms ls ds k work
plan_same s a b = record { plain = sizes_same s.plain a b refl refl refl; all_drawn = s.all_drawn; few_changes = s.few_changes; all_rows = s.all_rows }

pub plan_fewer : {qs vs k : ℕ} (j : ℕ) {t c ms ls ds work now : List ℕ} → PlanSizes qs vs t c ms ls ds k work → j ≤ k → length now ≡ length work → PlanSizes qs vs t c ms ls ds j now
plan_fewer j s h e =
    record { plain = sizes_same s.plain refl refl refl refl (simp length-take (omega arith)); all_drawn = s.all_drawn; few_changes = omega (arith, s.few_changes); all_rows = e ∙ s.all_rows }

pub plan_right : (qs vs : ℕ) (t c ms ls ds : List ℕ) (k : ℕ) (work : List ℕ) → Dec (PlanSizes qs vs t c ms ls ds k work)
plan_right qs vs t c ms ls ds k work =
    go (sizes_right_lem qs vs t c ms ls (take (work_size (length ms)) work)) (ℕ_discrete (length ds) (length ms)) (dec_le k most_changes) (ℕ_discrete (length work) (plan_size (length ms)))
  where
    go : Dec (Sizes qs vs t c ms ls (take (work_size (length ms)) work)) → Dec (length ds ≡ length ms) → Dec (k ≤ most_changes) → Dec (length work ≡ plan_size (length ms))
        → Dec (PlanSizes qs vs t c ms ls ds k work)
    go (yes a) (yes b) (yes d) (yes e) = yes (record { plain = a; all_drawn = b; few_changes = d; all_rows = e })
    go (no a) b d e = no (λ s. a s.plain)
    go (yes a) (no b) d e = no (λ s. b s.all_drawn)
    go (yes a) (yes b) (no d) e = no (λ s. d s.few_changes)
    go (yes a) (yes b) (yes d) (no e) = no (λ s. e s.all_rows)

pub nears_not : {qs vs accepting start spent k : ℕ} {t c ms ls ds work : List ℕ} → (PlanSizes qs vs t c ms ls ds k work → start < qs → ⊥)
    → NearRuns qs vs t c accepting start spent ms ls ds k work work (Err (record {}))
nears_not h = record { some = λ s l. absurd (h s l); none = λ s l. absurd (h s l); fits = λ s l e. h s l; wrong = λ e. (refl, refl) }

pub nears_is : {qs vs accepting start spent k : ℕ} {t c ms ls ds work work' : List ℕ} {found : Option ℕ} (net : Net) → PlanSizes qs vs t c ms ls ds k work → start < qs
    → Same (arcs_of qs vs t c) vs net → Finds (frame net qs vs accepting) ds ms ls start spent k work work' found
    → NearRuns qs vs t c accepting start spent ms ls ds k work work' (Ok found)
nears_is {found = found} net s l a f = record {
  some = λ h o j e. let y = f.some j (IfOk-at_ok (λ z. found ≡ z) e refl) in (y.0, record { net = net; arcs = a; fewest = y.1 });
  none = λ h o e. record { net = net; arcs = a; fewest = f.none (IfOk-at_ok (λ z. found ≡ z) e refl) };
  fits = λ h o e. false≢true (sym (ap is_ok e));
  wrong = λ h. absurd (h s l);
}
