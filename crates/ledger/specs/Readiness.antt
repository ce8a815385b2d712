-- Whether memory is ready for a call, and what is shown renewed from what is held: what each answers and leaves.
use Rattle.std.specs.Prelude.{◌≡◌, true, ◌&&◌, List, [], ◌∷◌, ◌++◌, ℕ, eqb, length}
use Rattle.meaning.specs.Bounds.{work_size}
use Rattle.rules.specs.Checks.{Handed, sizes_right, tables_long, tables_right, rule_checks}
use Rattle.rules.specs.Answers.{Check, check, decided, work_after, zeros}
use Rattle.ledger.specs.Layout.{memory_size}
use Rattle.ledger.specs.Memory.{held_in, held_right, shown_of, verdict_held, well_formed}

-- the checks 1, 2 and 3 of every session call, with the lengths of the memory and of the work table
abbrev pub lent_checks : Handed → ℕ → ℕ → List Check
lent_checks h m w =
    rule_checks h (eqb m (memory_size h.places) && eqb w (work_size h.places)) []

-- 12: the memory is not well-formed
abbrev pub ready_checks : Handed → List ℕ → List ℕ → List Check
ready_checks h m w = lent_checks h (length m) (length w) ++ (check 12 (well_formed h m) ∷ [])

-- what a test of the memory answers and leaves
pub record Ready : Type 0 where
  pub answer : ℕ
  pub work : List ℕ

abbrev pub readiness : ℕ → List ℕ → Ready
readiness a w = record { answer = a; work = w }

unfoldable pub ready_of : Handed → List ℕ → List ℕ → Ready
ready_of h m w = decided (ready_checks h m w) (λ n. readiness n (work_after n w)) (readiness 0 (zeros w))

-- what a session call answers and leaves
pub record Left : Type 0 where
  pub answer : ℕ
  pub memory : List ℕ
  pub work : List ℕ

abbrev pub left : ℕ → List ℕ → List ℕ → Left
left a m w = record { answer = a; memory = m; work = w }

-- 12: what is held is not in range; what is shown plays no part
abbrev pub renew_checks : Handed → List ℕ → List ℕ → List Check
renew_checks h m w =
    let a = h.rules.arcs in
    lent_checks h (length m) (length w)
    ++ (check 12 (held_right h.places a.states a.values h.start (held_in h.places m)) ∷ [])

-- what is held stays, and what a filter tells of it is shown
unfoldable pub renewed_by : Handed → List ℕ → List ℕ → Left
renewed_by h l w = left (verdict_held h l).answered (shown_of (verdict_held h l) ++ l) (zeros w)

unfoldable pub renewed_of : Handed → List ℕ → List ℕ → Left
renewed_of h m w = decided (renew_checks h m w) (λ n. left n m (work_after n w)) (renewed_by h (held_in h.places m) w)

-- the rule set and the work table pass the checks
pub record Lent (h : Handed) (work : List ℕ) : Type 0 where
  pub sized : sizes_right h.places h.rules.arcs.states h.rules.arcs.values h.start ≡ true
  pub tabled : tables_long h.rules.arcs.targets h.rules.arcs.costs ≡ true
  pub ruled : tables_right h.rules.arcs.states h.rules.arcs.values h.rules.arcs.targets h.rules.arcs.costs h.rules.accepting ≡ true
  pub worked : length work ≡ work_size h.places
