-- Laws of what writing a sheet answers. Assumes nothing.
use mathlib.Core.Path.{◌≡◌, ap, sym, ◌∙◌}
use mathlib.Core.Bool.{Bool, true, false}
use mathlib.Core.List.{List, [], ◌∷◌, ◌++◌}
use Prim.Native.Nat.{ℕ, ◌+◌, ◌≤◌, ◌<◌}
use native.Mathlib.Omega.{arith}
use native.Mathlib.Decide.{dec_le}
use lib.Dec.{leb}
use lib.ListN.{length, drop}
use lib.Seq.{sets-eq}
use borrow.Author.Tests.{le-leb, lt-leb}
use Rattle.meaning.specs.Meaning.{Rules}
use Rattle.rules.specs.Checks.{size_right, tables_long, rules_right}
use Rattle.rules.specs.Answers.{check, decided}
use Rattle.rules.proofs.Checks.{both, rules_tables, size_of_lem, long_tables}
use Rattle.rules.specs.declared.RuleSet.{RuleSet}
use Rattle.text.specs.Writing.{most_place, Wrote}
use Rattle.sheet.specs.Sheets.{sheet_text}
use Rattle.scribe.specs.Writing.{write_left, write_of}
use Rattle.scribe.specs.Inner.{Writable}

abbrev sized : Rules → ℕ → Bool
sized r s = size_right r.arcs.states r.arcs.values s

abbrev long : Rules → Bool
long r = tables_long r.arcs.targets r.arcs.costs

abbrev right : Rules → ℕ → Bool
right r s = rules_right r.arcs.states r.arcs.values s r.arcs.targets r.arcs.costs r.accepting

module _ (r : Rules) (s : ℕ) (b : List ℕ) where
  pub left_size : sized r s ≡ false → write_left 1 0 b ≡ write_of r s b
  unfolding write_of decided
  left_size h = rw h

  pub left_short : sized r s ≡ true → long r ≡ false → write_left 2 0 b ≡ write_of r s b
  unfolding write_of decided
  left_short h k = rw (h, k)

  pub left_tables : sized r s ≡ true → long r ≡ true → right r s ≡ false → write_left 3 0 b ≡ write_of r s b
  unfolding write_of decided
  left_tables h k l = rw (h, k, sym (rules_tables r.arcs.states r.arcs.values s r.arcs.targets r.arcs.costs r.accepting h k) ∙ l)

  module _ (h : right r s ≡ true) where
    abbrev text : List ℕ
    text = sheet_text r s

    -- the buffer's length alone is left to decide
    passed : decided (check 6 (leb (length text) (length b)) ∷ []) (λ n. write_left n 0 b) (write_left 0 (length text) (text ++ drop (length text) b)) ≡ write_of r s b
    unfolding write_of decided rules_right
    passed = let p = both (sized r s) _ h in let q = both (long r) _ p.1 in rw (p.0, q.0, q.1)

    pub right_writes : length text ≤ length b → write_of r s b ≡ write_left 0 (length text) (text ++ drop (length text) b)
    unfolding decided
    right_writes l = rw (← passed, le-leb (length text) (length b) l)

    pub right_room : (write_of r s b).answer ≡ 0 → length text ≤ length b
    unfolding decided
    right_room e = go (dec_le (length text) (length b))
      where
        go : Dec (length text ≤ length b) → length text ≤ length b
        go (yes l) = l
        go (no l) = let k : ◌≡◌ {A = ℕ} 6 0 = rw (← passed, lt-leb (length text) (length b) (omega arith)) at e in absurd (omega arith)

    pub left_buffer : {b1 b2 c : List ℕ} {n : ℕ} → Wrote b1 0 text c n → b2 ≡ b → length b2 < n → write_left 6 0 b2 ≡ write_of r s b
    unfolding decided
    left_buffer u k l = rw (← passed, k, lt-leb (length text) (length b) (omega (arith, ap length k, u.ends)))

    pub left_done : {b1 b2 b3 c : List ℕ} {n m : ℕ} → length b < most_place → Wrote b1 0 text c n → b2 ≡ b → n ≤ length b2 → Wrote b2 0 text b3 m
        → write_left 0 n b3 ≡ write_of r s b
    unfolding decided
    left_done {b2 = b2} {b3 = b3} {n = n} f u k l w =
        let j : length b2 ≡ length b = ap length k in
        let e : n ≡ length text = omega (arith, u.ends) in
        let z : 0 + length text ≡ length text = omega arith in
        let p : b3 ≡ text ++ drop (length text) b = w.bytes ∙ rw k (sets-eq text b 0 (omega arith) ∙ ap (λ (i : ℕ). text ++ drop i b) z) in
        rw (← passed, le-leb (length text) (length b) (omega arith), e, p)

-- a rule set of whose sizes and tables the checks have been made
pub writable : (r : RuleSet) → size_right r.size.states r.size.values r.size.start.0 ≡ true → tables_long r.targets.now r.costs.now ≡ true → Writable r
writable r h k =
    let z = size_of_lem r.size.states r.size.values r.size.start.0 h in
    let l = long_tables r.targets.now r.costs.now k in
    record { few_states_lem = z.few_states_lem; few_values = z.few_values; targets_long = l.0; costs_long = l.1 }
