-- What the writer writes, the reader reads as the same rule set, and what the reader reads, the writer writes as the same bytes. Assumes nothing.
use mathlib.Core.Path.{◌≡◌, refl, ap}
use mathlib.Core.Bool.{Bool, true, false}
use mathlib.Core.List.{List, [], ◌∷◌, ◌++◌}
use Prim.Native.Nat.{ℕ, ◌*◌, ◌≤◌}
use native.Mathlib.Omega.{arith}
use lib.Dec.{leb}
use lib.ListN.{length, take, drop}
use lib.Seq.{take_at}
use Rattle.meaning.specs.Meaning.{rules_of}
use Rattle.rules.specs.Checks.{Handed, OneRuleSet, size_right, tables_long, tables_right, rules_right}
use Rattle.rules.specs.Answers.{check, decided}
use Rattle.rules.proofs.Within.{tables_alike, lengths_same}
use Rattle.sheet.specs.Sheets.{sheet_text}
use Rattle.sheet.specs.Reading.{read_left, read_of}
use Rattle.sheet.proofs.OneText.{reads_back, one_text, text_alike}
use Rattle.scribe.specs.Writing.{write_left, write_of}
use Rattle.scribe.proofs.Outcomes.{right_writes}

-- what answer 0 says: the rule set is right, and its text stands at the front of the buffer
pub record Delivered (q v s : ℕ) (t c : List ℕ) (a n : ℕ) (b : List ℕ) : Type 0 where
  pub right : rules_right q v s t c a ≡ true
  pub front : take n b ≡ sheet_text (rules_of q v t c a) s

module _ (q v s : ℕ) (t c : List ℕ) (a : ℕ) (b : List ℕ) where
  abbrev text : List ℕ
  text = sheet_text (rules_of q v t c a) s

  pub written : (n : ℕ) (b2 : List ℕ) → write_of (rules_of q v t c a) s b ≡ write_left 0 n b2 → Delivered q v s t c a n b2
  unfolding write_of decided rules_right
  written n b2 e = go (size_right q v s) refl (tables_long t c) refl (tables_right q v t c a) refl (leb (length text) (length b)) e
    where
      go : (w : Bool) → size_right q v s ≡ w → (x : Bool) → tables_long t c ≡ x → (y : Bool) → tables_right q v t c a ≡ y → (z : Bool)
          → decided (check 1 w ∷ check 2 x ∷ check 3 y ∷ check 6 z ∷ []) (λ n. write_left n 0 b) (write_left 0 (length text) (text ++ drop (length text) b)) ≡ write_left 0 n b2
          → Delivered q v s t c a n b2
      go true h true k true l true e =
          let f : length text ≡ n = ap (λ o. o.length) e in
          let g : text ++ drop (length text) b ≡ b2 = ap (λ o. o.buffer) e in
          record { right = rw (h, k, l); front = rw (← f, ← g) (take_at text (drop (length text) b) (length text) refl) }
      go true h true k true l false e = let u : ◌≡◌ {A = ℕ} 6 0 = ap (λ o. o.answer) e in absurd (omega arith)
      go true h true k false l z e = let u : ◌≡◌ {A = ℕ} 3 0 = ap (λ o. o.answer) e in absurd (omega arith)
      go true h false k y l z e = let u : ◌≡◌ {A = ℕ} 2 0 = ap (λ o. o.answer) e in absurd (omega arith)
      go false h x k y l z e = let u : ◌≡◌ {A = ℕ} 1 0 = ap (λ o. o.answer) e in absurd (omega arith)

  -- THE ROUND TRIP, from any buffer into any full tables
  pub written_reads : (n : ℕ) (b2 xs ys : List ℕ) → write_of (rules_of q v t c a) s b ≡ write_left 0 n b2 → tables_long xs ys ≡ true
      → read_of (take n b2) xs ys ≡ read_left 0 0 q v s a (take (q * v) t ++ drop (q * v) xs) (take (q * v) c ++ drop (q * v) ys)
  written_reads n b2 xs ys e h = let w = written n b2 e in rw w.front (reads_back q v s t c a xs ys w.right h)

  -- AND BACK: bytes that are read are written again, each the same, into any buffer that has room for them
  pub read_writes : (bytes xs ys : List ℕ) (n : ℕ) → read_of bytes xs ys ≡ read_left 0 n q v s a t c → length bytes ≤ length b
      → write_of (rules_of q v t c a) s b ≡ write_left 0 (length bytes) (bytes ++ drop (length bytes) b)
  read_writes bytes xs ys n e h =
      let w = one_text bytes xs ys n q v s a t c e in
      let room : length text ≤ length b = omega (arith, ap length w.is_text) in
      rw w.is_text (right_writes (rules_of q v t c a) s b w.right room)

-- Places from Q × V on play no part: one rule set, handed to the writer in two ways
pub write_alike : (h k : Handed) (b : List ℕ) → OneRuleSet h k → write_of h.rules h.start b ≡ write_of k.rules k.start b
unfolding write_of
write_alike h k b one =
    cc (one.start, one.rules.states, one.rules.values, lengths_same h k one, tables_alike h.rules k.rules one.rules, text_alike h.rules k.rules one.rules h.start)
