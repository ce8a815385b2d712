-- The replay of the entries upon lent masks and limits, one law for each step of the code. Assumes nothing.
use mathlib.Core.Path.{◌≡◌, refl, sym, ap, ◌∙◌}
use mathlib.Core.Bool.{true, ◌&&◌}
use mathlib.Core.List.{List, [], ◌∷◌, ◌++◌, append-nil}
use Prim.Native.Nat.{ℕ, ◌+◌, ◌^◌, ◌-◌, ◌<◌, min}
use native.Mathlib.Omega.{arith}
use native.Mathlib.Numerals.{add-one}
use Rattle.kinds.specs.Bits.{width, bit, mask_of}
use Rattle.kinds.proofs.Bits.{meet_mask}
use lib.ListN.{length, get_or, set, take, drop, length-drop}
use borrow.Author.Tests.{eq-eqb, ne_eqb}
use Rattle.meaning.specs.Meaning.{Place, places, decides}
use Rattle.meaning.proofs.Decisions.{decides_append, keep_stored, limit_stored}
use Rattle.ledger.specs.Sessions.{Entry, Opening, opening, decision, mark, standing, places_by}
use Rattle.ledger.specs.Layout.{keep_kind, limit_kind, rows_size, head_size, opening_place, shown_size}
use Rattle.ledger.specs.Memory.{all_below, count_of, rows_of, entry_of, entry_at, entries_at, entries_of, opening_at, opening_of, held_in}
use Rattle.ledger.proofs.Numbers.{tail_is, part_long}
use Rattle.machine.specs.Inner.{RowsSafe, Replayable}

module _ (k p x : ℕ) (ms ls : List ℕ) where
  pub apply_keep : k ≡ keep_kind → get_or ms p 0 < 2 ^ width → x < 2 ^ width → (y : ℕ) → y ≡ mask_of (λ u. bit (get_or ms p 0) u && bit x u) width
      → places (set ms p y) ls ≡ decides (places ms ls) (standing (entry_of k p x ∷ []))
  unfolding entry_of standing decides
  apply_keep e a b y f = rw (eq-eqb k keep_kind e, f, ← meet_mask width (get_or ms p 0) x a b) (sym (keep_stored ms ls p x))

  pub apply_limit : (k ≡ keep_kind → ⊥) → k ≡ limit_kind → (y : ℕ) → y ≡ min (get_or ls p 0) x
      → places ms (set ls p y) ≡ decides (places ms ls) (standing (entry_of k p x ∷ []))
  unfolding entry_of standing decides
  apply_limit d e y f = rw (ne_eqb k keep_kind d, eq-eqb k limit_kind e, f) (sym (limit_stored ms ls p x))

  pub apply_mark : (k ≡ keep_kind → ⊥) → (k ≡ limit_kind → ⊥) → places ms ls ≡ decides (places ms ls) (standing (entry_of k p x ∷ []))
  unfolding entry_of standing decides
  apply_mark d e = rw (ne_eqb k keep_kind d, ne_eqb k limit_kind e)

-- the newest entry is applied last
pub standing_more : (e : Entry) (es : List Entry) → standing (e ∷ es) ≡ standing es ++ standing (e ∷ [])
unfolding standing
standing_more (decision d) es = refl
standing_more mark es = sym (append-nil (standing es))

module _ (s : List ℕ) (o : List Place) where
  pub replay_none : o ≡ decides o (standing (entries_at 0 s))
  unfolding decides standing entries_at
  replay_none = refl

  pub replay_more : (i : ℕ) (a b : List Place) → a ≡ decides o (standing (entries_at i s)) → b ≡ decides a (standing (entry_at s i ∷ []))
      → b ≡ decides o (standing (entries_at (i + 1) s))
  unfolding entries_at
  replay_more i a b e f =
      f ∙ ap (λ (ps : List Place). decides ps (standing (entry_at s i ∷ []))) e
      ∙ sym (decides_append o (standing (entries_at i s)) (standing (entry_at s i ∷ [])))
      ∙ ap (decides o) (sym (standing_more (entry_at s i) (entries_at i s)) ∙ ap (λ (j : ℕ). standing (entries_at j s)) (sym (add-one i)))

module _ (n : ℕ) (m : List ℕ) (r : Replayable n (held_in n m)) where
  abbrev part : List ℕ
  part = take (length m - shown_size n) (held_in n m)

  pub part_ready : Replayable n part
  part_ready = rw (tail_is (shown_size n) m) r

  pub opening_long : length (take (length part - opening_place) (drop opening_place part)) ≡ n + n
  opening_long = ap length (tail_is opening_place part) ∙ simp length-drop (let k = part_ready.long in omega arith)

  pub opening_below : all_below 65536 (take n (take (length part - opening_place) (drop opening_place part))) ≡ true
  opening_below = rw (tail_is opening_place part) part_ready.narrow

  pub rows_long : length (take rows_size (drop head_size part)) ≡ rows_size
  rows_long = part_long rows_size head_size part (let k = part_ready.long in omega arith)

  pub rows_ready : (a b : ℕ) → a ≡ n → b ≡ n → RowsSafe (get_or part 4 0 + get_or part 5 0) (take rows_size (drop head_size part)) a b
  rows_ready a b e f = rw (e, f) part_ready.rows

  pub come : (ms₀ ls₀ : List ℕ) (ps : List Place) → opening ms₀ ls₀ ≡ opening_at n (take (length part - opening_place) (drop opening_place part))
      → ps ≡ decides (places ms₀ ls₀) (standing (entries_at (get_or part 4 0 + get_or part 5 0) (take rows_size (drop head_size part))))
      → ps ≡ places_by (opening_of n (held_in n m)) (standing (entries_of (held_in n m)))
  unfolding places_by opening_of entries_of count_of rows_of
  come ms₀ ls₀ ps e f =
      f ∙ ap (λ (o : Opening). places_by o (standing (entries_of part))) (e ∙ ap (opening_at n) (tail_is opening_place part))
      ∙ ap (λ (l : List ℕ). places_by (opening_of n l) (standing (entries_of l))) (tail_is (shown_size n) m)
