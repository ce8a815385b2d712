-- Laws of what reading a pattern answers. Assumes nothing.
use mathlib.Core.Path.{◌≡◌, ap, ap₂, ◌∙◌}
use mathlib.Core.Bool.{true, false}
use mathlib.Core.List.{List}
use Prim.Native.Nat.{ℕ, ◌*◌, ◌≤◌, ◌<◌}
use native.Mathlib.Omega.{arith}
use lib.ListN.{length, take, replicate, length-take}
use lib.Seq.{take_all}
use borrow.Author.Tests.{le-leb, lt-leb}
use Rattle.meaning.specs.Bounds.{most_states}
use Rattle.std.specs.Prelude.{Err}
use Rattle.rules.specs.Answers.{decided}
use Rattle.rules.specs.Checks.{tables_long}
use Rattle.rules.specs.declared.Answer.TheVariants.{WrongSize, WrongLength, ManyStates, WrongPattern}
use Rattle.patterns.specs.Pattern.{Pattern}
use Rattle.patterns.specs.Places.{onward, ends}
use Rattle.patterns.specs.Line.{lawful, unlawful, read_line}
use Rattle.numbering.specs.Numbering.{met, targets_of, accepting_of, over}
use Rattle.patterns.specs.Outcome.{pattern_left, states_of, count_right, pattern_of}
use Rattle.compositor.specs.Inner.{onward_by, onward_in, ends_by, list_size, LineAt}
use Rattle.compositor.specs.Leaving.{left_by}
use Rattle.compositor.specs.declared.states.Automaton.{Automaton}
use Rattle.compositor.proofs.Tables as tables

module _ (s : List ℕ) (vs : ℕ) (t c : List ℕ) where
  pub left_count : count_right vs ≡ false → left_by (Err WrongSize) t c ≡ pattern_of s vs t c
  unfolding pattern_of decided
  left_count h = rw h

  module _ (h : count_right vs ≡ true) where
    pub left_short : tables_long t c ≡ false → left_by (Err WrongLength) t c ≡ pattern_of s vs t c
    unfolding pattern_of decided
    left_short k = rw (h, k)

    module _ (k : tables_long t c ≡ true) where
      pub left_wrong : read_line vs s ≡ unlawful → left_by (Err WrongPattern) t c ≡ pattern_of s vs t c
      unfolding pattern_of decided
      left_wrong l = rw (h, k, l)

      many : (p : Pattern) → read_line vs s ≡ lawful p → most_states < length (states_of vs p) → left_by (Err ManyStates) t c ≡ pattern_of s vs t c
      unfolding pattern_of decided
      many p l n = rw (h, k, l, lt-leb (length (states_of vs p)) most_states n)

      done : (p : Pattern) (n m : ℕ) (t2 c2 : List ℕ) → read_line vs s ≡ lawful p → length (states_of vs p) ≤ most_states → n ≡ length (states_of vs p)
          → m ≡ accepting_of (ends p) (states_of vs p) → t2 ≡ over (targets_of (onward p) vs (states_of vs p)) t → c2 ≡ over (replicate (n * vs) 0) c
          → pattern_left 0 n vs 0 m t2 c2 ≡ pattern_of s vs t c
      unfolding pattern_of decided
      done p n m t2 c2 l f a b d e = rw (h, k, l, le-leb (length (states_of vs p)) most_states f, b, d, e, a)

      module _ (a : Automaton) (l : LineAt vs s a) where
        next_same : onward_in a ≡ onward l.pattern
        next_same = ap₂ (λ (f : ℕ) (fs : List ℕ). onward_by f fs a.marks) l.firsts l.table ∙ tables.next_is l.pattern l.few a.marks l.places

        ends_same : ends_by a.null a.last ≡ ends l.pattern
        unfolding ends_by ends
        ends_same = ap₂ ends_by l.nulls l.lasts

        -- the configurations, as far as the list has room for them
        module _ (cs : List ℕ) (e : cs ≡ take list_size (met (onward_in a) vs 0 most_states)) where
          list_is : cs ≡ take list_size (states_of vs l.pattern)
          unfolding states_of
          list_is = e ∙ ap (λ (next : ℕ → ℕ → ℕ). take list_size (met next vs 0 most_states)) next_same

          pub left_many : most_states < length cs → left_by (Err ManyStates) t c ≡ pattern_of s vs t c
          left_many g =
              let a = ap length list_is in
              let b = length-take list_size (states_of vs l.pattern) in
              many l.pattern l.read (omega arith)

          states_is : length cs ≤ most_states → cs ≡ states_of vs l.pattern
          states_is g =
              let a = ap length list_is in
              let b = length-take list_size (states_of vs l.pattern) in
              list_is ∙ take_all list_size (states_of vs l.pattern) (omega arith)

          pub left_done : (n m : ℕ) (t2 c2 : List ℕ) → n ≡ length cs → length cs ≤ most_states → m ≡ accepting_of (ends_by a.null a.last) cs
              → t2 ≡ over (targets_of (onward_in a) vs cs) t → c2 ≡ over (replicate (n * vs) 0) c → pattern_left 0 n vs 0 m t2 c2 ≡ pattern_of s vs t c
          left_done n m t2 c2 h g b d f =
              let e = states_is g in
              let k = ap length e in
              done l.pattern n m t2 c2 l.read (omega arith) (h ∙ k) (b ∙ ap₂ accepting_of ends_same e)
              (d ∙ ap₂ (λ (next : ℕ → ℕ → ℕ) (xs : List ℕ). over (targets_of next vs xs) t) next_same e) f
