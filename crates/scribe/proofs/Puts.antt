-- Laws of the lines of a rule set put into a buffer one after the other. Assumes nothing.
use mathlib.Core.Path.{◌≡◌, ap, sym, ◌∙◌}
use mathlib.Core.Bool.{true, false}
use mathlib.Core.List.{List, [], ◌∷◌, ◌++◌, append-nil}
use Prim.Native.Nat.{ℕ, ◌+◌, ◌*◌, ◌≤◌, ◌<◌}
use native.Mathlib.Omega.{arith}
use lib.ListN.{length, get_or}
use lib.Seq.{append_snoc}
use borrow.Author.Tests.{lt-ltb, le-ltb}
use Rattle.kinds.specs.Bits.{bit}
use Rattle.meaning.specs.Meaning.{Arcs, Rules}
use Rattle.meaning.specs.Lists.{from, each}
use Rattle.text.specs.Numbers.{decimal}
use Rattle.text.specs.Writing.{most_place, Wrote}
use Rattle.text.proofs.Putting.{wrote_none, wrote_append, wrote_length}
use Rattle.sheet.specs.Lines.{size_of, final, arc, size_text, line_text}
use Rattle.sheet.specs.Sheets.{final_line, arc_line, lines_of, text_of, sheet_text}
use Rattle.scribe.specs.Inner.{listed, state_text, arc_text, row_text}
use Rattle.meaning.proofs.Lists.{each_append, each_each, each_same, each_more}

-- a text with what follows it: the buffer is then as long as before
pub wrote_then : {b c d xs ys : List ℕ} {at p r : ℕ} → length b ≤ most_place → Wrote b at xs c p → (length c ≤ most_place → Wrote c p ys d r) → Wrote b at (xs ++ ys) d r
wrote_then {b} {c} {d} {xs} {ys} {at} {p} {r} fits u w = wrote_append b fits at xs ys c d p r u (w (omega (arith, wrote_length b at xs c p u)))

-- a field of the number n with what follows it
pub wrote_field : {b c d ys : List ℕ} {at p r : ℕ} (n m s : ℕ) → m ≡ n → length b ≤ most_place → Wrote b at (decimal m ++ s ∷ []) c p → (length c ≤ most_place → Wrote c p ys d r) → Wrote b at (decimal n ++ s ∷ ys) d r
wrote_field {ys = ys} n m s e fits u w = rw (append_snoc (decimal n) s ys) at (wrote_then fits (rw e at u) w)

-- texts listed one after the other
module _ (f : ℕ → List ℕ) (b : List ℕ) (at : ℕ) where
  pub listed_start : at ≤ most_place → Wrote b at (listed f 0) b at
  unfolding listed
  listed_start h = wrote_none b at h

  pub listed_turn : (i : ℕ) (c d : List ℕ) (p r : ℕ) → length b ≤ most_place → Wrote b at (listed f i) c p → Wrote c p (f i) d r → Wrote b at (listed f (i + 1)) d r
  unfolding listed
  listed_turn i c d p r fits u w = rw (each_more f i) (wrote_append b fits at (listed f i) (f i) c d p r u w)

  pub listed_all : (n i : ℕ) (c : List ℕ) (p : ℕ) → i ≡ n → Wrote b at (listed f i) c p → Wrote b at (listed f n) c p
  listed_all n i c p e u = rw e at u

-- one line or none
pub wrote_as : {b b2 xs ys : List ℕ} {at r : ℕ} → xs ≡ ys → Wrote b at xs b2 r → Wrote b at ys b2 r
wrote_as e w = rw (← e) w

pub state_some : (m q : ℕ) → bit m q ≡ true → line_text (final q) ≡ state_text m q
unfolding state_text
state_some m q h = rw h (sym (append-nil (line_text (final q))))

pub state_none : (m q : ℕ) → bit m q ≡ false → [] ≡ state_text m q
unfolding state_text
state_none m q h = rw h

-- where an arc stands in both tables
module _ (a : Arcs) (q v i : ℕ) (e : i ≡ q * a.values + v) where
  pub arc_some : get_or a.targets i 0 < a.states → line_text (arc q v (get_or a.targets i 0) (get_or a.costs i 0)) ≡ arc_text a q v
  unfolding arc_text
  arc_some h = rw (← e, lt-ltb (get_or a.targets i 0) a.states h) (sym (append-nil (line_text (arc q v (get_or a.targets i 0) (get_or a.costs i 0)))))

  pub arc_none : a.states ≤ get_or a.targets i 0 → [] ≡ arc_text a q v
  unfolding arc_text
  arc_none h = rw (← e, le-ltb (get_or a.targets i 0) a.states h)

-- the parts of a sheet's text
sheet_parts : (r : Rules) (s : ℕ)
    → size_text (size_of r.arcs.states r.arcs.values s) ++ (listed (state_text r.accepting) r.arcs.states ++ listed (row_text r.arcs) r.arcs.states) ≡ sheet_text r s
unfolding sheet_text text_of lines_of listed row_text state_text arc_text
sheet_parts r s =
    ap (λ (l : List ℕ). size_text (size_of r.arcs.states r.arcs.values s) ++ l)
    (sym (each_append line_text (each (final_line r.accepting) (from 0 r.arcs.states)) _
    ∙ rw (each_each line_text (final_line r.accepting) (from 0 r.arcs.states))
    (ap (λ (l : List ℕ). each (λ q. each line_text (final_line r.accepting q)) (from 0 r.arcs.states) ++ l)
    (each_each line_text (λ q. each (arc_line r.arcs q) (from 0 r.arcs.values)) (from 0 r.arcs.states)
    ∙ each_same _ _ 0 r.arcs.states (λ q a b. each_each line_text (arc_line r.arcs q) (from 0 r.arcs.values))))))

pub wrote_sheet : (r : Rules) (s : ℕ) {b c d e : List ℕ} {p q n : ℕ} → length b ≤ most_place → Wrote b 0 (size_text (size_of r.arcs.states r.arcs.values s)) c p
    → Wrote c p (listed (state_text r.accepting) r.arcs.states) d q → Wrote d q (listed (row_text r.arcs) r.arcs.states) e n → Wrote b 0 (sheet_text r s) e n
wrote_sheet r s fits x y w = wrote_as (sheet_parts r s) (wrote_then fits x (λ h. wrote_then h y (λ _. w)))
