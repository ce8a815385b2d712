-- Laws of the lines of a sheet as they are taken one by one into the mask and the tables. Assumes nothing.
use mathlib.Core.Path.{◌≡◌, refl, ap, ap₂, sym, ◌∙◌, subst}
use mathlib.Core.Bool.{Bool, false, ◌||◌, or-false}
use mathlib.Core.List.{List, [], ◌∷◌, ◌++◌, append-nil}
use Prim.Native.Nat.{ℕ, suc, ◌+◌, ◌-◌, ◌*◌, ◌%◌, ◌^◌, ◌≤◌, ◌<◌}
use native.Mathlib.Numerals.{add-one}
use native.Mathlib.Omega.{arith}
use lib.Bits.{bit_or}
use lib.Dec.{eqb}
use lib.ListN.{length, take, drop, set, drop_of_length-le}
use lib.Seq.{append_snoc, set_out}
use Rattle.std.specs.Prelude.{Result, Ok, Err}
use Rattle.kinds.specs.Bits.{bit, mask_of}
use Rattle.kinds.proofs.Bits.{bit_mask, mask_is, mask_same, put_mask}
use Rattle.meaning.specs.Lists.{any}
use Rattle.meaning.specs.Bounds.{most_states}
use Rattle.rules.proofs.Checks.{never}
use Rattle.rules.specs.declared.Size.{Size}
use Rattle.kinds.specs.declared.State.{State}
use Rattle.kinds.specs.declared.Value.{Value}
use Rattle.rules.specs.declared.Outline.{Outline}
use Rattle.text.specs.Lines.{Judged, lines, LineAt}
use Rattle.sheet.specs.Lines.{Line, final, arc, place, read_size, read_line}
use Rattle.sheet.specs.Sheets.{Sheet, sheet, wrong_at, with_line, read_rest, read_lines, read_sheet, names, accepting_of, puts, the_target, the_cost}
use Rattle.sheet.specs.Inner.{Sized, row_view, line_of, RowIn, Put, Took}
use Rattle.text.specs.declared.lines.Fault.{Fault}
use Rattle.text.specs.declared.lines.Fault.TheVariants.{Form}
use Rattle.sheet.specs.declared.lines.Row.{Row}
use Rattle.sheet.specs.declared.lines.Row.TheVariants.{Final, Arc}
use Rattle.sheet.specs.declared.Unread.{Unread}
use Rattle.sheet.specs.declared.Unread.TheVariants.{WrongLine}
use Rattle.sheet.proofs.Texts.{Lined, line_read, size_read}
use Rattle.meaning.proofs.Lists.{any_append}

-- a row put into the mask and the tables
pub final_in_lem : (z : Size) (r : Row) (q : State) → RowIn z r → r ≡ Final q → q.0 < z.states
final_in_lem z r q g e = subst (λ (x : Row). RowIn z x) e g

mask_kept : (m : ℕ) → m < 2 ^ most_states → m ≡ mask_of (λ u. bit m u || false) most_states
mask_kept m h = mask_is (λ u. bit m u || false) most_states m h (λ u l. sym (or-false (bit m u)))

module _ (v m : ℕ) (t c : List ℕ) (r : Row) (h : m < 2 ^ most_states) where
  pub put_final : (q : State) → r ≡ Final q → q.0 < most_states → Put v (line_of r ∷ []) m t c (bit_or m ((1 * 2 ^ q.0) % 2 ^ most_states)) t c
  unfolding puts
  put_final q e l =
      rw e (record {
        mask = put_mask most_states m q.0 h l ∙ mask_same _ _ most_states (λ u k. ap (λ (b : Bool). bit m u || b) (sym (or-false (eqb u q.0))));
        targets = refl;
        costs = refl;
      })

  pub put_arc : (q : State) (w : Value) (x : State) (y i : ℕ) → r ≡ Arc q w x y → i ≡ q.0 * v + w.0 → Put v (line_of r ∷ []) m t c m (set t i x.0) (set c i y)
  unfolding puts
  put_arc q w x y i e p = rw (e, p) (record { mask = mask_kept m h; targets = refl; costs = refl })

  pub put_out : (q : State) (w : Value) (x : State) (y : ℕ) → r ≡ Arc q w x y → length t ≡ length c → length t ≤ q.0 * v + w.0
      → Put v (line_of r ∷ []) m t c m t c
  unfolding puts
  put_out q w x y e k l =
      rw e (record { mask = mask_kept m h; targets = sym (set_out t (q.0 * v + w.0) x.0 l); costs = sym (set_out c (q.0 * v + w.0) y (omega arith)) })

-- a row that was read is in range
pub row_in : (z : Size) (next : ℕ) (s : List ℕ) (x : Judged Row) (r : Row) → Sized z → row_view x ≡ read_line z next s → x ≡ Ok r → RowIn z r
row_in z next s x (Final q) g e k = (line_read z next s (final q.0) g.some_states g.some_values (sym e ∙ ap row_view k)).good
row_in z next s x (Arc q v t c) g e k =
    let w : Lined z next s (arc q.0 v.0 t.0 c) = line_read z next s (arc q.0 v.0 t.0 c) g.some_states g.some_values (sym e ∙ ap row_view k) in
    (w.good.0, w.good.1)

-- what taking a sheet leaves
took_right : (x : Sheet) (t₀ c₀ : List ℕ) (z : Size) (ls : List Line) (m : ℕ) (t c : List ℕ) → x ≡ sheet z ls → m ≡ accepting_of ls
    → t ≡ puts z.values the_target ls t₀ → c ≡ puts z.values the_cost ls c₀ → Took x t₀ c₀ (Ok (record { size = z; accepting = m })) t c
took_right x t₀ c₀ z ls m t c e k h g =
    record {
      gives = rw (e, k);
      targets = λ y ms f. let p : z ≡ y = cc in let q : ls ≡ ms = cc in rw (← p, ← q) h;
      costs = λ y ms f. let p : z ≡ y = cc in let q : ls ≡ ms = cc in rw (← p, ← q) g;
    }

pub took_wrong : (x : Sheet) (t₀ c₀ : List ℕ) (n : ℕ) (f : Fault) (t c : List ℕ) → x ≡ wrong_at n f → Took x t₀ c₀ (Err (WrongLine n f)) t c
took_wrong x t₀ c₀ n f t c e = record { gives = rw e; targets = λ y ms f. never cc; costs = λ y ms f. never cc }

-- the loop: the lines that are done, and what is left
abbrev with_lines : List Line → Sheet → Sheet
with_lines ds (sheet z ls) = sheet z (ds ++ ls)
with_lines ds (wrong_at n f) = wrong_at n f

with_none : (x : Sheet) → x ≡ with_lines [] x
with_none (sheet z ls) = refl
with_none (wrong_at n f) = refl

with_more : (ds : List Line) (a : Line) (x : Sheet) → with_lines ds (with_line a x) ≡ with_lines (ds ++ a ∷ []) x
with_more ds a (sheet z ls) = ap (sheet z) (sym (append_snoc ds a ls))
with_more ds a (wrong_at n f) = refl

puts_append : (v : ℕ) (f : ℕ → ℕ → ℕ) (ds ls : List Line) (t : List ℕ) → puts v f (ds ++ ls) t ≡ puts v f ls (puts v f ds t)
unfolding puts
puts_append v f [] ls t = refl
puts_append v f (final q ∷ ds) ls t = puts_append v f ds ls t
puts_append v f (arc q u x c ∷ ds) ls t = puts_append v f ds ls (set t (q * v + u) (f x c))

mask_more : (ds : List Line) (a : Line) → mask_of (λ q. bit (accepting_of ds) q || any (names q) (a ∷ [])) most_states ≡ accepting_of (ds ++ a ∷ [])
unfolding accepting_of
mask_more ds a =
    mask_same _ _ most_states
    (λ u l. ap (λ (b : Bool). b || any (names u) (a ∷ [])) (bit_mask (λ q. any (names q) ds) most_states u l) ∙ sym (any_append (names u) ds (a ∷ [])))

pub record Taking (z : Size) (s : List ℕ) (from : ℕ) (t₀ c₀ : List ℕ) (at next n m : ℕ) (t c : List ℕ) : Type 0 where
  pub high : at ≤ length s
  pub count : n ≤ at + 2
  pub same_targets : length t ≡ length t₀
  pub same_costs : length c ≡ length c₀
  pub ds : List Line
  pub whole : read_rest z 0 2 (lines (drop from s)) ≡ with_lines ds (read_rest z next n (lines (drop at s)))
  pub mask : m ≡ accepting_of ds
  pub targets : t ≡ puts z.values the_target ds t₀
  pub costs : c ≡ puts z.values the_cost ds c₀

pub taking_start : (z : Size) (s : List ℕ) (from : ℕ) (t c : List ℕ) → from ≤ length s → Taking z s from t c from 0 2 0 t c
unfolding puts accepting_of mask_of
taking_start z s from t c h =
    record {
      high = h;
      count = omega arith;
      same_targets = refl;
      same_costs = refl;
      ds = [];
      whole = with_none _;
      mask = refl;
      targets = refl;
      costs = refl;
    }

rest_right : (z : Size) (next n : ℕ) (l : List ℕ) (ls : List (List ℕ)) (a : Line) → read_line z next l ≡ Ok a
    → read_rest z next n (l ∷ ls) ≡ with_line a (read_rest z (suc (place z a)) (suc n) ls)
unfolding read_rest
rest_right z next n l ls a e = rw e

rest_wrong : (z : Size) (next n : ℕ) (l : List ℕ) (ls : List (List ℕ)) (f : Fault) → read_line z next l ≡ Err f → read_rest z next n (l ∷ ls) ≡ wrong_at n f
unfolding read_rest
rest_wrong z next n l ls f e = rw e

module _ (z : Size) (s : List ℕ) (from : ℕ) (t₀ c₀ : List ℕ) (at next n m : ℕ) (t c : List ℕ) (i : Taking z s from t₀ c₀ at next n m t c) where
  pub taking_more : (end : ℕ) (x : Judged Row) (r : Row) (n1 m1 : ℕ) (t1 c1 : List ℕ) → LineAt s at end → row_view x ≡ read_line z next (take (end - at) (drop at s)) → x ≡ Ok r
      → Put z.values (line_of r ∷ []) m t c m1 t1 c1 → n1 ≡ place z (line_of r) + 1 → length t1 ≡ length t → length c1 ≡ length c
      → Taking z s from t₀ c₀ end n1 (n + 1) m1 t1 c1
  taking_more end v r n1 m1 t1 c1 l e k q h a b =
      let x : Line = line_of r in
      let y : read_line z next (take (end - at) (drop at s)) ≡ Ok x = sym e ∙ ap row_view k in
      let low : at < end = l.low in
      let few : n ≤ at + 2 = i.count in
      record {
        high = l.high;
        count = omega arith;
        same_targets = a ∙ i.same_targets;
        same_costs = b ∙ i.same_costs;
        ds = i.ds ++ x ∷ [];
        whole =
            i.whole
            ∙ ap (λ (ls : List (List ℕ)). with_lines i.ds (read_rest z next n ls)) l.cuts
            ∙ ap (with_lines i.ds) (rest_right z next n (take (end - at) (drop at s)) (lines (drop end s)) x y)
            ∙ with_more i.ds x (read_rest z (suc (place z x)) (suc n) (lines (drop end s)))
            ∙ ap₂ (λ (j k : ℕ). with_lines (i.ds ++ x ∷ []) (read_rest z j k (lines (drop end s)))) (sym (h ∙ add-one (place z x))) (sym (add-one n));
        mask = q.mask ∙ ap (λ (w : ℕ). mask_of (λ u. bit w u || any (names u) (x ∷ [])) most_states) i.mask ∙ mask_more i.ds x;
        targets = q.targets ∙ ap (puts z.values the_target (x ∷ [])) i.targets ∙ sym (puts_append z.values the_target i.ds (x ∷ []) t₀);
        costs = q.costs ∙ ap (puts z.values the_cost (x ∷ [])) i.costs ∙ sym (puts_append z.values the_cost i.ds (x ∷ []) c₀);
      }

  pub taking_wrong : (end : ℕ) (x : Judged Row) (f : Fault) → LineAt s at end → row_view x ≡ read_line z next (take (end - at) (drop at s)) → x ≡ Err f
      → Took (read_rest z 0 2 (lines (drop from s))) t₀ c₀ (Err (WrongLine n f)) t c
  taking_wrong end x f l e k =
      let y : read_line z next (take (end - at) (drop at s)) ≡ Err f = sym e ∙ ap row_view k in
      took_wrong _ t₀ c₀ n f t c
      (i.whole
      ∙ ap (λ (ls : List (List ℕ)). with_lines i.ds (read_rest z next n ls)) l.cuts
      ∙ ap (with_lines i.ds) (rest_wrong z next n (take (end - at) (drop at s)) (lines (drop end s)) f y))

  pub taking_end : length s ≤ at → Took (read_rest z 0 2 (lines (drop from s))) t₀ c₀ (Ok (record { size = z; accepting = m })) t c
  unfolding read_rest lines
  taking_end h =
      took_right _ t₀ c₀ z i.ds m t c
      (rw (drop_of_length-le s h, append-nil i.ds) at i.whole) i.mask i.targets i.costs

-- the first line
pub sheet_empty : (s : List ℕ) → length s ≡ 0 → read_sheet s ≡ wrong_at 1 Form
unfolding read_sheet read_lines lines
sheet_empty [] h = refl
sheet_empty (b ∷ s) h = absurd (omega arith)

module _ (s : List ℕ) (end : ℕ) (l : LineAt s 0 end) (g : Judged Size) (h : g ≡ read_size (take end s)) where
  sheet_lines : read_sheet s ≡ read_lines (take end s ∷ lines (drop end s))
  unfolding read_sheet
  sheet_lines = let z : end - 0 ≡ end = omega arith in rw z at (ap read_lines l.cuts)

  pub took_top : (z : Size) → g ≡ Ok z → (t₀ c₀ : List ℕ) (r : Result Outline Unread) (t c : List ℕ) → Took (read_rest z 0 2 (lines (drop end s))) t₀ c₀ r t c → Took (read_sheet s) t₀ c₀ r t c
  unfolding read_lines
  took_top z k t₀ c₀ r t c w =
      let y : read_size (take end s) ≡ Ok z = sym h ∙ k in
      let e : read_sheet s ≡ read_rest z 0 2 (lines (drop end s)) = sheet_lines ∙ rw y in
      rw e w

  pub top_wrong : (f : Fault) → g ≡ Err f → read_sheet s ≡ wrong_at 1 f
  unfolding read_lines
  top_wrong f k = let y : read_size (take end s) ≡ Err f = sym h ∙ k in sheet_lines ∙ rw y

  pub top_sized : (z : Size) → g ≡ Ok z → Sized z
  top_sized z k = (size_read (take end s) z (sym h ∙ k)).1
