-- Laws of lines and sheets: the text of a sheet reads back as the sheet, what reads as a sheet is its text, and the first lines of
-- a right sheet are a right sheet. Assumes nothing.
use mathlib.Core.Path.{◌≡◌, refl, ap, sym, ◌∙◌}
use mathlib.Core.Bool.{Bool, true, false}
use mathlib.Core.List.{List, [], ◌∷◌, ◌++◌}
use Prim.Native.Nat.{ℕ, suc, ◌-◌, ◌≤◌, ◌<◌}
use native.Mathlib.Omega.{arith}
use lib.Dec.{leb, eqb}
use borrow.Author.Tests.{le-leb, leb-true}
use Rattle.text.proofs.Judging.{strip_word_lem, strip_read, on_field_right, close_right, on_strip_right}
use Rattle.text.proofs.Cutting.{OneLine, stop, more, lines_one}
use Rattle.std.specs.Prelude.{Ok, Err}
use Rattle.meaning.specs.Lists.{each}
use Rattle.meaning.specs.Bounds.{most_states, most_values, most_cost}
use Rattle.rules.proofs.Checks.{never}
use Rattle.rules.specs.declared.Size.{Size}
use Rattle.text.specs.Bytes.{tab, feed}
use Rattle.text.specs.Numbers.{decimal, read_number, read_field, field_end}
use Rattle.text.specs.Lines.{Judged, Stripped, rest, other, strip, on_strip, ending, on_judged, onto, lines}
use Rattle.sheet.specs.Lines.{size_of, Line, final, arc, size_word, final_word, arc_word, size_text, line_text, place, read_size, read_final, read_arc, read_line}
use Rattle.sheet.specs.Sheets.{Sheet, sheet, wrong_at, with_line, read_rest, read_lines, read_sheet, text_of}
use Rattle.sheet.specs.Inner.{Sized}
use Rattle.text.specs.declared.lines.Fault.TheVariants.{Form}
use Rattle.text.proofs.Decimals.{AllDigits, decimal_all, read_decimal, Numbered, number_read, field_decimal, Fielded, field_read}

-- a line in range; lines in range and in order, from the place `next` on
abbrev pub LineIn : Size → Line → Type 0
LineIn z (final q) = q < z.states
LineIn z (arc q v t c) = (q < z.states) × (v < z.values) × (t < z.states) × (c ≤ most_cost)

abbrev pub Rising : Size → ℕ → List Line → Type 0
Rising z next [] = Unit
Rising z next (l ∷ ls) = LineIn z l × (next ≤ place z l) × Rising z (suc (place z l)) ls

-- the size line
size_text_lem : (z : Size) → Sized z → read_size (size_text z) ≡ Ok z
unfolding read_size size_text ending field_end
size_text_lem z g =
    let r2 : List ℕ = decimal z.start.0 ++ feed ∷ [] in
    let r1 : List ℕ = decimal z.values ++ tab ∷ r2 in
    rw (strip_word_lem size_word (decimal z.states ++ tab ∷ r1), field_decimal 1 most_states z.states r1 g.some_states g.few_states_lem, field_decimal 1 most_values z.values r2 g.some_values g.few_values, read_decimal 0 (z.states - 1) z.start.0 (feed ∷ []) (omega arith) (omega (arith, g.start_state)) refl)

size_made : (s r0 r1 r2 r3 : List ℕ) (q v t : ℕ) (z : Size) → strip size_word s ≡ rest r0 → Fielded 1 most_states r0 q r1 → Fielded 1 most_values r1 v r2 → Numbered 0 (q - 1) r2 t r3
    → (r3 ≡ feed ∷ []) × (true ≡ true) × (size_of q v t ≡ z) → (s ≡ size_text z) × Sized z
unfolding size_text
size_made s r0 r1 r2 r3 q v t z e g1 g2 g3 c =
    let h1 : 1 ≤ q = g1.low in
    let h2 : t ≤ q - 1 = g3.high in
    rw (← c.2) (
      strip_read size_word s r0 e ∙ rw (g1.text, g2.text, g3.text, c.0),
      record { some_states = h1; few_states_lem = g1.high; some_values = g2.low; few_values = g2.high; start_state = omega arith },
    )

pub size_read : (s : List ℕ) (z : Size) → read_size s ≡ Ok z → (s ≡ size_text z) × Sized z
unfolding read_size
size_read s z e =
    let (r0, e0, f0) = on_strip_right (strip size_word s) _ z e in
    let (q, r1, e1, f1) = on_field_right (read_field 1 most_states r0) _ z f0 in
    let (v, r2, e2, f2) = on_field_right (read_field 1 most_values r1) _ z f1 in
    let (t, r3, e3, f3) = on_field_right (read_number 0 (q - 1) r2) _ z f2 in
    size_made s r0 r1 r2 r3 q v t z e0 (field_read 1 most_states r0 q r1 e1) (field_read 1 most_values r1 v r2 e2) (number_read 0 (q - 1) r2 t r3 e3) (close_right true (size_of q v t) z r3 f3)

-- a later line
line_text_lem : (z : Size) (next : ℕ) (l : Line) → LineIn z l → next ≤ place z l → read_line z next (line_text l) ≡ Ok l
unfolding read_line read_final read_arc line_text ending field_end strip
line_text_lem z next (final q) g h =
    rw (read_decimal 0 (z.states - 1) q (feed ∷ []) (omega arith) (omega arith) refl, le-leb next (place z (final q)) h)
line_text_lem z next (arc q v t c) g h =
    let r3 : List ℕ = decimal c ++ feed ∷ [] in
    let r2 : List ℕ = decimal t ++ tab ∷ r3 in
    let r1 : List ℕ = decimal v ++ tab ∷ r2 in
    rw (field_decimal 0 (z.states - 1) q r1 (omega arith) (omega arith), field_decimal 0 (z.values - 1) v r2 (omega arith) (omega arith), field_decimal 0 (z.states - 1) t r3 (omega arith) (omega arith), read_decimal 0 most_cost c (feed ∷ []) (omega arith) g.3 refl, le-leb next (place z (arc q v t c)) h)

pub record Lined (z : Size) (next : ℕ) (s : List ℕ) (l : Line) : Type 0 where
  pub text : s ≡ line_text l
  pub good : LineIn z l
  pub later : next ≤ place z l

final_made : (z : Size) (next : ℕ) (s r0 r1 : List ℕ) (q : ℕ) (l : Line) → 1 ≤ z.states → strip final_word s ≡ rest r0 → Numbered 0 (z.states - 1) r0 q r1
    → (r1 ≡ feed ∷ []) × (leb next (place z (final q)) ≡ true) × (final q ≡ l) → Lined z next s l
unfolding line_text
final_made z next s r0 r1 q l h e g c =
    let h2 : q ≤ z.states - 1 = g.high in
    rw (← c.2) (record { text = strip_read final_word s r0 e ∙ rw (g.text, c.0); good = omega arith; later = leb-true _ _ c.1 })

arc_made : (z : Size) (next : ℕ) (s r0 r1 r2 r3 r4 : List ℕ) (q v t c : ℕ) (l : Line) → 1 ≤ z.states → 1 ≤ z.values → strip arc_word s ≡ rest r0
    → Fielded 0 (z.states - 1) r0 q r1 → Fielded 0 (z.values - 1) r1 v r2 → Fielded 0 (z.states - 1) r2 t r3 → Numbered 0 most_cost r3 c r4
    → (r4 ≡ feed ∷ []) × (leb next (place z (arc q v t c)) ≡ true) × (arc q v t c ≡ l) → Lined z next s l
unfolding line_text
arc_made z next s r0 r1 r2 r3 r4 q v t c l h k e g1 g2 g3 g4 x =
    let h1 : q ≤ z.states - 1 = g1.high in
    let h2 : v ≤ z.values - 1 = g2.high in
    let h3 : t ≤ z.states - 1 = g3.high in
    rw (← x.2)
    (record {
      text = strip_read arc_word s r0 e ∙ rw (g1.text, g2.text, g3.text, g4.text, x.0);
      good = (omega arith, omega arith, omega arith, g4.high);
      later = leb-true _ _ x.1;
    })

final_read : (z : Size) (next : ℕ) (s r0 : List ℕ) (l : Line) → 1 ≤ z.states → strip final_word s ≡ rest r0 → read_final z next r0 ≡ Ok l → Lined z next s l
unfolding read_final
final_read z next s r0 l h e f =
    let (q, r1, e1, f1) = on_field_right (read_number 0 (z.states - 1) r0) _ l f in
    final_made z next s r0 r1 q l h e (number_read 0 (z.states - 1) r0 q r1 e1) (close_right _ (final q) l r1 f1)

arc_read : (z : Size) (next : ℕ) (s r0 : List ℕ) (l : Line) → 1 ≤ z.states → 1 ≤ z.values → strip arc_word s ≡ rest r0 → read_arc z next r0 ≡ Ok l → Lined z next s l
unfolding read_arc
arc_read z next s r0 l h k e f =
    let (q, r1, e1, f1) = on_field_right (read_field 0 (z.states - 1) r0) _ l f in
    let (v, r2, e2, f2) = on_field_right (read_field 0 (z.values - 1) r1) _ l f1 in
    let (t, r3, e3, f3) = on_field_right (read_field 0 (z.states - 1) r2) _ l f2 in
    let (c, r4, e4, f4) = on_field_right (read_number 0 most_cost r3) _ l f3 in
    arc_made z next s r0 r1 r2 r3 r4 q v t c l h k e (field_read _ _ r0 q r1 e1) (field_read _ _ r1 v r2 e2) (field_read _ _ r2 t r3 e3) (number_read _ _ r3 c r4 e4) (close_right _ (arc q v t c) l r4 f4)

pub line_read : (z : Size) (next : ℕ) (s : List ℕ) (l : Line) → 1 ≤ z.states → 1 ≤ z.values → read_line z next s ≡ Ok l → Lined z next s l
unfolding read_line
line_read z next s l h k e = go (strip final_word s) refl
  where
    go : (x : Stripped) → strip final_word s ≡ x → Lined z next s l
    go (rest r) w = final_read z next s r l h w (rw w at e)
    go other w =
        let e2 : on_strip (strip arc_word s) (λ s. read_arc z next s) (Err Form) ≡ Ok l = rw w at e in
        let (r, x, f) = on_strip_right (strip arc_word s) _ l e2 in
        arc_read z next s r l h k x f

abbrev NoFeed : List ℕ → Type 0
NoFeed [] = Unit
NoFeed (b ∷ s) = (b ≡ 10 → ⊥) × NoFeed s

one_word : (w : List ℕ) {l : List ℕ} → NoFeed w → OneLine l → OneLine (w ++ l)
one_word [] h o = o
one_word (b ∷ w) h o = more h.0 (one_word w h.1 o)

no_feed : (ds : List ℕ) → AllDigits ds → NoFeed ds
no_feed [] a = tt
no_feed (d ∷ ds) a = let h : 48 ≤ d = a.0 in (omega arith, no_feed ds a.2)

one_decimal : (n : ℕ) {l : List ℕ} → OneLine l → OneLine (decimal n ++ l)
one_decimal n o = one_word (decimal n) (no_feed (decimal n) (decimal_all n)) o

one_field : (n : ℕ) {l : List ℕ} → OneLine l → OneLine (decimal n ++ tab ∷ l)
one_field n o = one_decimal n (one_word (tab ∷ []) (omega arith) o)

pub one_size : (z : Size) → OneLine (size_text z)
unfolding size_text
one_size z = one_word size_word (omega arith) (one_field z.states (one_field z.values (one_decimal z.start.0 stop)))

pub one_line : (l : Line) → OneLine (line_text l)
unfolding line_text
one_line (final q) = one_word final_word (omega arith) (one_decimal q stop)
one_line (arc q v t c) = one_word arc_word (omega arith) (one_field q (one_field v (one_field t (one_decimal c stop))))

-- THE SHEET, WRITTEN, READS AS ITSELF
rest_text : (z : Size) (next n : ℕ) (ls : List Line) → Rising z next ls → read_rest z next n (lines (each line_text ls)) ≡ sheet z ls
unfolding read_rest lines
rest_text z next n [] h = refl
rest_text z next n (l ∷ ls) h =
    rw (lines_one (line_text l) (each line_text ls) (one_line l), line_text_lem z next l h.0 h.1, rest_text z (suc (place z l)) (suc n) ls h.2)

pub sheet_text_lem : (z : Size) (ls : List Line) → Sized z → Rising z 0 ls → read_sheet (text_of z ls) ≡ sheet z ls
unfolding read_sheet text_of read_lines
sheet_text_lem z ls g h =
    rw (lines_one (size_text z) (each line_text ls) (one_size z), size_text_lem z g) (rest_text z 0 2 ls h)

-- WHAT READS AS A SHEET IS THAT SHEET, WRITTEN
abbrev pub joined : List (List ℕ) → List ℕ
joined ls = each (λ l. l) ls

pub lines_joined : (s : List ℕ) → joined (lines s) ≡ s
unfolding lines
lines_joined [] = refl
lines_joined (b ∷ s) = go (eqb b feed) (lines s) ∙ ap (λ (t : List ℕ). b ∷ t) (lines_joined s)
  where
    go : (t : Bool) (ls : List (List ℕ)) → joined (onto b t ls) ≡ b ∷ joined ls
    go true ls = refl
    go false [] = refl
    go false (l ∷ ls) = refl

on_judged_sheet : {A : Type 0} (x : Judged A) (f : A → Sheet) (n : ℕ) (z : Size) (ls : List Line) → on_judged x f (λ y. wrong_at n y) ≡ sheet z ls → (a : A) × (x ≡ Ok a) × (f a ≡ sheet z ls)
on_judged_sheet (Ok a) f n z ls e = (a, refl, e)
on_judged_sheet (Err y) f n z ls e = never cc

with_line_sheet : (a : Line) (x : Sheet) (z : Size) (ls : List Line) → with_line a x ≡ sheet z ls → (ms : List Line) × (x ≡ sheet z ms) × (ls ≡ a ∷ ms)
with_line_sheet a (sheet y ms) z ls e = (ms, cc, cc)
with_line_sheet a (wrong_at n f) z ls e = never cc

pub record Rested (z : Size) (next : ℕ) (Ls : List (List ℕ)) (y : Size) (ls : List Line) : Type 0 where
  pub same : y ≡ z
  pub text : joined Ls ≡ each line_text ls
  pub rising : Rising z next ls

rest_more : (z : Size) (next : ℕ) (L : List ℕ) (Ls : List (List ℕ)) (y : Size) (l : Line) (ms ls : List Line)
    → Lined z next L l → Rested z (suc (place z l)) Ls y ms → ls ≡ l ∷ ms → Rested z next (L ∷ Ls) y ls
rest_more z next L Ls y l ms ls a b e =
    rw e (record { same = b.same; text = rw (a.text, b.text); rising = (a.good, a.later, b.rising) })

rest_read : (z : Size) (next n : ℕ) (Ls : List (List ℕ)) (y : Size) (ls : List Line) → 1 ≤ z.states → 1 ≤ z.values
    → read_rest z next n Ls ≡ sheet y ls → Rested z next Ls y ls
unfolding read_rest
rest_read z next n [] y ls h k e =
    let a : y ≡ z = cc in
    let b : ls ≡ [] = cc in
    rw b (record { same = a; text = refl; rising = tt })
rest_read z next n (L ∷ Ls) y ls h k e =
    let (l, e1, f1) = on_judged_sheet (read_line z next L) _ n y ls e in
    let (ms, e2, f2) = with_line_sheet l _ y ls f1 in
    rest_more z next L Ls y l ms ls (line_read z next L l h k e1) (rest_read z (suc (place z l)) (suc n) Ls y ms h k e2) f2

pub record Sheeted (s : List ℕ) (z : Size) (ls : List Line) : Type 0 where
  pub text : s ≡ text_of z ls
  pub size : Sized z
  pub rising : Rising z 0 ls

sheet_made : (s L : List ℕ) (Ls : List (List ℕ)) (x z : Size) (ls : List Line) → lines s ≡ L ∷ Ls → (L ≡ size_text x) × Sized x → Rested x 0 Ls z ls → Sheeted s z ls
unfolding text_of
sheet_made s L Ls x z ls e a b =
    rw b.same
    (record { text = sym (lines_joined s) ∙ rw (e, a.0, b.text); size = a.1; rising = b.rising })

pub sheet_read : (s : List ℕ) (z : Size) (ls : List Line) → read_sheet s ≡ sheet z ls → Sheeted s z ls
unfolding read_sheet read_lines
sheet_read s z ls e = go (lines s) refl
  where
    go : (x : List (List ℕ)) → lines s ≡ x → Sheeted s z ls
    go [] w = let v : wrong_at 1 Form ≡ sheet z ls = rw w at e in never cc
    go (L ∷ Ls) w =
        let e2 : read_lines (L ∷ Ls) ≡ sheet z ls = rw w at e in
        let (x, e3, f3) = on_judged_sheet (read_size L) _ 1 z ls e2 in
        let a : (L ≡ size_text x) × Sized x = size_read L x e3 in
        sheet_made s L Ls x z ls w a (rest_read x 0 2 Ls z ls a.1.some_states a.1.some_values f3)
