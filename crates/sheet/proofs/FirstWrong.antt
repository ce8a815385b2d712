-- The first wrong line of a sheet: what reading refuses a text for, and what a call answers of it. Assumes nothing.
use mathlib.Core.Path.{◌≡◌, refl, ap, sym, ◌∙◌}
use mathlib.Core.Logic.{◌⊎◌, inl, inr, ◌↔◌}
use mathlib.Core.Bool.{Bool, true, false, not}
use mathlib.Core.List.{List, [], ◌∷◌, ◌++◌, append_assoc}
use Prim.Native.Nat.{ℕ, suc}
use native.Mathlib.Omega.{arith}
use lib.Dec.{eqb}
use lib.ListN.{length, length-append}
use borrow.Author.Tests.{eqb-false}
use Rattle.std.specs.Prelude.{Ok, Err}
use Rattle.rules.specs.Checks.{tables_long}
use Rattle.rules.specs.Answers.{check, decided}
use Rattle.rules.specs.declared.Size.{Size}
use Rattle.rules.proofs.Checks.{never}
use Rattle.text.specs.Lines.{Judged, lines, on_judged}
use Rattle.text.specs.Fields.{judged}
use Rattle.text.specs.declared.lines.Fault.{Fault}
use Rattle.text.specs.declared.lines.Fault.TheVariants.{Form, Range, Order, Cut}
use Rattle.text.proofs.Cutting.{line_is}
use Rattle.sheet.specs.Lines.{Line, place, read_line}
use Rattle.sheet.specs.Sheets.{Sheet, sheet, wrong_at, with_line, read_rest, read_lines, read_sheet, text_of}
use Rattle.sheet.specs.Faults.{size_tests, size_in, line_tests, line_in, RightLines, sized, lined, FirstWrong, empty, top, later}
use Rattle.sheet.specs.Reading.{sheet_answer, wrong_line, read_checks, read_refused, read_done, read_of}
use Rattle.sheet.specs.Inner.{Sized}
use Rattle.sheet.proofs.Faults.{size_by_fields, line_by_fields}
use Rattle.sheet.proofs.Answering.{reads_short, long_told}
use Rattle.sheet.proofs.Texts.{Rising, joined, lines_joined, sheet_text_lem, sheet_read}

-- behind right lines the rest of a text decides
read_on : (s : List ℕ) {before : List (List ℕ)} {z : Size} {next : ℕ} → RightLines before z next → (rest : List (List ℕ)) (n : ℕ) (f : Fault) → lines s ≡ before ++ rest
    → read_rest z next (suc (length before)) rest ≡ wrong_at n f → read_sheet s ≡ wrong_at n f
unfolding read_sheet read_lines read_rest
read_on s (sized l z j) rest n f e w = rw (e, size_by_fields l (line_is s [] l rest e), j, w)
read_on s (lined {ls = ls} {z = z} {next = next} r l a j) rest n f e w =
    let d : lines s ≡ ls ++ l ∷ rest = e ∙ append_assoc ls (l ∷ []) rest in
    let k : length (ls ++ l ∷ []) ≡ suc (length ls) = omega (arith, length-append ls (l ∷ [])) in
    read_on s r (l ∷ rest) n f d (rw (line_by_fields z next l (line_is s ls l rest d), j, rw k at w))

-- a text that reads as a wrong sheet has that first wrong line
abbrev Seen : List ℕ → Sheet → Type 0
Seen s (sheet z ls) = Unit
Seen s (wrong_at n f) = FirstWrong s n f

with_seen : (s : List ℕ) (a : Line) (x : Sheet) → Seen s x → Seen s (with_line a x)
with_seen s a (sheet z ls) w = tt
with_seen s a (wrong_at n f) w = w

rest_seen : (s : List ℕ) {before : List (List ℕ)} {z : Size} {next : ℕ} → RightLines before z next → (rest : List (List ℕ)) → lines s ≡ before ++ rest
    → Seen s (read_rest z next (suc (length before)) rest)
unfolding read_rest
rest_seen s r [] e = tt
rest_seen s {before = before} {z = z} {next = next} r (l ∷ rest) e =
    go (read_line z next l) refl (λ a w. rest_seen s {before = before ++ l ∷ []} {z = z} {next = suc (place z a)} (lined r l a w) rest (e ∙ sym (append_assoc before (l ∷ []) rest)))
  where
    j : read_line z next l ≡ judged (line_tests z next l) (line_in l)
    j = line_by_fields z next l (line_is s before l rest e)

    k : length (before ++ l ∷ []) ≡ suc (length before)
    k = omega (arith, length-append before (l ∷ []))

    go : (x : Judged Line) → read_line z next l ≡ x
        → ((a : Line) → judged (line_tests z next l) (line_in l) ≡ Ok a → Seen s (read_rest z (suc (place z a)) (suc (length (before ++ l ∷ []))) rest))
        → Seen s (on_judged x (λ a. with_line a (read_rest z (suc (place z a)) (suc (suc (length before))) rest)) (wrong_at (suc (length before))))
    go (Ok a) w rec = with_seen s a (read_rest z (suc (place z a)) (suc (suc (length before))) rest) (rw k at (rec a (sym j ∙ w)))
    go (Err f) w rec = later before l rest e r (sym j ∙ w)

-- what a sheet is, by the answer that it gets
data Kind : ℕ → Sheet → Type 0 where
  whole : {z : Size} {ls : List Line} → Kind 0 (sheet z ls)
  outside : {n : ℕ} → Kind 13 (wrong_at n Range)
  other : {n : ℕ} {f : Fault} → (f ≡ Range → ⊥) → Kind 5 (wrong_at n f)

kind : (x : Sheet) → Kind (sheet_answer x) x
kind (sheet z ls) = whole
kind (wrong_at n Form) = other (λ (e : Form ≡ Range). never cc)
kind (wrong_at n Range) = outside
kind (wrong_at n Order) = other (λ (e : Order ≡ Range). never cc)
kind (wrong_at n Cut) = other (λ (e : Cut ≡ Range). never cc)

is_whole : {x : Sheet} → Kind 0 x → (z : Size) × (ls : List Line) × (x ≡ sheet z ls)
is_whole (whole {z = z} {ls = ls}) = (z, ls, refl)

is_outside : {x : Sheet} (s : List ℕ) → Kind 13 x → Seen s x → (n : ℕ) × FirstWrong s n Range
is_outside s (outside {n = n}) w = (n, w)

is_other : {x : Sheet} (s : List ℕ) → Kind 5 x → Seen s x → (n : ℕ) × (f : Fault) × (f ≡ Range → ⊥) × FirstWrong s n f
is_other s (other {n = n} {f = f} h) w = (n, f, h, w)

other_answer : {a n : ℕ} {f : Fault} → Kind a (wrong_at n f) → (f ≡ Range → ⊥) → a ≡ 5
other_answer outside h = absurd (h refl)
other_answer (other g) h = refl

no_line : {a : ℕ} {x : Sheet} → Kind a x → (a ≡ 5 → ⊥) → (a ≡ 13 → ⊥) → wrong_line x ≡ 0
no_line whole h k = refl
no_line outside h k = absurd (k refl)
no_line (other g) h k = absurd (h refl)

module _ (s t c : List ℕ) where
  answered : (a : ℕ) → eqb a 2 ≡ false → ((read_of s t c).answer ≡ a) ↔ ((tables_long t c ≡ true) × (sheet_answer (read_sheet s) ≡ a))
  answered a n = (λ e. go e (tables_long t c) refl, λ p. (long_told s t c p.0).0 ∙ p.1)
    where
      go : (read_of s t c).answer ≡ a → (b : Bool) → tables_long t c ≡ b → (tables_long t c ≡ true) × (sheet_answer (read_sheet s) ≡ a)
      go e true h = (h, sym (long_told s t c h).0 ∙ e)
      go e false h = absurd (eqb-false a 2 n (sym e ∙ ap (λ o. o.answer) (reads_short s t c h)))

  -- an answer other than 5 and 13 carries no line
  pub carries_line : ((read_of s t c).answer ≡ 5 → ⊥) → ((read_of s t c).answer ≡ 13 → ⊥) → (read_of s t c).line ≡ 0
  carries_line p q = go (tables_long t c) refl
    where
      go : (b : Bool) → tables_long t c ≡ b → (read_of s t c).line ≡ 0
      go true h = let w = long_told s t c h in w.1 ∙ no_line (kind (read_sheet s)) (λ e. p (w.0 ∙ e)) (λ e. q (w.0 ∙ e))
      go false h = ap (λ o. o.line) (reads_short s t c h)

  -- 0 IS ANSWERED OF RIGHT SHEETS
  pub answers_right : ((read_of s t c).answer ≡ 0) ↔ ((tables_long t c ≡ true) × ((z : Size) × (ls : List Line) × (s ≡ text_of z ls) × Sized z × Rising z 0 ls))
  answers_right = (
    λ e.
        let (h, k) = (answered 0 refl).0 e in
        let (z, ls, r) = is_whole (rw k at (kind (read_sheet s))) in
        let w = sheet_read s z ls r in
        (h, (z, ls, w.text, w.size, w.rising)),
    λ (h, (z, ls, e, g, r)). (answered 0 refl).1 (h, ap sheet_answer (ap read_sheet e ∙ sheet_text_lem z ls g r)),
  )

-- 13 STANDS WITH 5: which of the two is tested first makes no difference
pub either_first : (x : Sheet) (t c : List ℕ) → decided (read_checks x t c) (read_refused x t c) (read_done x t c)
    ≡ decided (check 2 (tables_long t c) ∷ check 13 (not (eqb (sheet_answer x) 13)) ∷ check 5 (not (eqb (sheet_answer x) 5)) ∷ []) (read_refused x t c) (read_done x t c)
unfolding decided
either_first (sheet z ls) t c = refl
either_first (wrong_at n Form) t c = refl
either_first (wrong_at n Range) t c = refl
either_first (wrong_at n Order) t c = refl
either_first (wrong_at n Cut) t c = refl

seen : (s : List ℕ) → Seen s (read_sheet s)
unfolding read_sheet read_lines
seen s = go (lines s) refl
  where
    first : (l : List ℕ) (ls : List (List ℕ)) → lines s ≡ l ∷ ls → (x : Judged Size) → judged (size_tests l) (size_in l) ≡ x → Seen s (on_judged x (λ z. read_rest z 0 2 ls) (wrong_at 1))
    first l ls e (Ok z) j = rest_seen s (sized l z j) ls e
    first l ls e (Err f) j = top l ls e j

    go : (ls : List (List ℕ)) → lines s ≡ ls → Seen s (read_lines ls)
    go [] e = empty (sym (lines_joined s) ∙ ap joined e)
    go (l ∷ ls) e = rw (size_by_fields l (line_is s [] l ls e)) (first l ls e (judged (size_tests l) (size_in l)) refl)

refused : (s : List ℕ) (n : ℕ) (f : Fault) → FirstWrong s n f → read_sheet s ≡ wrong_at n f
unfolding read_sheet read_lines read_rest lines
refused s n f (empty e) = rw e
refused s n f (top l after e j) = rw (e, size_by_fields l (line_is s [] l after e), j)
refused s n f (later {z = z} {next = next} before l after e r j) =
    read_on s r (l ∷ after) _ f e (rw (line_by_fields z next l (line_is s before l after e), j))

-- A SHEET IS REFUSED FOR ITS FIRST WRONG LINE and the first fault of that line
pub first_wrong : (s : List ℕ) (n : ℕ) (f : Fault) → (read_sheet s ≡ wrong_at n f) ↔ FirstWrong s n f
first_wrong s n f = (λ e. rw e at (seen s), refused s n f)

-- SO A WRONG SHEET HAS ONE CAUSE
pub one_cause : (s : List ℕ) (n m : ℕ) (f g : Fault) → FirstWrong s n f → FirstWrong s m g → (n ≡ m) × (f ≡ g)
one_cause s n m f g w v = let e : wrong_at n f ≡ wrong_at m g = sym (refused s n f w) ∙ refused s m g v in (cc, cc)

-- and a sheet is right or has one
pub right_or_wrong : (s : List ℕ) → ((z : Size) × (ls : List Line) × (read_sheet s ≡ sheet z ls)) ⊎ ((n : ℕ) × (f : Fault) × FirstWrong s n f)
right_or_wrong s = go (read_sheet s) refl
  where
    go : (x : Sheet) → read_sheet s ≡ x → ((z : Size) × (ls : List Line) × (read_sheet s ≡ sheet z ls)) ⊎ ((n : ℕ) × (f : Fault) × FirstWrong s n f)
    go (sheet z ls) e = inl (z, ls, e)
    go (wrong_at n f) e = inr (n, f, (first_wrong s n f).0 e)

module _ (s t c : List ℕ) where
  -- A WRONG SHEET'S ANSWER CARRIES THE LINE
  pub answers_line : (n : ℕ) (f : Fault) → tables_long t c ≡ true → FirstWrong s n f → (read_of s t c).line ≡ n
  answers_line n f h w = (long_told s t c h).1 ∙ ap wrong_line (refused s n f w)

  -- 13 IS ANSWERED where the first wrong line has a number out of range as its first fault
  pub answers_range : ((read_of s t c).answer ≡ 13) ↔ ((tables_long t c ≡ true) × ((n : ℕ) × FirstWrong s n Range))
  answers_range = (
    λ e. let (h, k) = (answered s t c 13 refl).0 e in (h, is_outside s (rw k at (kind (read_sheet s))) (seen s)),
    λ (h, (n, w)). (answered s t c 13 refl).1 (h, ap sheet_answer (refused s n Range w)),
  )

  -- 5 where it has any other fault
  pub answers_wrong : ((read_of s t c).answer ≡ 5) ↔ ((tables_long t c ≡ true) × ((n : ℕ) × (f : Fault) × (f ≡ Range → ⊥) × FirstWrong s n f))
  answers_wrong = (
    λ e. let (h, k) = (answered s t c 5 refl).0 e in (h, is_other s (rw k at (kind (read_sheet s))) (seen s)),
    λ (h, (n, f, k, w)). (answered s t c 5 refl).1 (h, ap sheet_answer (refused s n f w) ∙ other_answer (kind (wrong_at n f)) k),
  )
