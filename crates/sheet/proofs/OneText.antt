-- One text for each rule set, and it reads back. Assumes nothing.
use mathlib.Core.Path.{◌≡◌, refl, ap, ap₂, sym, ◌∙◌}
use mathlib.Core.Bool.{Bool, true, false}
use mathlib.Core.List.{List, [], ◌∷◌, ◌++◌, map}
use Prim.Native.Nat.{ℕ, zero, suc, ◌*◌, ◌≤◌, ◌<◌}
use native.Mathlib.Omega.{arith}
use lib.ListN.{length, get_or, take, drop, get_or-append}
use lib.Seq.{length-take-le, get_or-take}
use borrow.Author.Tests.{lt-ltb, eq-eqb}
use Rattle.meaning.specs.Meaning.{Rules, rules_of}
use Rattle.meaning.specs.Lists.{from, each}
use Rattle.meaning.specs.Bounds.{table_size}
use Rattle.rules.specs.Checks.{handed, RulesAlike, OneRuleSet, size_right, tables_long, rules_right}
use Rattle.rules.proofs.Checks.{both, size_of_lem, size_last, long_tables, arcs_few}
use Rattle.rules.specs.declared.Size.{Size}
use Rattle.rules.proofs.Lawful.{Lawful, lawful}
use Rattle.rules.proofs.Within.{target_same, cost_same}
use Rattle.meaning.proofs.Lists.{each_same}
use Rattle.sheet.specs.Lines.{size_of, Line, size_text, line_text, place}
use Rattle.text.specs.Lines.{lines}
use Rattle.sheet.specs.Sheets.{final_line, arc_line, lines_of, text_of, sheet_text, Sheet, sheet, wrong_at, read_sheet, accepting_of, targets_of, costs_of}
use Rattle.sheet.specs.Reading.{read_left, read_of}
use Rattle.sheet.specs.Inner.{Sized}
use Rattle.text.proofs.Cutting.{lines_one}
use Rattle.sheet.proofs.Texts.{Rising, joined, one_size, one_line, sheet_text_lem, Sheeted, sheet_read}
use Rattle.sheet.proofs.Answering.{reads_short, reads_wrong, reads_right, fault_answers}
use Rattle.sheet.proofs.Tables.{lines_rising, lines_accepting, lines_targets, lines_costs}
use Rattle.sheet.proofs.Filled.{targets_length, costs_length, lines_back_lem, rules_back}

pub size_in_lem : (q v s : ℕ) → size_right q v s ≡ true → Sized (size_of q v s)
size_in_lem q v s h =
    let x = size_of_lem q v s h in
    record { some_states = x.some_states; few_states_lem = x.few_states_lem; some_values = x.some_values; few_values = x.few_values; start_state = x.start_state }

in_size : (z : Size) → Sized z → size_right z.states z.values z.start.0 ≡ true
in_size z g =
    sym (size_last z.states z.values z.start.0 g.some_states g.few_states_lem g.some_values g.few_values) ∙ lt-ltb _ _ g.start_state

-- A RULE SET THAT IS WRITTEN READS AS ITSELF, into any full tables
pub reads_back : (q v s : ℕ) (t c : List ℕ) (a : ℕ) (xs ys : List ℕ) → rules_right q v s t c a ≡ true → tables_long xs ys ≡ true
    → read_of (sheet_text (rules_of q v t c a) s) xs ys ≡ read_left 0 0 q v s a (take (q * v) t ++ drop (q * v) xs) (take (q * v) c ++ drop (q * v) ys)
unfolding rules_right sheet_text
reads_back q v s t c a xs ys h k =
    let p = both (size_right q v s) _ h in
    let p2 = both (tables_long t c) _ p.1 in
    let g : Sized (size_of q v s) = size_in_lem q v s p.0 in
    let w : Lawful (rules_of q v t c a) = lawful q v t c a p2.1 in
    let l = long_tables t c p2.0 in
    let n : q * v ≤ table_size = arcs_few g.few_states_lem g.few_values in
    reads_right (sheet_text (rules_of q v t c a) s) xs ys (size_of q v s) (lines_of (rules_of q v t c a)) k (sheet_text_lem (size_of q v s) (lines_of (rules_of q v t c a)) g (lines_rising (rules_of q v t c a) s g w))
    ∙ rw (
      lines_accepting (rules_of q v t c a) g.few_states_lem w,
      lines_targets (rules_of q v t c a) s g.few_states_lem w (omega (arith, l.0)) xs,
      lines_costs (rules_of q v t c a) s g.few_states_lem w (omega (arith, l.1)) ys,
    )

-- what answer 0 says of the text and the rule set
pub record Whole (text : List ℕ) (q v s : ℕ) (t c : List ℕ) (a : ℕ) : Type 0 where
  pub right : rules_right q v s t c a ≡ true
  pub is_text : text ≡ sheet_text (rules_of q v t c a) s

whole : (text : List ℕ) (z : Size) (ls : List Line) (xs ys : List ℕ) → read_sheet text ≡ sheet z ls → tables_long xs ys ≡ true
    → Whole text z.states z.values z.start.0 (targets_of z ls xs) (costs_of z ls ys) (accepting_of ls)
unfolding rules_right tables_long sheet_text
whole text z ls xs ys e h =
    let w : Sheeted text z ls = sheet_read text z ls e in
    let g : Sized z = w.size in
    let l : (length xs ≡ table_size) × (length ys ≡ table_size) = long_tables xs ys h in
    let n : z.states * z.values ≤ table_size = arcs_few g.few_states_lem g.few_values in
    let hx : z.states * z.values ≤ length xs = omega arith in
    let hy : z.states * z.values ≤ length ys = omega arith in
    record {
      right =
          rw (in_size z g, eq-eqb (length (targets_of z ls xs)) table_size (targets_length z ls xs hx ∙ l.0), eq-eqb (length (costs_of z ls ys)) table_size (costs_length z ls ys hy ∙ l.1))
          (rules_back z ls xs ys g w.rising hx hy);
      is_text = rw (lines_back_lem z ls xs ys g w.rising hx hy) w.text;
    }

-- A TEXT THAT READS AS A RULE SET IS THAT RULE SET'S TEXT, and the rule set is right
pub one_text : (text xs ys : List ℕ) (n q v s a : ℕ) (t c : List ℕ) → read_of text xs ys ≡ read_left 0 n q v s a t c → Whole text q v s t c a
one_text text xs ys n q v s a t c e = go (tables_long xs ys) refl (read_sheet text) refl
  where
    go : (b : Bool) → tables_long xs ys ≡ b → (x : Sheet) → read_sheet text ≡ x → Whole text q v s t c a
    go true h (sheet z ls) k =
        let w : Whole text z.states z.values z.start.0 (targets_of z ls xs) (costs_of z ls ys) (accepting_of ls) = whole text z ls xs ys k h in
        let f = sym (reads_right text xs ys z ls h k) ∙ e in
        let e1 : z.states ≡ q = ap (λ o. o.states) f in
        let e2 : z.values ≡ v = ap (λ o. o.values) f in
        let e3 : z.start.0 ≡ s = ap (λ o. o.start) f in
        let e4 : accepting_of ls ≡ a = ap (λ o. o.accepting) f in
        let e5 : targets_of z ls xs ≡ t = ap (λ o. o.targets) f in
        let e6 : costs_of z ls ys ≡ c = ap (λ o. o.costs) f in
        rw (← e1, ← e2, ← e3, ← e4, ← e5, ← e6) w
    go true h (wrong_at m f) k = absurd (fault_answers f (ap (λ o. o.answer) (sym (reads_wrong text xs ys m f h k) ∙ e)))
    go false h x k = let u : ◌≡◌ {A = ℕ} 2 0 = ap (λ o. o.answer) (sym (reads_short text xs ys h) ∙ e) in absurd (omega arith)

-- so each rule set has one text
pub texts_same : (text other xs ys : List ℕ) (n q v s a : ℕ) (t c : List ℕ) → read_of text xs ys ≡ read_left 0 n q v s a t c → read_of other xs ys ≡ read_left 0 n q v s a t c → text ≡ other
texts_same text other xs ys n q v s a t c e f = (one_text text xs ys n q v s a t c e).is_text ∙ sym (one_text other xs ys n q v s a t c f).is_text

-- ONE SHEET, READ INTO TWO TABLES, IS ONE RULE SET, handed in twice
front : (n k : ℕ) (xs ys : List ℕ) → k < n → n ≤ length xs → get_or (take n xs ++ ys) k 0 ≡ get_or xs k 0
front n k xs ys h l = get_or-append (take n xs) ys 0 k (omega (arith, length-take-le n xs l)) ∙ get_or-take n xs k 0 h

pub one_sheet : (text xs ys us ws : List ℕ) (places m n q v s a q' v' s' a' : ℕ) (t c t' c' : List ℕ)
    → read_of text xs ys ≡ read_left 0 m q v s a t c → read_of text us ws ≡ read_left 0 n q' v' s' a' t' c'
    → OneRuleSet (handed places q v s t c a) (handed places q' v' s' t' c' a')
unfolding rules_right
one_sheet text xs ys us ws places m n q v s a q' v' s' a' t c t' c' e f =
    let w = one_text text xs ys m q v s a t c e in
    let x = one_text text us ws n q' v' s' a' t' c' f in
    let p = both (size_right q v s) _ w.right in
    let long = (both (tables_long t c) _ p.1).0 in
    let l = long_tables t c long in
    let l' = long_tables t' c' (both (tables_long t' c') _ (both (size_right q' v' s') _ x.right).1).0 in
    let z = size_of_lem q v s p.0 in
    let few : q * v ≤ table_size = arcs_few z.few_states_lem z.few_values in
    let same : read_left 0 0 q v s a (take (q * v) t ++ drop (q * v) t) (take (q * v) c ++ drop (q * v) c)
    ≡ read_left 0 0 q' v' s' a' (take (q' * v') t' ++ drop (q' * v') t) (take (q' * v') c' ++ drop (q' * v') c) =
    sym (reads_back q v s t c a t c w.right long) ∙ (ap (λ (b : List ℕ). read_of b t c) (sym w.is_text ∙ x.is_text) ∙ reads_back q' v' s' t' c' a' t c x.right long) in
    let eq : q ≡ q' = ap (λ o. o.states) same in
    let ev : v ≡ v' = ap (λ o. o.values) same in
    let ep : q * v ≡ q' * v' = ap₂ (λ (i j : ℕ). i * j) eq ev in
    record {
      places = refl;
      start = ap (λ o. o.start) same;
      rules = record {
        states = eq;
        values = ev;
        accepting = ap (λ o. o.accepting) same;
        targets = λ k h. sym (front (q * v) k t _ h (omega (arith, l.0))) ∙ (ap (λ o. get_or o.targets k 0) same ∙ front (q' * v') k t' _ (omega arith) (omega (arith, l'.0)));
        costs = λ k h. sym (front (q * v) k c _ h (omega (arith, l.1))) ∙ (ap (λ o. get_or o.costs k 0) same ∙ front (q' * v') k c' _ (omega arith) (omega (arith, l'.1)));
      };
      targets_long = l.0 ∙ sym l'.0;
      costs_long = l.1 ∙ sym l'.1;
    }

-- Places from Q × V on play no part in it
module _ (r u : Rules) (alike : RulesAlike r u) where
  arc_alike : (q v : ℕ) → q < r.arcs.states → v < r.arcs.values → arc_line r.arcs q v ≡ arc_line u.arcs q v
  arc_alike q v h k = cc (alike.states, target_same r u alike q v h k, cost_same r u alike q v h k)

  lines_alike : lines_of r ≡ lines_of u
  unfolding lines_of
  lines_alike =
      ap₂ (λ (xs ys : List Line). xs ++ ys)
      (ap₂ (λ (a n : ℕ). each (final_line a) (from 0 n)) alike.accepting alike.states)
      (each_same _ _ 0 r.arcs.states (λ q a b. each_same _ _ 0 r.arcs.values (λ v c d. arc_alike q v (omega arith) (omega arith)))
      ∙ ap₂ (λ (v n : ℕ). each (λ q. each (arc_line u.arcs q) (from 0 v)) (from 0 n)) alike.values alike.states)

  pub text_alike : (s : ℕ) → sheet_text r s ≡ sheet_text u s
  unfolding sheet_text
  text_alike s = cc (alike.states, alike.values, lines_alike)

-- THE FIRST LINES OF A RIGHT SHEET ARE A RIGHT SHEET
cut_lines : (ls : List Line) → lines (each line_text ls) ≡ map line_text ls
unfolding lines
cut_lines [] = refl
cut_lines (l ∷ ls) = lines_one (line_text l) (each line_text ls) (one_line l) ∙ ap (λ (m : List (List ℕ)). line_text l ∷ m) (cut_lines ls)

joined_take : (k : ℕ) (ls : List Line) → joined (take k (map line_text ls)) ≡ each line_text (take k ls)
joined_take zero ls = refl
joined_take (suc k) [] = refl
joined_take (suc k) (l ∷ ls) = ap (λ (t : List ℕ). line_text l ++ t) (joined_take k ls)

rising_take : (z : Size) (n k : ℕ) (ls : List Line) → Rising z n ls → Rising z n (take k ls)
rising_take z n zero ls r = tt
rising_take z n (suc k) [] r = tt
rising_take z n (suc k) (l ∷ ls) r = (r.0, r.1, rising_take z (suc (place z l)) k ls r.2)

pub first_lines : (text : List ℕ) (z : Size) (ls : List Line) (k : ℕ) → read_sheet text ≡ sheet z ls → read_sheet (joined (take (suc k) (lines text))) ≡ sheet z (take k ls)
unfolding text_of
first_lines text z ls k e =
    let w : Sheeted text z ls = sheet_read text z ls e in
    let c : lines (text_of z ls) ≡ size_text z ∷ map line_text ls = lines_one (size_text z) (each line_text ls) (one_size z) ∙ ap (λ (m : List (List ℕ)). size_text z ∷ m) (cut_lines ls) in
    rw (w.text, c, joined_take k ls) (sheet_text_lem z (take k ls) w.size (rising_take z 0 k ls w.rising))
