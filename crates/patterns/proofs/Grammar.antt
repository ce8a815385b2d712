-- The reading finds a pattern exactly if the grammar spells one, and it is that one. Assumes nothing.
use mathlib.Core.Path.{◌≡◌, refl, sym, ap, ◌∙◌, subst}
use mathlib.Core.Bool.{Bool, true, false, cond, ◌||◌, false≢true}
use mathlib.Core.Logic.{◌↔◌}
use mathlib.Core.List.{List, [], ◌∷◌, ◌++◌, append_assoc, append-nil}
use Prim.Native.Nat.{ℕ, zero, suc, ◌+◌, ◌-◌, ◌*◌, ◌<◌}
use native.Mathlib.Omega.{arith}
use lib.ListN.{length, get_or, drop, length-append, drop_of_length-le}
use lib.Seq.{drop-drop, drop-append_seam, get_or-drop}
use lib.Dec.{eqb, leb}
use borrow.Author.Tests.{eqb-true, eqb-false, ne_eqb, leb-true, le-leb}
use Rattle.patterns.specs.Pattern.{Pattern, Letter, Then, Or, More, Perhaps}
use Rattle.patterns.specs.Line.{Reader, item, branch, group, Kind, anAtom, anItem, aBranch, aGroup, Spells, by_letter, by_group, plain, starred, plussed, asked, single, joined, alone, barred, Parsed, Good, Wrong, and_then, is_letter, suffix, step, within, parse}
use Rattle.patterns.proofs.Reading.{letter_there, byte_there, byte_here, parse_step, eq_closed, eq_branch_end, eq_branch_join, eq_group_end, eq_group_join}
use Rattle.rules.proofs.Checks.{or_left, or_no, and_goes, both}

abbrev kind_of : Reader → Kind
kind_of item = anItem
kind_of branch = aBranch
kind_of group = aGroup

-- what is read is spelled there
data Spelled (s : List ℕ) (at d : ℕ) (k : Kind) : Parsed → Type 0 where
  spelled : {p : Pattern} {e : ℕ} (u : List ℕ) → drop at s ≡ u ++ drop e s → Spells k d p u → Spelled s at d k (Good p e)
  unspelled : Spelled s at d k Wrong

module _ (s : List ℕ) (at d : ℕ) (k : Kind) where
  spelled_cond : (b : Bool) (x y : Parsed) → (b ≡ true → Spelled s at d k x) → (b ≡ false → Spelled s at d k y) → Spelled s at d k (cond b x y)
  spelled_cond true x y h l = h refl
  spelled_cond false x y h l = l refl

  spelled_then : (from d' : ℕ) (k' : Kind) (r : Parsed) (f : Pattern → ℕ → Parsed) → Spelled s from d' k' r
      → ((p : Pattern) (e : ℕ) (u : List ℕ) → drop from s ≡ u ++ drop e s → Spells k' d' p u → Spelled s at d k (f p e)) → Spelled s at d k (and_then r f)
  spelled_then from d' k' r f (spelled u a b) h = h _ _ u a b
  spelled_then from d' k' r f unspelled h = unspelled

byte_is : (s : List ℕ) (e b : ℕ) → 0 < b → eqb (get_or s e 0) b ≡ true → drop e s ≡ b ∷ drop (e + 1) s
byte_is s e b h k = byte_here s e (byte_there s e b h k) ∙ ap (λ (x : ℕ). x ∷ drop (e + 1) s) (eqb-true (get_or s e 0) b k)

one_more : (s u : List ℕ) (at e b : ℕ) → 0 < b → eqb (get_or s e 0) b ≡ true → drop at s ≡ u ++ drop e s → drop at s ≡ (u ++ (b ∷ [])) ++ drop (e + 1) s
one_more s u at e b h k a = a ∙ ap (λ (x : List ℕ). u ++ x) (byte_is s e b h k) ∙ sym (append_assoc u (b ∷ []) (drop (e + 1) s))

spelled_suffix : (s : List ℕ) (at d : ℕ) (p : Pattern) (e : ℕ) (u : List ℕ) → drop at s ≡ u ++ drop e s → Spells anAtom d p u → Spelled s at d anItem (suffix (get_or s e 0) p e)
unfolding suffix
spelled_suffix s at d p e u a m =
    spelled_cond s at d anItem (eqb (get_or s e 0) 42) _ _ (λ l. spelled (u ++ (42 ∷ [])) (one_more s u at e 42 (omega arith) l a) (starred m)) (λ _.
    spelled_cond s at d anItem (eqb (get_or s e 0) 43) _ _ (λ l. spelled (u ++ (43 ∷ [])) (one_more s u at e 43 (omega arith) l a) (plussed m)) (λ _.
    spelled_cond s at d anItem (eqb (get_or s e 0) 63) _ _ (λ l. spelled (u ++ (63 ∷ [])) (one_more s u at e 63 (omega arith) l a) (asked m)) (λ _. spelled u a (plain m))))

letter_spelled : (b d : ℕ) → is_letter b ≡ true → Spells anAtom d (Letter (b - 97)) (b ∷ [])
unfolding is_letter
letter_spelled b d h =
    let l = leb-true 97 b (both (leb 97 b) (leb b 112) h).0 in
    let k = leb-true b 112 (both (leb 97 b) (leb b 112) h).1 in
    let e : 97 + (b - 97) ≡ b = omega arith in
    subst (λ (x : ℕ). Spells anAtom d (Letter (b - 97)) (x ∷ [])) e (by_letter (b - 97) (omega arith))

group_spelled : (d : ℕ) (p : Pattern) (u : List ℕ) → (d ≡ 0 → ⊥) → Spells aGroup (d - 1) p u → Spells anAtom d p (40 ∷ (u ++ (41 ∷ [])))
group_spelled d p u n m = let e : suc (d - 1) ≡ d = omega arith in subst (λ (x : ℕ). Spells anAtom x p (40 ∷ (u ++ (41 ∷ [])))) e (by_group m)

within_spelled : (n : ℕ) (w : Reader) (s : List ℕ) (at d : ℕ) → Spelled s at d (kind_of w) (within n w s at d)
unfolding within step
within_spelled zero w s at d = unspelled
within_spelled (suc n) item s at d =
    spelled_cond s at d anItem (is_letter (get_or s at 0)) _ _
    (λ h. spelled_suffix s at d (Letter (get_or s at 0 - 97)) (at + 1) (get_or s at 0 ∷ []) (byte_here s at (letter_there s at h)) (letter_spelled (get_or s at 0) d h)) (λ _.
    spelled_cond s at d anItem (eqb (get_or s at 0) 40) _ _ (λ h.
    spelled_cond s at d anItem (eqb d 0) _ _ (λ _. unspelled) (λ z.
    spelled_then s at d anItem (at + 1) (d - 1) aGroup _ _ (within_spelled n group s (at + 1) (d - 1)) (λ p e u a m.
    spelled_cond s at d anItem (eqb (get_or s e 0) 41) _ _ (λ k. spelled_suffix s at d p (e + 1) (40 ∷ (u ++ (41 ∷ [])))
    (byte_is s at 40 (omega arith) h ∙ ap (λ (x : List ℕ). 40 ∷ x) (one_more s u (at + 1) e 41 (omega arith) k a)) (group_spelled d p u (eqb-false d 0 z) m)) (λ _. unspelled)))) (λ _. unspelled))
within_spelled (suc n) branch s at d =
    spelled_then s at d aBranch at d anItem _ _ (within_spelled n item s at d) (λ p e u a m.
    spelled_cond s at d aBranch (is_letter (get_or s e 0) || eqb (get_or s e 0) 40) _ _ (λ _.
    spelled_then s at d aBranch e d aBranch _ _ (within_spelled n branch s e d) (λ q f v b l.
    spelled (u ++ v) (a ∙ ap (λ (x : List ℕ). u ++ x) b ∙ sym (append_assoc u v (drop f s))) (joined m l))) (λ _. spelled u a (single m)))
within_spelled (suc n) group s at d =
    spelled_then s at d aGroup at d aBranch _ _ (within_spelled n branch s at d) (λ p e u a m.
    spelled_cond s at d aGroup (eqb (get_or s e 0) 124) _ _ (λ h.
    spelled_then s at d aGroup (e + 1) d aGroup _ _ (within_spelled n group s (e + 1) d) (λ q f v b l.
    spelled (u ++ (124 ∷ v)) (a ∙ ap (λ (x : List ℕ). u ++ x) (byte_is s e 124 (omega arith) h ∙ ap (λ (x : List ℕ). 124 ∷ x) b) ∙ sym (append_assoc u (124 ∷ v) (drop f s))) (barred m l)))
    (λ _. spelled u a (alone m)))

-- and back: what is spelled is read, unless the text goes on
abbrev mark : ℕ → Bool
mark b = eqb b 42 || (eqb b 43 || eqb b 63)

abbrev opens : ℕ → Bool
opens b = is_letter b || eqb b 40

abbrev Claim : Kind → ℕ → Pattern → List ℕ → Type 0
Claim anAtom d p u = (s : List ℕ) (at : ℕ) (t : List ℕ) → drop at s ≡ u ++ t → parse item s at d ≡ suffix (get_or s (at + length u) 0) p (at + length u)
Claim anItem d p u = (s : List ℕ) (at : ℕ) (t : List ℕ) → drop at s ≡ u ++ t → mark (get_or t 0 0) ≡ false → parse item s at d ≡ Good p (at + length u)
Claim aBranch d p u = (s : List ℕ) (at : ℕ) (t : List ℕ) → drop at s ≡ u ++ t → mark (get_or t 0 0) ≡ false → opens (get_or t 0 0) ≡ false → parse branch s at d ≡ Good p (at + length u)
Claim aGroup d p u = (s : List ℕ) (at : ℕ) (t : List ℕ) → drop at s ≡ u ++ t → mark (get_or t 0 0) ≡ false → opens (get_or t 0 0) ≡ false → (get_or t 0 0 ≡ 124 → ⊥)
    → parse group s at d ≡ Good p (at + length u)

rest_is : (s u t : List ℕ) (at : ℕ) → drop at s ≡ u ++ t → drop (at + length u) s ≡ t
rest_is s u t at e = sym (drop-drop (length u) at s) ∙ ap (drop (length u)) e ∙ drop-append_seam u t

next_is : (s u t : List ℕ) (at : ℕ) → drop at s ≡ u ++ t → get_or s (at + length u) 0 ≡ get_or t 0 0
next_is s u t at e =
    let q : at + length u + 0 ≡ at + length u = omega arith in
    sym (ap (λ (x : ℕ). get_or s x 0) q) ∙ sym (get_or-drop (at + length u) s 0 0) ∙ ap (λ (x : List ℕ). get_or x 0 0) (rest_is s u t at e)

here_is : (s t : List ℕ) (at b : ℕ) → drop at s ≡ b ∷ t → get_or s at 0 ≡ b
here_is s t at b e =
    let q : at + 0 ≡ at = omega arith in
    sym (ap (λ (x : ℕ). get_or s x 0) q) ∙ sym (get_or-drop at s 0 0) ∙ ap (λ (x : List ℕ). get_or x 0 0) e

past_is : (s t : List ℕ) (at b : ℕ) → drop at s ≡ b ∷ t → drop (at + 1) s ≡ t
past_is s t at b e = sym (drop-drop 1 at s) ∙ ap (drop 1) e

-- what an item begins with
begins : {k : Kind} {d : ℕ} {p : Pattern} {u : List ℕ} (t : List ℕ) → Spells k d p u → opens (get_or (u ++ t) 0 0) ≡ true
unfolding is_letter
begins t (by_letter v h) = or_left (is_letter (97 + v)) (eqb (97 + v) 40) (and_goes (leb 97 (97 + v)) (leb (97 + v) 112) true (le-leb 97 (97 + v) (omega arith)) (le-leb (97 + v) 112 (omega arith)))
begins t (by_group m) = refl
begins t (plain m) = begins t m
begins t (starred {s = u} m) = rw (append_assoc u (42 ∷ []) t) (begins (42 ∷ t) m)
begins t (plussed {s = u} m) = rw (append_assoc u (43 ∷ []) t) (begins (43 ∷ t) m)
begins t (asked {s = u} m) = rw (append_assoc u (63 ∷ []) t) (begins (63 ∷ t) m)
begins t (single m) = begins t m
begins t (joined {s = u} {t = v} m n) = rw (append_assoc u v t) (begins (v ++ t) m)
begins t (alone m) = begins t m
begins t (barred {s = u} {t = v} m n) = rw (append_assoc u (124 ∷ v) t) (begins (124 ∷ (v ++ t)) m)

not_at : (b c : ℕ) → opens b ≡ true → opens c ≡ false → eqb b c ≡ false
not_at b c h k = ne_eqb b c (λ e. false≢true (sym k ∙ ap opens (sym e) ∙ h))

opens_no_mark : (b : ℕ) → opens b ≡ true → mark b ≡ false
unfolding is_letter
opens_no_mark b h = rw (not_at b 42 h refl, not_at b 43 h refl, not_at b 63 h refl)

suffix_none : (b : ℕ) (p : Pattern) (e : ℕ) → mark b ≡ false → suffix b p e ≡ Good p e
unfolding suffix
suffix_none b p e h =
    let x = or_no (eqb b 42) (eqb b 43 || eqb b 63) h in
    let y = or_no (eqb b 43) (eqb b 63) x.1 in
    pick (eqb b 42) (eqb b 43) (eqb b 63) x.0 y.0 y.1
  where
    pick : (i j k : Bool) → i ≡ false → j ≡ false → k ≡ false
        → cond i (Good (Perhaps (More p)) (e + 1)) (cond j (Good (More p) (e + 1)) (cond k (Good (Perhaps p) (e + 1)) (Good p e))) ≡ Good p e
    pick i j k a b c = rw (a, b, c)

letter_eq : (s : List ℕ) (at d : ℕ) → is_letter (get_or s at 0) ≡ true → parse item s at d ≡ suffix (get_or s (at + 1) 0) (Letter (get_or s at 0 - 97)) (at + 1)
unfolding step
letter_eq s at d h = parse_step item s at d ∙ rw h

letter_yes : (v : ℕ) → v < 16 → is_letter (97 + v) ≡ true
unfolding is_letter
letter_yes v h = and_goes (leb 97 (97 + v)) (leb (97 + v) 112) true (le-leb 97 (97 + v) (omega arith)) (le-leb (97 + v) 112 (omega arith))

letter_step : (s : List ℕ) (at d v : ℕ) → v < 16 → get_or s at 0 ≡ 97 + v → parse item s at d ≡ suffix (get_or s (at + 1) 0) (Letter v) (at + 1)
letter_step s at d v h e =
    let q : get_or s at 0 - 97 ≡ v = omega arith in
    letter_eq s at d (ap is_letter e ∙ letter_yes v h) ∙ ap (λ (x : ℕ). suffix (get_or s (at + 1) 0) (Letter x) (at + 1)) q

marked : (s u t : List ℕ) (at d b : ℕ) (p q : Pattern) → parse item s at d ≡ suffix (get_or s (at + length u) 0) p (at + length u) → drop at s ≡ u ++ (b ∷ t)
    → suffix b p (at + length u) ≡ Good q (at + length u + 1) → parse item s at d ≡ Good q (at + length (u ++ (b ∷ [])))
marked s u t at d b p q h e k =
    let l = length-append u (b ∷ []) in
    let z : at + length u + 1 ≡ at + length (u ++ (b ∷ [])) = omega arith in
    h ∙ ap (λ (x : ℕ). suffix x p (at + length u)) (next_is s u (b ∷ t) at e) ∙ k ∙ ap (Good q) z

claim : {k : Kind} {d : ℕ} {p : Pattern} {u : List ℕ} → Spells k d p u → Claim k d p u
unfolding suffix is_letter
claim (by_letter {d} v h) = λ s at t e. letter_step s at d v h (here_is s t at (97 + v) e)
claim (by_group {d} {p} {s = u} m) = λ s at t e.
    let a : drop (at + 1) s ≡ u ++ (41 ∷ t) = past_is s (u ++ (41 ∷ []) ++ t) at 40 e ∙ append_assoc u (41 ∷ []) t in
    let l = length-append u (41 ∷ []) in
    let z : at + 1 + length u + 1 ≡ at + suc (length (u ++ (41 ∷ []))) = omega arith in
    let q : suc d - 1 ≡ d = omega arith in
    eq_closed s at (suc d) p (at + 1 + length u) (ap is_letter (here_is s _ at 40 e)) (here_is s _ at 40 e) (λ x. absurd (omega arith))
    (ap (parse group s (at + 1)) q ∙ claim m s (at + 1) (41 ∷ t) a refl refl (λ x. absurd (omega arith))) (next_is s u (41 ∷ t) (at + 1) a)
    ∙ ap (λ (x : ℕ). suffix (get_or s x 0) p x) z
claim (plain {p = p} {s = u} m) = λ s at t e h.
    claim m s at t e ∙ suffix_none (get_or s (at + length u) 0) p (at + length u) (ap mark (next_is s u t at e) ∙ h)
claim (starred {d} {p} {s = u} m) = λ s at t e h. let a = e ∙ append_assoc u (42 ∷ []) t in marked s u t at d 42 p (Perhaps (More p)) (claim m s at (42 ∷ t) a) a refl
claim (plussed {d} {p} {s = u} m) = λ s at t e h. let a = e ∙ append_assoc u (43 ∷ []) t in marked s u t at d 43 p (More p) (claim m s at (43 ∷ t) a) a refl
claim (asked {d} {p} {s = u} m) = λ s at t e h. let a = e ∙ append_assoc u (63 ∷ []) t in marked s u t at d 63 p (Perhaps p) (claim m s at (63 ∷ t) a) a refl
claim (single {d} {p} {s = u} m) = λ s at t e h o. eq_branch_end s at d p (at + length u) (claim m s at t e h) (ap opens (next_is s u t at e) ∙ o)
claim (joined {d} {p} {q} {s = u} {t = v} m n) = λ s at t e h o.
    let a : drop at s ≡ u ++ (v ++ t) = e ∙ append_assoc u v t in
    let b = begins t n in
    let l = length-append u v in
    let z : at + length u + length v ≡ at + length (u ++ v) = omega arith in
    eq_branch_join s at d p (at + length u) (claim m s at (v ++ t) a (opens_no_mark (get_or (v ++ t) 0 0) b)) q (at + length u + length v) (ap opens (next_is s u (v ++ t) at a) ∙ b)
    (claim n s (at + length u) t (rest_is s u (v ++ t) at a) h o) ∙ ap (Good (Then p q)) z
claim (alone {d} {p} {s = u} m) = λ s at t e h o n. eq_group_end s at d p (at + length u) (claim m s at t e h o) (λ x. n (sym (next_is s u t at e) ∙ x))
claim (barred {d} {p} {q} {s = u} {t = v} m n) = λ s at t e h o k.
    let a : drop at s ≡ u ++ (124 ∷ (v ++ t)) = e ∙ append_assoc u (124 ∷ v) t in
    let l = length-append u (124 ∷ v) in
    let z : at + length u + 1 + length v ≡ at + length (u ++ (124 ∷ v)) = omega arith in
    eq_group_join s at d p (at + length u) (claim m s at (124 ∷ (v ++ t)) a refl refl) q (at + length u + 1 + length v) (next_is s u (124 ∷ (v ++ t)) at a)
    (claim n s (at + length u + 1) t (past_is s (v ++ t) (at + length u) 124 (rest_is s u (124 ∷ (v ++ t)) at a)) h o k) ∙ ap (Good (Or p q)) z

of_spelled : (s : List ℕ) (d : ℕ) (k : Kind) (r : Parsed) (p : Pattern) → Spelled s 0 d k r → r ≡ Good p (length s) → Spells k d p s
of_spelled s d k r p (spelled {p = q} {e = e} u a m) h =
    let x : e ≡ length s = cc in
    let y : q ≡ p = cc in
    let z : s ≡ u = a ∙ ap (λ (i : ℕ). u ++ drop i s) x ∙ ap (λ (l : List ℕ). u ++ l) (drop_of_length-le s {i = length s} (omega arith)) ∙ append-nil u in
    subst (λ (l : List ℕ). Spells k d p l) (sym z) (subst (λ (i : Pattern). Spells k d i u) y m)
of_spelled s d k r p unspelled h = let z : ◌≡◌ {A = ℕ} 0 1 = cc in absurd (omega arith)

-- THE LAW OF THE LINE: the whole line is read as p exactly if the grammar spells p by it
pub line_spells : (s : List ℕ) (d : ℕ) (p : Pattern) → (parse group s 0 d ≡ Good p (length s)) ↔ Spells aGroup d p s
unfolding parse is_letter
line_spells s d p = (
  λ h. of_spelled s d aGroup (parse group s 0 d) p (within_spelled (length s * 3 + 3) group s 0 d) h,
  λ m. let z : 0 + length s ≡ length s = omega arith in claim m s 0 [] (sym (append-nil s)) refl refl (λ x. absurd (omega arith)) ∙ ap (Good p) z,
)
