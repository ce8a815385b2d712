-- Laws of a list that is written over the beginning of a table. Assumes nothing.
use mathlib.Core.Path.{◌≡◌, refl, sym, ap, ◌∙◌}
use mathlib.Core.List.{List, [], ◌∷◌, ◌++◌}
use Prim.Native.Nat.{ℕ, suc, ◌≤◌, ◌<◌}
use native.Mathlib.Omega.{arith}
use lib.ListN.{length, get_or, set, take, drop, length-append, take-append-drop, get_or-append}
use lib.Seq.{drop-cons, set_at, append_snoc, take-append_seam, drop-append-add, drop-drop, length-take-le}
use Rattle.numbering.specs.Numbering.{over}

pub over_none : (t : List ℕ) → t ≡ over [] t
unfolding over
over_none t = refl

pub over_more : (xs t : List ℕ) (k x : ℕ) → length xs ≡ k → k < length t → set (over xs t) k x ≡ over (xs ++ (x ∷ [])) t
unfolding over
over_more xs t k x e h =
    let l = length-append xs (x ∷ []) in
    let n : length (xs ++ (x ∷ [])) ≡ suc k = omega arith in
    ap (λ (l : List ℕ). set (xs ++ l) k x) (ap (λ (i : ℕ). drop i t) e ∙ drop-cons t k 0 h)
    ∙ set_at xs (get_or t k 0) (drop (suc k) t) x k e
    ∙ sym (append_snoc xs x (drop (suc k) t))
    ∙ ap (λ (i : ℕ). (xs ++ (x ∷ [])) ++ drop i t) (sym n)

pub over_length : (xs t : List ℕ) → length xs ≤ length t → length (over xs t) ≡ length t
unfolding over
over_length xs t h =
    let p = ap length (take-append-drop (length xs) t) in
    let q = length-append (take (length xs) t) (drop (length xs) t) in
    let r = length-take-le (length xs) t h in
    length-append xs (drop (length xs) t) ∙ omega arith

-- what was written before stays
pub over_over : (xs ys t : List ℕ) (k : ℕ) → length xs ≡ k → over (take k (over xs t) ++ ys) (over xs t) ≡ over (xs ++ ys) t
unfolding over
over_over xs ys t k e =
    let a : take k (xs ++ drop (length xs) t) ≡ xs = ap (λ (i : ℕ). take i (xs ++ drop (length xs) t)) (sym e) ∙ take-append_seam xs (drop (length xs) t) in
    ap (λ (l : List ℕ). (l ++ ys) ++ drop (length (l ++ ys)) (xs ++ drop (length xs) t)) a
    ∙ ap (λ (l : List ℕ). (xs ++ ys) ++ l)
    (ap (λ (i : ℕ). drop i (xs ++ drop (length xs) t)) (length-append xs ys)
    ∙ drop-append-add xs (drop (length xs) t) (length ys)
    ∙ drop-drop (length ys) (length xs) t
    ∙ ap (λ (i : ℕ). drop i t) (sym (length-append xs ys)))

-- where it was written, and nowhere else
pub over_at : (xs t : List ℕ) (i : ℕ) → i < length xs → get_or (over xs t) i 0 ≡ get_or xs i 0
unfolding over
over_at xs t i h = get_or-append xs (drop (length xs) t) 0 i h
