-- The numbering's order, by rows. Assumes nothing.
use mathlib.Core.Path.{◌≡◌, refl, sym, ap, ◌∙◌}
use mathlib.Core.List.{List, [], ◌∷◌, ◌++◌, append-nil}
use Prim.Native.Nat.{ℕ, zero, suc, ◌≤◌, ◌<◌}
use native.Mathlib.Omega.{arith}
use native.Mathlib.Decide.{dec_lt}
use lib.ListN.{length, get_or, take}
use lib.Seq.{take-suc, take-append-le, take_all}
use Rattle.meaning.specs.Lists.{each}
use Rattle.numbering.specs.Numbering.{meet, meets, met, row_of}
use Rattle.numbering.proofs.Numbering.{Grown, met_grown, met_more, met_same}
use Rattle.meaning.proofs.Lists.{each_append}

pub meets_append : (cs xs ys : List ℕ) → meets cs (xs ++ ys) ≡ meets (meets cs xs) ys
unfolding meets
meets_append cs [] ys = refl
meets_append cs (x ∷ xs) ys = meets_append (meet cs x) xs ys

pub grown_take : (k : ℕ) {xs zs : List ℕ} → Grown xs zs → k ≤ length xs → take k zs ≡ take k xs
grown_take k {xs} g h = ap (take k) g.same ∙ take-append-le k xs g.more h

-- THE LAW OF THE ORDER: the list is what is met when the list itself is gone through in its order, each configuration's row by rising value
pub met_order : (next : ℕ → ℕ → ℕ) (vs start k : ℕ) → met next vs start k ≡ meets (start ∷ []) (each (row_of next vs) (take k (met next vs start k)))
unfolding met meets
met_order next vs start zero = refl
met_order next vs start (suc k) = go (dec_lt k (length (met next vs start k))) (met_order next vs start k)
  where
    go : Dec (k < length (met next vs start k)) → met next vs start k ≡ meets (start ∷ []) (each (row_of next vs) (take k (met next vs start k)))
        → met next vs start (suc k) ≡ meets (start ∷ []) (each (row_of next vs) (take (suc k) (met next vs start (suc k))))
    go (yes h) rec =
        let t : take (suc k) (met next vs start (suc k)) ≡ take k (met next vs start k) ++ (get_or (met next vs start k) k 0 ∷ [])
        = grown_take (suc k) (met_grown next vs start k) h ∙ take-suc (met next vs start k) k 0 h in
        met_more next vs start k h
        ∙ ap (λ (cs : List ℕ). meets cs (row_of next vs (get_or (met next vs start k) k 0))) rec
        ∙ sym (meets_append (start ∷ []) (each (row_of next vs) (take k (met next vs start k))) (row_of next vs (get_or (met next vs start k) k 0)))
        ∙ ap (meets (start ∷ []))
        (ap (λ (l : List ℕ). each (row_of next vs) (take k (met next vs start k)) ++ l) (sym (append-nil (row_of next vs (get_or (met next vs start k) k 0))))
        ∙ sym (each_append (row_of next vs) (take k (met next vs start k)) (get_or (met next vs start k) k 0 ∷ [])))
        ∙ ap (λ (l : List ℕ). meets (start ∷ []) (each (row_of next vs) l)) (sym t)
    go (no h) rec =
        met_same next vs start k (omega arith) ∙ rec
        ∙ ap (λ (l : List ℕ). meets (start ∷ []) (each (row_of next vs) l))
        (take_all k (met next vs start k) (omega arith) ∙ sym (take_all (suc k) (met next vs start k) (omega arith)) ∙ ap (take (suc k)) (sym (met_same next vs start k (omega arith))))
