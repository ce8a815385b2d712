-- The values of a drawn line, read one by one into a slice. Assumes nothing.
use mathlib.Core.Path.{◌≡◌, refl, ap, sym, ◌∙◌}
use mathlib.Core.Bool.{true}
use mathlib.Core.List.{List, [], ◌∷◌, ◌++◌, append_assoc}
use Prim.Native.Nat.{ℕ, zero, suc, ◌+◌, ◌-◌, ◌≤◌, ◌<◌}
use native.Mathlib.Numerals.{add-one}
use native.Mathlib.Omega.{arith}
use lib.ListN.{length, take, drop, set, length-set, drop_of_length-le}
use lib.Seq.{take-suc-set, set_split}
use Rattle.std.specs.Prelude.{Result, Ok, Err}
use Rattle.meaning.proofs.Members.{Below}
use Rattle.rules.proofs.Checks.{never}
use Rattle.text.specs.Numbers.{read_number, read_field, NumberAt}
use Rattle.text.specs.Lines.{Judged, rest, strip, on_field, on_judged, ending, sealed, close, number_fault}
use Rattle.text.specs.declared.numbers.Number.{Number}
use Rattle.text.specs.declared.numbers.NumberFault.{NumberFault}
use Rattle.text.proofs.Decimals.{number_read, field_read}
use Rattle.text.proofs.Judging.{on_field_right, close_right, on_strip_right, strip_right, number_right, number_wrong}
use Rattle.job.specs.Mend.{drawn_word, read_values, read_drawn}

-- values before those that are read
abbrev with_values : List ℕ → Judged (List ℕ) → Judged (List ℕ)
with_values p (Ok w) = Ok (p ++ w)
with_values p (Err f) = Err f

with_none : (x : Judged (List ℕ)) → x ≡ with_values [] x
with_none (Ok w) = refl
with_none (Err f) = refl

with_one : (p : List ℕ) (u : ℕ) (y : Judged (List ℕ)) → with_values p (on_judged y (λ w. Ok (u ∷ w)) Err) ≡ with_values (p ++ u ∷ []) y
with_one p u (Ok w) = ap Ok (sym (append_assoc p (u ∷ []) w))
with_one p u (Err f) = refl

with_last : (p w : List ℕ) (e : Judged Unit) → with_values p (sealed w e) ≡ sealed (p ++ w) e
with_last p w (Ok u) = refl
with_last p w (Err f) = refl

-- a value that others follow, and the last
values_many : (v k : ℕ) (s : List ℕ) → 1 < k → read_values v k s ≡ on_field (read_field 0 (v - 1) s) (λ u t. on_judged (read_values v (k - 1) t) (λ w. Ok (u ∷ w)) Err)
unfolding read_values
values_many v zero s h = absurd (omega arith)
values_many v (suc zero) s h = absurd (omega arith)
values_many v (suc (suc k)) s h = let e : suc (suc k) - 1 ≡ suc k = omega arith in rw e

values_one : (v k : ℕ) (s : List ℕ) → k ≡ 1 → read_values v k s ≡ on_field (read_number 0 (v - 1) s) (λ u t. close true (u ∷ []) t)
unfolding read_values
values_one v k s h = rw h

-- the values of the places before i are read, and the next one stands at `at`
pub record Drawing (x : Judged (List ℕ)) (line : List ℕ) (v n : ℕ) (drawn : List ℕ) (at i : ℕ) : Type 0 where
  pub inside : i < n
  pub same : length drawn ≡ n
  pub reads : x ≡ with_values (take i drawn) (read_values v (n - i) (drop at line))

pub drawing_start : (line : List ℕ) (v n : ℕ) (drawn : List ℕ) → 1 ≤ n → length drawn ≡ n → strip drawn_word line ≡ rest (drop 6 line) → Drawing (read_drawn n v line) line v n drawn 6 0
unfolding read_drawn
drawing_start line v n drawn h k e =
    let z : n - 0 ≡ n = omega arith in
    record { inside = omega arith; same = k; reads = strip_right line drawn_word _ (read_values v n) _ e ∙ (with_none _ ∙ ap (λ (j : ℕ). with_values [] (read_values v j (drop 6 line))) (sym z)) }

module _ (x : Judged (List ℕ)) (line : List ℕ) (v n : ℕ) (drawn : List ℕ) (at i : ℕ) (g : Drawing x line v n drawn at i) (r : Result Number NumberFault) where
  module _ (f : NumberAt (read_field 0 (v - 1) (drop at line)) line r) (more : i < n - 1) where
    pub field_fails : (o : NumberFault) → r ≡ Err o → Err (number_fault o) ≡ x
    field_fails o d = sym (g.reads ∙ ap (with_values (take i drawn)) (values_many v (n - i) (drop at line) (omega arith) ∙ number_wrong line _ r f _ o d))

    pub field_goes : (m : Number) → r ≡ Ok m → Drawing x line v n (set drawn i m.value) m.end (i + 1)
    field_goes m e =
        let u = m.value in
        let end = m.end in
        let z : n - i - 1 ≡ n - (i + 1) = omega arith in
        let t : take (i + 1) (set drawn i u) ≡ take i drawn ++ u ∷ [] = ap (λ (j : ℕ). take j (set drawn i u)) (add-one i) ∙ take-suc-set drawn i u (omega (arith, g.same, g.inside)) in
        record {
          inside = omega arith;
          same = length-set drawn i u ∙ g.same;
          reads = g.reads
              ∙ (ap (with_values (take i drawn)) (values_many v (n - i) (drop at line) (omega arith) ∙ number_right line _ r f _ m e)
              ∙ (with_one (take i drawn) u (read_values v (n - i - 1) (drop end line))
              ∙ (ap (λ (j : ℕ). with_values (take i drawn ++ u ∷ []) (read_values v j (drop end line))) z
              ∙ ap (λ (p : List ℕ). with_values p (read_values v (n - (i + 1)) (drop end line))) (sym t))));
        }

  module _ (f : NumberAt (read_number 0 (v - 1) (drop at line)) line r) (last : n - 1 ≤ i) where
    pub number_fails : (o : NumberFault) → r ≡ Err o → Err (number_fault o) ≡ x
    number_fails o d = sym (g.reads ∙ ap (with_values (take i drawn)) (values_one v (n - i) (drop at line) (omega (arith, g.inside)) ∙ number_wrong line _ r f _ o d))

    pub number_goes : (m : Number) (j : ℕ) → r ≡ Ok m → j ≡ n - 1 → (e : Judged Unit) → e ≡ ending true (drop m.end line) → sealed (set drawn j m.value) e ≡ x
    number_goes m j d k e h =
        let u = m.value in
        let end = m.end in
        let z : j ≡ i = omega (arith, g.inside) in
        let t : set drawn i u ≡ take i drawn ++ u ∷ [] = set_split drawn i u (omega (arith, g.same, g.inside)) ∙ ap (λ (y : List ℕ). take i drawn ++ u ∷ y) (drop_of_length-le drawn {i = suc i} (omega (arith, g.same, g.inside))) in
        sym (g.reads
        ∙ (ap (with_values (take i drawn)) (values_one v (n - i) (drop at line) (omega (arith, g.inside)) ∙ number_right line _ r f _ m d)
        ∙ (with_last (take i drawn) (u ∷ []) (ending true (drop end line))
        ∙ (ap (sealed (take i drawn ++ u ∷ [])) (sym h)
        ∙ ap (λ (y : List ℕ). sealed y e) (sym t ∙ ap (λ (l : ℕ). set drawn l u) (sym z))))))

-- the values that are read are in range, and as many as there are places
pub values_in : (v n : ℕ) (s w : List ℕ) → read_values v n s ≡ Ok w → (length w ≡ n) × Below (suc (v - 1)) w
unfolding read_values
values_in v zero s w e = never cc
values_in v (suc zero) s w e =
    let (u, t, e0, f0) = on_field_right (read_number 0 (v - 1) s) _ w e in
    let c = close_right true (u ∷ []) w t f0 in
    rw (← c.2) (refl, (omega (arith, (number_read 0 (v - 1) s u t e0).high), tt))
values_in v (suc (suc n)) s w e =
    let (u, t, e0, f0) = on_field_right (read_field 0 (v - 1) s) _ w e in
    go (read_values v (suc n) t) u (omega (arith, (field_read 0 (v - 1) s u t e0).high)) (λ x h. values_in v (suc n) t x h) f0
  where
    go : (y : Judged (List ℕ)) (u : ℕ) → u < suc (v - 1) → ((x : List ℕ) → y ≡ Ok x → (length x ≡ suc n) × Below (suc (v - 1)) x) → on_judged y (λ x. Ok (u ∷ x)) Err ≡ Ok w
        → (length w ≡ suc (suc n)) × Below (suc (v - 1)) w
    go (Ok x) u h rec k = let d : u ∷ x ≡ w = cc in rw (← d) (ap suc (rec x refl).0, (h, (rec x refl).1))
    go (Err f) u h rec k = never cc

pub drawn_in : (v n : ℕ) (l w : List ℕ) → read_drawn n v l ≡ Ok w → (length w ≡ n) × Below (suc (v - 1)) w
unfolding read_drawn
drawn_in v n l w e = let (s, e0, f0) = on_strip_right (strip drawn_word l) (read_values v n) w e in values_in v n s w f0
