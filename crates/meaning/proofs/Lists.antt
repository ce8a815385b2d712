-- The laws of the words for lists. Assumes nothing.
use mathlib.Core.Path.{◌≡◌, refl, sym, ap, ◌∙◌}
use mathlib.Core.Bool.{Bool, true, false, cond, ◌&&◌, ◌||◌, false≢true, or_assoc, or-false}
use mathlib.Core.Logic.{◌⊎◌, inl, inr, ⊎_elim}
use mathlib.Core.List.Memᴰ
use mathlib.Core.List.{List, [], ◌∷◌, map, ◌++◌, append_assoc, append-nil}
use mathlib.Core.List.Memᴰ.{append_cases}
use mathlib.Core.List.Memᴰ.{cases_cons as cases}
use mathlib.Core.List.Memᴰ.{head}
use mathlib.Core.List.Memᴰ.{not-nil}
use mathlib.Core.List.Memᴰ.{tail}
use mathlib.Core.List.{Memᴰ as In}
use Prim.Native.Nat.{ℕ, zero, suc, ◌+◌, ◌≤◌, ◌<◌, ◌*◌, ◌/◌, ◌%◌}
use native.Mathlib.Omega.{arith}
use native.Mathlib.Decide.{ℕ_discrete}
use Rattle.meaning.specs.Lists.{from, each, those, any, some, Filled}
use lib.Arith.{digits_div, digits_mod}
use lib.ListN.{length, get_or, set}
use lib.Seq.{get_or-set_same, get_or-set_other}

module _ {A : Type 0} where
  -- one of those that f picks is in the list, and f picks it
  pub those_in : (f : A → Bool) (xs : List A) {x : A} → In x (those f xs) → In x xs × (f x ≡ true)
  those_in f [] m = absurd (not-nil m)
  those_in f (y ∷ xs) {x} m = go (f y) refl (λ k. those_in f xs k) m
    where
      go : (b : Bool) → f y ≡ b → (In x (those f xs) → In x xs × (f x ≡ true)) → In x (cond b (y ∷ those f xs) (those f xs))
          → In x (y ∷ xs) × (f x ≡ true)
      go true e rec m = ⊎_elim (λ p. (head p, ap f p ∙ e)) (λ k. (tail (rec k).0, (rec k).1)) (cases m)
      go false e rec m = (tail (rec m).0, (rec m).1)

  -- what is in the list, and f picks, is one of those
  pub in_those : (f : A → Bool) {x : A} {xs : List A} → In x xs → f x ≡ true → In x (those f xs)
  in_those f (head p) h = rw (ap f (sym p) ∙ h) (head p)
  in_those f {x} (tail {x = y} {xs} m) h = go (f y) (in_those f m h)
    where
      go : (b : Bool) → In x (those f xs) → In x (cond b (y ∷ those f xs) (those f xs))
      go true k = tail k
      go false k = k

  -- picking twice is picking by both
  pub those_those : (f g : A → Bool) (xs : List A) → those f (those g xs) ≡ those (λ x. g x && f x) xs
  those_those f g [] = refl
  those_those f g (x ∷ xs) = go (g x) (those_those f g xs)
    where
      go : (b : Bool) → those f (those g xs) ≡ those (λ x. g x && f x) xs
          → those f (cond b (x ∷ those g xs) (those g xs)) ≡ cond (b && f x) (x ∷ those (λ x. g x && f x) xs) (those (λ x. g x && f x) xs)
      go true h = ap (λ (l : List A). cond (f x) (x ∷ l) l) h
      go false h = h

  -- tests that agree on the list pick the same
  pub those_same : (f g : A → Bool) (xs : List A) → ((x : A) → In x xs → f x ≡ g x) → those f xs ≡ those g xs
  those_same f g [] h = refl
  those_same f g (x ∷ xs) h = rw (h x (head refl), those_same f g xs (λ y m. h y (tail m)))

  -- if f picks any, there is one that it picks
  pub any_in : (f : A → Bool) (xs : List A) → any f xs ≡ true → (x : A) × In x xs × (f x ≡ true)
  any_in f [] h = absurd (false≢true h)
  any_in f (x ∷ xs) h = go (f x) refl h (λ k. any_in f xs k)
    where
      go : (b : Bool) → f x ≡ b → (b || any f xs) ≡ true → (any f xs ≡ true → (x : A) × In x xs × (f x ≡ true))
          → (y : A) × In y (x ∷ xs) × (f y ≡ true)
      go true e h rec = (x, head refl, e)
      go false e h rec = let r = rec h in (r.0, tail r.1, r.2)

  -- if f picks one of the list, it picks any
  pub in_any : (f : A → Bool) {x : A} {xs : List A} → In x xs → f x ≡ true → any f xs ≡ true
  in_any f (head p) h = rw (ap f (sym p) ∙ h)
  in_any f (tail {x = y} {xs} m) h = go (f y) (in_any f m h)
    where
      go : (b : Bool) → any f xs ≡ true → (b || any f xs) ≡ true
      go true k = refl
      go false k = k

  -- there is one exactly if the list has some
  pub some_in : (xs : List A) → some xs ≡ true → (x : A) × In x xs
  some_in [] h = absurd (false≢true h)
  some_in (x ∷ xs) h = (x, head refl)

  pub in_some : {x : A} {xs : List A} → In x xs → some xs ≡ true
  in_some (head p) = refl
  in_some (tail m) = refl

  -- a list, as a map of itself
  pub map_all : (xs : List A) → xs ≡ map (λ x. x) xs
  map_all [] = refl
  map_all (x ∷ xs) = ap (λ (l : List A). x ∷ l) (map_all xs)

module _ {A B : Type 0} where
  -- functions that agree on the list send it to the same
  pub map_same : (f g : A → B) (xs : List A) → ((x : A) → In x xs → f x ≡ g x) → map f xs ≡ map g xs
  map_same f g [] h = refl
  map_same f g (x ∷ xs) h = rw (h x (head refl), map_same f g xs (λ y m. h y (tail m)))

  -- two maps one upon the other
  pub map_two : {C : Type 0} (f : B → C) (g : A → B) (h : A → C) (xs : List A) → ((x : A) → f (g x) ≡ h x) → map f (map g xs) ≡ map h xs
  map_two f g h [] e = refl
  map_two f g h (x ∷ xs) e = rw (e x, map_two f g h xs e)

  -- what is in the joined lists is in the list of one of them
  pub each_in : (f : A → List B) (xs : List A) {y : B} → In y (each f xs) → (x : A) × In x xs × In y (f x)
  each_in f [] m = absurd (not-nil m)
  each_in f (x ∷ xs) {y} m = go (append_cases (f x) m) (λ k. each_in f xs k)
    where
      go : In y (f x) ⊎ In y (each f xs) → (In y (each f xs) → (x : A) × In x xs × In y (f x)) → (z : A) × In z (x ∷ xs) × In y (f z)
      go (inl k) rec = (x, head refl, k)
      go (inr k) rec = let r = rec k in (r.0, tail r.1, r.2)

  -- what is in the list of one of them is in the joined lists
  pub in_each : (f : A → List B) {x : A} {xs : List A} {y : B} → In x xs → In y (f x) → In y (each f xs)
  in_each f {x} {y = y} (head {x = z} {xs} p) k = Memᴰ.append_left (each f xs) (rw p at k)
  in_each f (tail {x = z} m) k = Memᴰ.append_right (f z) (in_each f m k)

-- the numbers from i on, n in all, lie from i to below i + n
pub from_in : (i n : ℕ) {v : ℕ} → In v (from i n) → (i ≤ v) × (v < i + n)
from_in i zero m = absurd (not-nil m)
from_in i (suc n) {v} m = go (cases m) (λ k. from_in (suc i) n k)
  where
    go : (v ≡ i) ⊎ In v (from (suc i) n) → (In v (from (suc i) n) → (suc i ≤ v) × (v < suc i + n)) → (i ≤ v) × (v < i + suc n)
    go (inl e) rec = (omega arith, omega arith)
    go (inr k) rec = let r = rec k in (omega arith, omega arith)

-- each number from i to below i + n is one of them
pub in_from : (i n v : ℕ) → i ≤ v → v < i + n → In v (from i n)
in_from i zero v h k = absurd (omega arith)
in_from i (suc n) v h k = go (ℕ_discrete v i) (λ p. in_from (suc i) n v p (omega arith))
  where
    go : Dec (v ≡ i) → (suc i ≤ v → In v (from (suc i) n)) → In v (i ∷ from (suc i) n)
    go (yes e) rec = head e
    go (no e) rec = tail (rec (omega arith))

-- two tests that follow from each other are equal
pub both_ways : (a b : Bool) → (a ≡ true → b ≡ true) → (b ≡ true → a ≡ true) → a ≡ b
both_ways true b f g = sym (f refl)
both_ways false true f g = g refl
both_ways false false f g = refl

-- lists joined
pub any_append : {A : Type 0} (f : A → Bool) (xs ys : List A) → any f (xs ++ ys) ≡ (any f xs || any f ys)
any_append f [] ys = refl
any_append f (x ∷ xs) ys = ap (λ (b : Bool). f x || b) (any_append f xs ys) ∙ sym (or_assoc (f x) (any f xs) (any f ys))

pub each_append : {A B : Type 0} (f : A → List B) (xs ys : List A) → each f (xs ++ ys) ≡ each f xs ++ each f ys
each_append f [] ys = refl
each_append f (x ∷ xs) ys = rw (each_append f xs ys) (sym (append_assoc (f x) (each f xs) (each f ys)))

pub each_each : {A B C : Type 0} (f : B → List C) (g : A → List B) (xs : List A) → each f (each g xs) ≡ each (λ x. each f (g x)) xs
each_each f g [] = refl
each_each f g (x ∷ xs) = each_append f (g x) (each g xs) ∙ ap (λ (l : List _). each f (g x) ++ l) (each_each f g xs)

-- over the numbers from i on
pub each_same : {B : Type 0} (f g : ℕ → List B) (i n : ℕ) → ((k : ℕ) → i ≤ k → k < i + n → f k ≡ g k) → each f (from i n) ≡ each g (from i n)
each_same f g i zero e = refl
each_same f g i (suc n) e = rw (e i (omega arith) (omega arith), each_same f g (suc i) n (λ k a b. e k (omega arith) (omega arith)))

from_append : (i m n : ℕ) → from i (m + n) ≡ from i m ++ from (i + m) n
from_append i zero n = let a : 0 + n ≡ n = omega arith in let b : i + 0 ≡ i = omega arith in rw (a, b)
from_append i (suc m) n =
    let a : suc m + n ≡ suc (m + n) = omega arith in
    let b : i + suc m ≡ suc i + m = omega arith in
    rw (a, b, from_append (suc i) m n)

pub each_more : {B : Type 0} (f : ℕ → List B) (n : ℕ) → each f (from 0 (n + 1)) ≡ each f (from 0 n) ++ f n
each_more f n =
    let e : 0 + n ≡ n = omega arith in
    rw (from_append 0 n 1, e) (each_append f (from 0 n) (n ∷ []) ∙ ap (λ (l : List _). each f (from 0 n) ++ l) (append-nil (f n)))

pub any_more : (f : ℕ → Bool) (n : ℕ) → any f (from 0 (n + 1)) ≡ (any f (from 0 n) || f n)
any_more f n =
    let e : 0 + n ≡ n = omega arith in
    rw (from_append 0 n 1, e) (any_append f (from 0 n) (n ∷ []) ∙ ap (λ (b : Bool). any f (from 0 n) || b) (or-false (f n)))

-- the n numbers from i on, each sent through f, are n
pub length_from : (f : ℕ → ℕ) (i n : ℕ) → length (map f (from i n)) ≡ n
length_from f i zero = refl
length_from f i (suc n) = ap suc (length_from f (suc i) n)

-- the number at i of those from k on, each sent through f
pub at_from : (f : ℕ → ℕ) (k n i : ℕ) → i < n → get_or (map f (from k n)) i 0 ≡ f (k + i)
at_from f k zero i h = absurd (omega arith)
at_from f k (suc n) zero h = ap f (omega arith)
at_from f k (suc n) (suc i) h = at_from f (suc k) n i (omega arith) ∙ ap f (omega arith)

-- pairs counted by one number
module _ {B : Type 0} (g : ℕ → ℕ → List B) (v : ℕ) where
  row_flat : (q j m : ℕ) → j + m ≤ v → each (λ k. g (k / v) (k % v)) (from (q * v + j) m) ≡ each (g q) (from j m)
  row_flat q j zero h = refl
  row_flat q j (suc m) h =
      let e : suc (q * v + j) ≡ q * v + suc j = omega arith in
      let l : j < v = omega arith in
      rw (e, digits_div q l, digits_mod q l, row_flat q (suc j) m (omega arith))

  rows_flat : (q n : ℕ) → each (λ p. each (g p) (from 0 v)) (from q n) ≡ each (λ k. g (k / v) (k % v)) (from (q * v) (n * v))
  rows_flat q zero = let z : 0 * v ≡ 0 = omega arith in rw z
  rows_flat q (suc n) =
      let a : suc n * v ≡ v + n * v = omega arith in
      let b : q * v + v ≡ suc q * v = omega arith in
      let z : q * v + 0 ≡ q * v = omega arith in
      rw (a, from_append (q * v) v (n * v), b)
      (sym (each_append (λ k. g (k / v) (k % v)) (from (q * v) v) (from (suc q * v) (n * v))
      ∙ rw (sym (rows_flat (suc q) n), ← z) (ap (λ (l : List B). l ++ each (λ p. each (g p) (from 0 v)) (from (suc q) n)) (row_flat q 0 v (omega arith)))))

  pub pairs_flat : (n : ℕ) → each (λ p. each (g p) (from 0 v)) (from 0 n) ≡ each (λ k. g (k / v) (k % v)) (from 0 (n * v))
  pairs_flat n = let z : 0 * v ≡ 0 = omega arith in rw z at (rows_flat 0 n)

-- a list filled from the front, number by number
pub filled_none : (f : ℕ → ℕ) (was : List ℕ) → Filled f 0 was was
filled_none f was = record { done = λ k h. absurd (omega arith); left = λ k h. refl }

pub filled_same : (n : ℕ) (was : List ℕ) → Filled (λ k. get_or was k 0) n was was
filled_same n was = record { done = λ k h. refl; left = λ k h. refl }

pub filled_more : {f : ℕ → ℕ} {n : ℕ} {was is : List ℕ} (x : ℕ) → n < length is → Filled f n was is → x ≡ f n → Filled f (n + 1) was (set is n x)
filled_more {f} {n} {was} {is} x h r e = record { done = λ k l. go k l (ℕ_discrete k n); left = λ k l. get_or-set_other is n k x 0 (λ d. omega arith) ∙ r.left k (omega arith) }
  where
    go : (k : ℕ) → k < n + 1 → Dec (k ≡ n) → get_or (set is n x) k 0 ≡ f k
    go k l (yes d) = rw d (get_or-set_same is n x 0 h ∙ e)
    go k l (no d) = get_or-set_other is n k x 0 d ∙ r.done k (omega arith)

pub filled_end : {f : ℕ → ℕ} {i n : ℕ} {was is : List ℕ} → Filled f i was is → i ≤ n → n ≤ i → Filled f n was is
filled_end {f} {i} {n} r h k = let e : i ≡ n = omega arith in rw e at r
