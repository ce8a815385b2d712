-- The values of a mask, one after the other, the smallest first.
use mathlib.Core.Path.{◌≡◌, refl, sym, ap, ◌∙◌, subst}
use mathlib.Core.Bool.{Bool, true, false, cond, not, ◌&&◌, and-true, and-false}
use mathlib.Core.List.{List, [], ◌∷◌, ◌++◌, append_assoc, append-nil}
use Prim.Native.Nat.{ℕ, zero, suc, ◌^◌, ◌≤◌, ◌<◌}
use native.Mathlib.Decide.{ℕ_discrete, dec_lt}
use native.Mathlib.Omega.{arith}
use lib.Dec.{eqb, ltb}
use borrow.Author.Tests.{eq-eqb, ne_eqb, lt-ltb, le-ltb}
use Rattle.kinds.specs.Bits.{width, bit, mask_of, smallest_of, rest_of}
use Rattle.kinds.proofs.Bits.{bit_none, bit_mask}
use Rattle.kinds.proofs.Lowest.{smallest_least, smallest_none, smallest_set, smallest_few, rest_few, rest_has, rest_less, rest_none}
use Rattle.rooms.specs.Tables.{down, choices, up_to_none}

-- no bit, no value; the same bits, the same values
choices_none : (k m : ℕ) → ((u : ℕ) → u < k → bit m u ≡ false) → choices k m ≡ []
unfolding choices down
choices_none zero m h = refl
choices_none (suc k) m h = rw (h k (omega arith), choices_none k m (λ u l. h u (omega arith)))

choices_same : (k m x : ℕ) → ((u : ℕ) → u < k → bit x u ≡ bit m u) → choices k m ≡ choices k x
unfolding choices down
choices_same zero m x h = refl
choices_same (suc k) m x h = rw (h k (omega arith), choices_same k m x (λ u l. h u (omega arith)))

-- the values below vs of a mask, in the mask that has no others
choices_cut : (k vs m x : ℕ) → vs ≤ k → ((u : ℕ) → u < k → bit x u ≡ (bit m u && ltb u vs)) → choices vs m ≡ choices k x
unfolding choices down
choices_cut zero vs m x h e = let d : vs ≡ 0 = omega arith in rw d
choices_cut (suc k) vs m x h e = go (dec_lt k vs) (λ l. choices_cut k vs m x l (λ u b. e u (omega arith)))
  where
    go : Dec (k < vs) → (vs ≤ k → choices vs m ≡ choices k x) → choices vs m ≡ choices (suc k) x
    go (yes l) ih = let d : vs ≡ suc k = omega arith in rw d (choices_same (suc k) m x (λ u b. e u b ∙ (rw (lt-ltb u vs (omega arith)) (and-true (bit m u)))))
    go (no l) ih = rw (e k (omega arith), le-ltb k vs (omega arith), and-false (bit m k)) (ih (omega arith))

-- the smallest value stands last, since it was looked at first
choices_last : (k m r v : ℕ) → v < k → bit m v ≡ true → ((u : ℕ) → u < v → bit m u ≡ false) → ((u : ℕ) → u < k → bit r u ≡ (bit m u && not (eqb u v))) → choices k m ≡ choices k r ++ (v ∷ [])
unfolding choices down
choices_last zero m r v h s l e = absurd (omega arith)
choices_last (suc k) m r v h s l e = go (ℕ_discrete k v) (λ h. choices_last k m r v h s l (λ u b. e u (omega arith)))
  where
    step : (b : Bool) → choices k m ≡ choices k r ++ (v ∷ []) → cond b (k ∷ choices k m) (choices k m) ≡ cond b (k ∷ choices k r) (choices k r) ++ (v ∷ [])
    step true i = rw i
    step false i = i

    go : Dec (k ≡ v) → (v < k → choices k m ≡ choices k r ++ (v ∷ [])) → choices (suc k) m ≡ choices (suc k) r ++ (v ∷ [])
    go (yes d) ih =
        rw (e k (omega arith), eq-eqb k v d, and-false (bit m k), choices_none k r (λ u b. e u (omega arith) ∙ rw (l u (omega arith))), d, s, choices_none v m l)
    go (no d) ih = rw (e k (omega arith), ne_eqb k v d, and-true (bit m k)) (step (bit m k) (ih (omega arith)))

-- PICKED: the smallest value of a mask, and what is left
pub record Picked (m v r : ℕ) : Type 0 where
  pub few : m < 2 ^ width
  pub smallest : v ≡ smallest_of m
  pub rest : r ≡ rest_of m

-- the empty mask has no value
choices_end : {m : ℕ} → m ≡ 0 → choices width m ≡ []
choices_end {m} e = choices_none width m (λ u l. rw (e, bit_none u))

module _ {m v r : ℕ} (p : Picked m v r) where
  -- the next value
  pub picked_on : {v' r' : ℕ} → v' ≡ smallest_of r → r' ≡ rest_of r → Picked r v' r'
  picked_on e d = record { few = rw p.rest (rest_few m); smallest = e; rest = d }

  -- where something is left, a value was picked
  pub picked_some : (r ≡ 0 → ⊥) → m ≡ 0 → ⊥
  picked_some h z = h (p.rest ∙ (sym (rest_none m z) ∙ z))

  module _ (some : m ≡ 0 → ⊥) where
    pub picked_few : v < width
    picked_few = rw p.smallest (smallest_few m some p.few)

    pub picked_less : r < m
    picked_less = rw p.rest (rest_less m some p.few)

    pub picked_last : choices width m ≡ choices width r ++ (v ∷ [])
    picked_last = rw (p.smallest, p.rest) (choices_last width m (rest_of m) (smallest_of m) (smallest_few m some p.few) (smallest_set m some p.few) (smallest_least m) (rest_has m))

  -- until there is none
  pub picked_more : (vs : List ℕ) → choices width r ≡ up_to_none vs → choices width m ≡ up_to_none (v ∷ vs)
  unfolding up_to_none
  picked_more vs h = go (ℕ_discrete m 0)
    where
      go : Dec (m ≡ 0) → choices width m ≡ cond (ltb v width) (up_to_none vs ++ (v ∷ [])) []
      go (yes z) = rw (le-ltb v width (omega (arith, p.smallest, smallest_none m z))) (choices_end z)
      go (no z) = rw (lt-ltb v width (picked_few z), ← h) (picked_last z)

pub picked_none : {r : ℕ} → r ≡ 0 → choices width r ≡ up_to_none []
unfolding up_to_none
picked_none e = choices_end e

-- four values at once, where there are four
module _ {left second third fourth v w x : ℕ} (one : Picked left v second) (two : Picked second w third) (three : Picked third x fourth) (some : fourth ≡ 0 → ⊥) where
  pub four_few : (v < width) × (w < width) × (x < width)
  four_few = let h3 = picked_some three some in let h2 = picked_some two h3 in (picked_few one (picked_some one h2), picked_few two h2, picked_few three h3)

  module _ {next y : ℕ} (four : Picked fourth y next) where
    pub four_on : next < 2 ^ width
    four_on = rw four.rest (rest_few fourth)

    pub four_less : next < left
    four_less =
        let h3 = picked_some three some in
        let h2 = picked_some two h3 in
        omega (arith, picked_less four some, picked_less three h3, picked_less two h2, picked_less one (picked_some one h2))

    pub four_last : choices width left ≡ choices width next ++ (y ∷ (x ∷ (w ∷ (v ∷ []))))
    four_last =
        let h3 = picked_some three some in
        let h2 = picked_some two h3 in
        picked_last one (picked_some one h2)
        ∙ (ap (λ (l : List ℕ). l ++ (v ∷ [])) (picked_last two h2
        ∙ ap (λ (l : List ℕ). l ++ (w ∷ [])) (picked_last three h3
        ∙ ap (λ (l : List ℕ). l ++ (x ∷ [])) (picked_last four some)))
        ∙ simp append_assoc)

-- the values below vs of a mask, as the code finds them
pub choices_within : (vs m : ℕ) {f x : ℕ} → vs ≤ width → f ≡ mask_of (λ u. ltb u vs) width → x ≡ mask_of (λ u. bit m u && bit f u) width → choices vs m ≡ choices width x
choices_within vs m {f} {x} h e d =
    choices_cut width vs m x h (λ u l. rw d (bit_mask (λ u. bit m u && bit f u) width u l ∙ rw (e, bit_mask (λ u. ltb u vs) width u l)))

-- ON THE WAY through a mask: D tells of the values that were looked at, the others are left
pub record Through (D : List ℕ → Type 0) (m left : ℕ) : Type 0 where
  pub few : left < 2 ^ width
  pub past : List ℕ
  pub all : choices width m ≡ choices width left ++ past
  pub done : D past

pub through_none : (D : List ℕ → Type 0) (m : ℕ) → m < 2 ^ width → D [] → Through D m m
through_none D m l d = record { few = l; past = []; all = sym (append-nil (choices width m)); done = d }

module _ (D E : List ℕ → Type 0) {m left : ℕ} where
  -- some values more
  pub through_on : {next : ℕ} (new : List ℕ) → next < 2 ^ width → choices width left ≡ choices width next ++ new → ((us : List ℕ) → D us → E (new ++ us)) → Through D m left → Through E m next
  through_on {next} new l e f t = record {
    few = l;
    past = new ++ t.past;
    all = t.all ∙ (ap (λ (l : List ℕ). l ++ t.past) e ∙ append_assoc (choices width next) new t.past);
    done = f t.past t.done;
  }

  -- one value more
  pub through_more : {v next : ℕ} → Picked left v next → (left ≡ 0 → ⊥) → ((us : List ℕ) → D us → E (v ∷ us)) → Through D m left → Through E m next
  through_more {v} p h f t = through_on (v ∷ []) (rw p.rest (rest_few left)) (picked_last p h) f t

  -- the last values
  pub through_last : (new : List ℕ) → choices width left ≡ new → ((us : List ℕ) → D us → E (new ++ us)) → Through D m left → {us : List ℕ} → us ≡ choices width m → E us
  through_last new e f t d = subst E (sym (d ∙ (t.all ∙ ap (λ (l : List ℕ). l ++ t.past) e))) (f t.past t.done)

-- none is left
pub through_end : (D : List ℕ → Type 0) {m left : ℕ} → left ≡ 0 → Through D m left → {us : List ℕ} → us ≡ choices width m → D us
through_end D e t = through_last D D [] (choices_end e) (λ us d. d) t
