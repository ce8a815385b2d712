-- The numbering by words: the states are the configurations in the order in which all words, shorter ones first, then by smaller value,
-- first meet them. Assumes nothing.
use mathlib.Core.Path.{◌≡◌, refl, sym, ap, ap₂, ◌∙◌, subst}
use mathlib.Core.Bool.{Bool, true, false, cond, ◌||◌, false≢true}
use mathlib.Core.Logic.{◌⊎◌, inl, inr, ⊎_elim}
use mathlib.Core.List.{List, [], ◌∷◌, ◌++◌, map, map-append, map-map, append-nil, append_assoc}
use Prim.Native.Nat.{ℕ, zero, suc, ◌≤◌, ◌<◌}
use native.Mathlib.Omega.{arith}
use native.Mathlib.Decide.{ℕ_discrete, dec_lt}
use lib.Dec.{eqb}
use lib.ListN.{length, take, drop, length-append, take-append-drop}
use lib.Seq.{take_all}
use borrow.Author.Tests.{eq-eqb, ne_eqb, eqb-true, eqb-false}
use Rattle.meaning.specs.Lists.{from, each}
use Rattle.meaning.specs.Meaning.{words}
use Rattle.meaning.proofs.Lists.{each_append, each_each}
use Rattle.numbering.specs.Numbering.{reaches, is_in, meet, meets, row_of, met}
use Rattle.rules.proofs.Checks.{or_cases, or_left, or_right}
use Rattle.numbering.proofs.Numbering.{in_append, Grown, grown_trans, grown_in, grown_length, meets_grown, meets_has, row_has, has_row, met_grown, met_same}
use Rattle.numbering.proofs.Order.{meets_append, grown_take, met_order}

-- lists joined
module _ {A B C : Type 0} where
  map_each : (f : B → C) (g : A → List B) (xs : List A) → map f (each g xs) ≡ each (λ x. map f (g x)) xs
  map_each f g [] = refl
  map_each f g (x ∷ xs) = map-append f (g x) (each g xs) ∙ ap (λ (l : List C). map f (g x) ++ l) (map_each f g xs)

  each_map : (g : B → List C) (f : A → B) (xs : List A) → each g (map f xs) ≡ each (λ x. g (f x)) xs
  each_map g f [] = refl
  each_map g f (x ∷ xs) = ap (λ (l : List C). g (f x) ++ l) (each_map g f xs)

each_cong : {A B : Type 0} (f g : A → List B) (xs : List A) → ((x : A) → f x ≡ g x) → each f xs ≡ each g xs
each_cong f g [] h = refl
each_cong f g (x ∷ xs) h = ap₂ (λ (a b : List _). a ++ b) (h x) (each_cong f g xs h)

each_one : {A B : Type 0} (g : A → B) (xs : List A) → each (λ x. g x ∷ []) xs ≡ map g xs
each_one g [] = refl
each_one g (x ∷ xs) = ap (λ (l : List _). g x ∷ l) (each_one g xs)

abbrev pub nonempty : ℕ → ℕ → List (List ℕ)
nonempty vs n = each (words vs) (from 1 n)

-- each longer word is a shorter one and a last value
module _ (vs : ℕ) where
  abbrev longer : List ℕ → List (List ℕ)
  longer w = map (λ v. w ++ (v ∷ [])) (from 0 vs)

  words_last : (n : ℕ) → words vs (suc n) ≡ each longer (words vs n)
  words_last zero = each_one (λ (v : ℕ). v ∷ []) (from 0 vs) ∙ sym (append-nil (longer []))
  words_last (suc n) =
      each_cong (λ (v : ℕ). map (λ (w : List ℕ). v ∷ w) (words vs (suc n))) (λ (v : ℕ). each longer (map (λ (w : List ℕ). v ∷ w) (words vs n))) (from 0 vs)
      (λ v.
      ap (map (λ (w : List ℕ). v ∷ w)) (words_last n)
      ∙ map_each (λ (w : List ℕ). v ∷ w) longer (words vs n)
      ∙ each_cong (λ (w : List ℕ). map (λ (u : List ℕ). v ∷ u) (longer w)) (λ (w : List ℕ). longer (v ∷ w)) (words vs n) (λ w. map-map (λ (u : List ℕ). v ∷ u) (λ (u : ℕ). w ++ (u ∷ [])) (from 0 vs))
      ∙ sym (each_map longer (λ (w : List ℕ). v ∷ w) (words vs n)))
      ∙ sym (each_each longer (λ (v : ℕ). map (λ (w : List ℕ). v ∷ w) (words vs n)) (from 0 vs))

  levels : (i m : ℕ) → each (words vs) (from (suc i) m) ≡ each longer (each (words vs) (from i m))
  levels i zero = refl
  levels i (suc m) =
      ap₂ (λ (a b : List (List ℕ)). a ++ b) (words_last i) (levels (suc i) m)
      ∙ sym (each_append longer (words vs i) (each (words vs) (from (suc i) m)))

module _ (next : ℕ → ℕ → ℕ) (vs start : ℕ) where
  -- whether a step of the word is missing
  abbrev dead : ℕ → List ℕ → Bool
  dead c [] = false
  dead c (v ∷ w) = cond (eqb (next c v) 0) true (dead (next c v) w)

  same_or_none : (x : ℕ) → cond (eqb x 0) 0 x ≡ x
  same_or_none x = go (eqb x 0) refl
    where
      go : (b : Bool) → eqb x 0 ≡ b → cond b 0 x ≡ x
      go true e = sym (eqb-true x 0 e)
      go false e = refl

  reaches_last : (c : ℕ) (w : List ℕ) (v : ℕ) → reaches next c (w ++ (v ∷ [])) ≡ cond (dead c w) 0 (next (reaches next c w) v)
  reaches_last c [] v = same_or_none (next c v)
  reaches_last c (u ∷ w) v = go (eqb (next c u) 0) (reaches_last (next c u) w v)
    where
      go : (b : Bool) → reaches next (next c u) (w ++ (v ∷ [])) ≡ cond (dead (next c u) w) 0 (next (reaches next (next c u) w) v)
          → cond b 0 (reaches next (next c u) (w ++ (v ∷ []))) ≡ cond (cond b true (dead (next c u) w)) 0 (next (cond b 0 (reaches next (next c u) w)) v)
      go true h = refl
      go false h = h

  dead_none : (c : ℕ) (w : List ℕ) → dead c w ≡ true → reaches next c w ≡ 0
  dead_none c [] h = absurd (false≢true h)
  dead_none c (v ∷ w) h = go (eqb (next c v) 0) h (λ k. dead_none (next c v) w k)
    where
      go : (b : Bool) → cond b true (dead (next c v) w) ≡ true → (dead (next c v) w ≡ true → reaches next (next c v) w ≡ 0) → cond b 0 (reaches next (next c v) w) ≡ 0
      go true h rec = refl
      go false h rec = rec h

  alive_some : (c v : ℕ) (w : List ℕ) → dead c (v ∷ w) ≡ false → reaches next c (v ∷ w) ≡ 0 → ⊥
  alive_some c v [] h e = go (eqb (next c v) 0) refl h e
    where
      go : (b : Bool) → eqb (next c v) 0 ≡ b → cond b true false ≡ false → cond b 0 (next c v) ≡ 0 → ⊥
      go true x h e = false≢true (sym h)
      go false x h e = eqb-false (next c v) 0 x e
  alive_some c v (u ∷ w) h e = go (eqb (next c v) 0) h e (λ x y. alive_some (next c v) u w x y)
    where
      go : (b : Bool) → cond b true (dead (next c v) (u ∷ w)) ≡ false → cond b 0 (reaches next (next c v) (u ∷ w)) ≡ 0
          → (dead (next c v) (u ∷ w) ≡ false → reaches next (next c v) (u ∷ w) ≡ 0 → ⊥) → ⊥
      go true h e rec = false≢true (sym h)
      go false h e rec = rec h e

  -- words that reach a configuration that is not 0, unless they are dead: all but the empty one
  abbrev Sound : List (List ℕ) → Type 0
  Sound [] = Unit {0}
  Sound (w ∷ ws) = (dead start w ≡ false → reaches next start w ≡ 0 → ⊥) × Sound ws

  sound_append : (xs ys : List (List ℕ)) → Sound xs → Sound ys → Sound (xs ++ ys)
  sound_append [] ys a b = b
  sound_append (x ∷ xs) ys a b = (a.0, sound_append xs ys a.1 b)

  last_some : (w : List ℕ) (v : ℕ) → dead start (w ++ (v ∷ [])) ≡ false → reaches next start (w ++ (v ∷ [])) ≡ 0 → ⊥
  last_some [] v h e = alive_some start v [] h e
  last_some (u ∷ w) v h e = alive_some start u (w ++ (v ∷ [])) h e

  sound_longer : (w us : List ℕ) → Sound (map (λ v. w ++ (v ∷ [])) us)
  sound_longer w [] = tt
  sound_longer w (v ∷ us) = (λ h e. last_some w v h e, sound_longer w us)

  sound_each : (ws : List (List ℕ)) → Sound (each (longer vs) ws)
  sound_each [] = tt
  sound_each (w ∷ ws) = sound_append (longer vs w) (each (longer vs) ws) (sound_longer w (from 0 vs)) (sound_each ws)

  -- the configurations after a word
  abbrev after : List ℕ → List ℕ
  after w = map (reaches next start) (longer vs w)

  after_dead : (w us acc : List ℕ) → dead start w ≡ true → meets acc (map (reaches next start) (map (λ v. w ++ (v ∷ [])) us)) ≡ acc
  unfolding meets meet
  after_dead w [] acc h = refl
  after_dead w (v ∷ us) acc h =
      let e : reaches next start (w ++ (v ∷ [])) ≡ 0 = reaches_last start w v ∙ ap (λ (b : Bool). cond b 0 (next (reaches next start w) v)) h in
      rw e (after_dead w us acc h)

  after_alive : (w us : List ℕ) → dead start w ≡ false → map (reaches next start) (map (λ v. w ++ (v ∷ [])) us) ≡ map (next (reaches next start w)) us
  after_alive w [] h = refl
  after_alive w (v ∷ us) h =
      ap₂ (λ (x : ℕ) (l : List ℕ). x ∷ l) (reaches_last start w v ∙ ap (λ (b : Bool). cond b 0 (next (reaches next start w) v)) h) (after_alive w us h)

  row_after : (w : List ℕ) → dead start w ≡ false → after w ≡ row_of next vs (reaches next start w)
  unfolding row_of
  row_after w h = after_alive w (from 0 vs) h

  -- what is in the list already is not met again
  meet_known : (acc : List ℕ) (c : ℕ) → ((c ≡ 0 → ⊥) → is_in c acc ≡ true) → meet acc c ≡ acc
  unfolding meet
  meet_known acc c h = go (ℕ_discrete c 0)
    where
      go : Dec (c ≡ 0) → cond (eqb c 0 || is_in c acc) acc (acc ++ (c ∷ [])) ≡ acc
      go (yes e) = rw (eq-eqb c 0 e)
      go (no n) = rw (ne_eqb c 0 n, h n)

  meets_known : (row acc : List ℕ) → ((x : ℕ) → is_in x row ≡ true → (x ≡ 0 → ⊥) → is_in x acc ≡ true) → meets acc row ≡ acc
  unfolding meets
  meets_known [] acc h = refl
  meets_known (c ∷ row) acc h =
      ap (λ (l : List ℕ). meets l row) (meet_known acc c (λ n. h c (or_left (eqb c c) (is_in c row) (eq-eqb c c refl)) n))
      ∙ meets_known row acc (λ x k n. h x (or_right (eqb c x) (is_in x row) k) n)

  -- what is met that was not in the list
  abbrev news : List ℕ → List ℕ → List ℕ
  news z [] = []
  news z (c ∷ cs) = cond (eqb c 0 || is_in c z) (news z cs) (c ∷ news (z ++ (c ∷ [])) cs)

  meets_news : (cs z : List ℕ) → meets z cs ≡ z ++ news z cs
  unfolding meets meet
  meets_news [] z = sym (append-nil z)
  meets_news (c ∷ cs) z = go (eqb c 0 || is_in c z) (meets_news cs z) (meets_news cs (z ++ (c ∷ [])))
    where
      go : (b : Bool) → meets z cs ≡ z ++ news z cs → meets (z ++ (c ∷ [])) cs ≡ (z ++ (c ∷ [])) ++ news (z ++ (c ∷ [])) cs
          → meets (cond b z (z ++ (c ∷ []))) cs ≡ z ++ cond b (news z cs) (c ∷ news (z ++ (c ∷ [])) cs)
      go true h k = h
      go false h k = k ∙ append_assoc z (c ∷ []) (news (z ++ (c ∷ [])) cs)

  -- the rows of z are in acc
  abbrev Known : List ℕ → List ℕ → Type 0
  Known z acc = (c v : ℕ) → is_in c z ≡ true → v < vs → (next c v ≡ 0 → ⊥) → is_in (next c v) acc ≡ true

  row_known : (c : ℕ) (acc : List ℕ) → ((v : ℕ) → v < vs → (next c v ≡ 0 → ⊥) → is_in (next c v) acc ≡ true) → meets acc (row_of next vs c) ≡ acc
  row_known c acc h =
      meets_known (row_of next vs c) acc
      (λ x k n. let r = has_row next vs c x k in ap (λ (y : ℕ). is_in y acc) r.2 ∙ h r.0 r.1 (λ z. n (r.2 ∙ z)))

  -- a configuration's row is met once: words that reach it again meet nothing new
  meets_after : (ws : List (List ℕ)) (z acc : List ℕ) → Sound ws → Known z acc
      → meets acc (each after ws) ≡ meets acc (each (row_of next vs) (news z (map (reaches next start) ws)))
  meets_after [] z acc s k = refl
  meets_after (w ∷ ws) z acc s k =
      meets_append acc (after w) (each after ws) ∙ go (dead start w) refl (is_in (reaches next start w) z) refl (λ z' acc' k'. meets_after ws z' acc' s.1 k')
    where
      go : (d : Bool) → dead start w ≡ d → (b : Bool) → is_in (reaches next start w) z ≡ b
          → ((z' acc' : List ℕ) → Known z' acc' → meets acc' (each after ws) ≡ meets acc' (each (row_of next vs) (news z' (map (reaches next start) ws))))
          → meets (meets acc (after w)) (each after ws) ≡ meets acc (each (row_of next vs) (news z (reaches next start w ∷ map (reaches next start) ws)))
      go true e b i rec = rw (after_dead w (from 0 vs) acc e, dead_none start w e) (rec z acc k)
      go false e true i rec =
          rw (ne_eqb (reaches next start w) 0 (s.0 e), i, row_after w e, row_known (reaches next start w) acc (λ v l n. k (reaches next start w) v i l n)) (rec z acc k)
      go false e false i rec =
          rw (ne_eqb (reaches next start w) 0 (s.0 e), i, row_after w e)
          (rec (z ++ (reaches next start w ∷ [])) (meets acc (row_of next vs (reaches next start w))) known
          ∙ sym (meets_append acc (row_of next vs (reaches next start w)) (each (row_of next vs) (news (z ++ (reaches next start w ∷ [])) (map (reaches next start) ws)))))
        where
          known : Known (z ++ (reaches next start w ∷ [])) (meets acc (row_of next vs (reaches next start w)))
          known x v m l n =
              or_cases (is_in x z) (is_in x (reaches next start w ∷ [])) (sym (in_append x z (reaches next start w ∷ [])) ∙ m) (λ a. grown_in (next x v) (meets_grown (row_of next vs (reaches next start w)) acc) (k x v a l n)) (λ a. ⊎_elim
              (λ y. let q : reaches next start w ≡ x = eqb-true _ _ y in meets_has (row_of next vs (reaches next start w)) acc (next x v) (rw q (row_has next vs x v l)) n)
              (λ y. absurd (false≢true y))
              (or_cases (eqb (reaches next start w) x) false a inl inr))

  -- what the nonempty words of up to n values meet, and what the rows of a list meet
  abbrev by_words : ℕ → List ℕ
  by_words n = meets (start ∷ []) (map (reaches next start) (nonempty vs n))

  abbrev by_rows : List ℕ → List ℕ
  by_rows z = meets (start ∷ []) (each (row_of next vs) z)

  nonempty_sound : (n : ℕ) → Sound (nonempty vs n)
  nonempty_sound n = subst Sound (sym (levels vs 0 n)) (sound_each (each (words vs) (from 0 n)))

  -- one value more for the words is one more row for each configuration met
  words_more : (n : ℕ) → by_words (suc n) ≡ by_rows (by_words n)
  words_more n =
      ap (λ (l : List (List ℕ)). meets (start ∷ []) (map (reaches next start) l)) (levels vs 0 (suc n))
      ∙ ap (meets (start ∷ [])) (map_each (reaches next start) (longer vs) ([] ∷ nonempty vs n))
      ∙ meets_append (start ∷ []) (after []) (each after (nonempty vs n))
      ∙ ap (λ (l : List ℕ). meets (meets (start ∷ []) l) (each after (nonempty vs n))) (row_after [] refl)
      ∙ meets_after (nonempty vs n) (start ∷ []) (meets (start ∷ []) (row_of next vs start)) (nonempty_sound n) known
      ∙ sym (meets_append (start ∷ []) (row_of next vs start) (each (row_of next vs) (news (start ∷ []) (map (reaches next start) (nonempty vs n)))))
      ∙ ap by_rows (sym (meets_news (map (reaches next start) (nonempty vs n)) (start ∷ [])))
    where
      known : Known (start ∷ []) (meets (start ∷ []) (row_of next vs start))
      known x v m l n =
          ⊎_elim
          (λ y. let q : start ≡ x = eqb-true _ _ y in meets_has (row_of next vs start) (start ∷ []) (next x v) (rw q (row_has next vs x v l)) n)
          (λ y. absurd (false≢true y))
          (or_cases (eqb start x) false m inl inr)

  rows_grow : {y z : List ℕ} → Grown y z → Grown (by_rows y) (by_rows z)
  rows_grow {y} {z} g =
      let e : by_rows z ≡ meets (by_rows y) (each (row_of next vs) g.more)
      = ap by_rows g.same ∙ ap (meets (start ∷ [])) (each_append (row_of next vs) y g.more) ∙ meets_append (start ∷ []) (each (row_of next vs) y) (each (row_of next vs) g.more) in
      let h = meets_grown (each (row_of next vs) g.more) (by_rows y) in
      record { more = h.more; same = e ∙ h.same }

  words_grow : (n : ℕ) → Grown (by_words n) (by_words (suc n))
  unfolding meets
  words_grow zero = rw (words_more 0) (meets_grown (each (row_of next vs) (by_words 0)) (start ∷ []))
  words_grow (suc n) = rw (words_more n, words_more (suc n)) (rows_grow (words_grow n))

  -- longer words meet something more, or nothing any more
  words_stop : (n : ℕ) → (n < length (by_words n)) ⊎ (by_words (suc n) ≡ by_words n)
  unfolding meets
  words_stop zero = inl (omega arith)
  words_stop (suc n) = go (words_stop n) (words_grow n).more (words_grow n).same
    where
      stays : by_words (suc n) ≡ by_words n → by_words (suc (suc n)) ≡ by_words (suc n)
      stays e = words_more (suc n) ∙ ap by_rows e ∙ sym (words_more n)

      go : (n < length (by_words n)) ⊎ (by_words (suc n) ≡ by_words n) → (more : List ℕ) → by_words (suc n) ≡ by_words n ++ more
          → (suc n < length (by_words (suc n))) ⊎ (by_words (suc (suc n)) ≡ by_words (suc n))
      go (inr e) more g = inr (stays e)
      go (inl h) [] g = inr (stays (g ∙ append-nil (by_words n)))
      go (inl h) (x ∷ xs) g = let e = ap length g ∙ length-append (by_words n) (x ∷ xs) in inl (omega arith)

  -- a list that its own rows leave as it is has the numbering in it, and the numbering has the words' list in it
  met_below : (z : List ℕ) → by_rows z ≡ z → (j : ℕ) → Grown (met next vs start j) z
  unfolding met
  met_below z e zero = subst (λ (l : List ℕ). Grown (start ∷ []) l) e (meets_grown (each (row_of next vs) z) (start ∷ []))
  met_below z e (suc j) = go (dec_lt j (length (met next vs start j))) (met_below z e j)
    where
      go : Dec (j < length (met next vs start j)) → Grown (met next vs start j) z → Grown (met next vs start (suc j)) z
      go (yes h) g =
          let cut : take (suc j) (met next vs start (suc j)) ≡ take (suc j) (met next vs start j) = grown_take (suc j) (met_grown next vs start j) h in
          let part : Grown (take (suc j) (met next vs start j)) (met next vs start j)
          = record { more = drop (suc j) (met next vs start j); same = sym (take-append-drop (suc j) (met next vs start j)) } in
          let whole : Grown (by_rows (take (suc j) (met next vs start j))) z = subst (λ (l : List ℕ). Grown (by_rows (take (suc j) (met next vs start j))) l) e (rows_grow (grown_trans part g)) in
          subst (λ (l : List ℕ). Grown l z) (sym (met_order next vs start (suc j) ∙ ap by_rows cut)) whole
      go (no h) g = subst (λ (l : List ℕ). Grown l z) (sym (met_same next vs start j (omega arith))) g

  words_below : (z : List ℕ) → by_rows z ≡ z → (n : ℕ) → Grown (by_words n) z
  unfolding meets
  words_below z e zero = subst (λ (l : List ℕ). Grown (by_words 0) l) e (meets_grown (each (row_of next vs) z) (start ∷ []))
  words_below z e (suc n) = rw (words_more n) (subst (λ (l : List ℕ). Grown (by_rows (by_words n)) l) e (rows_grow (words_below z e n)))

  grown_both : (xs ys : List ℕ) → Grown xs ys → Grown ys xs → xs ≡ ys
  grown_both xs ys g h = go g.more g.same
    where
      go : (more : List ℕ) → ys ≡ xs ++ more → xs ≡ ys
      go [] e = sym (e ∙ append-nil xs)
      go (x ∷ more) e =
          let a = ap length e ∙ length-append xs (x ∷ more) in
          let b = grown_length h in
          absurd (omega arith)

  -- THE LAW OF THE ORDER: once a numbering has all its states, it is the start and what the nonempty words of up to n values, taken in order, meet
  pub met_words : (k n : ℕ) → length (met next vs start k) ≤ k → k ≤ n → met next vs start k ≡ meets (start ∷ []) (map (reaches next start) (nonempty vs n))
  met_words k n few h =
      let own : by_rows (met next vs start k) ≡ met next vs start k
      = sym (met_order next vs start k ∙ ap by_rows (take_all k (met next vs start k) few)) in
      let below = words_below (met next vs start k) own n in
      let l = grown_length below in
      ⊎_elim (λ m. absurd (omega arith))
      (λ e. grown_both (met next vs start k) (by_words n) (met_below (by_words n) (sym (words_more n) ∙ e) k) below)
      (words_stop n)
