-- Each public contract of this crate leaves one content of what is lent: any two outcomes that it allows are equal. A lent row or table
-- keeps its length. Assumes nothing.
use mathlib.Core.Path.{◌≡◌, refl, sym, ap, subst, ◌∙◌}
use mathlib.Core.Bool.{Bool, true, false}
use mathlib.Core.List.{List}
use mathlib.Core.Logic.{◌⊎◌, inl, inr}
use Rattle.std.proofs.Common.{Option, Some, None, Result, Ok, Err}
use Prim.Native.Nat.{ℕ, suc, ◌+◌, ◌*◌, ◌-◌, ◌/◌, ◌%◌, ◌≤◌, ◌<◌, min}
use native.Mathlib.Omega.{arith}
use native.Mathlib.Decide.{dec_le, dec_lt}
use lib.ListN.{length, get_or, drop}
use lib.Seq.{ext_get_or}
use Rattle.meaning.specs.Bounds.{most_states, plan_size}
use Rattle.meaning.specs.Meaning.{rules_of, places}
use Rattle.rules.specs.Answers.{zeros}
use Rattle.rooms.specs.declared.near.Misfit.{Misfit}
use Rattle.rooms.specs.Tables.{blanked, copied, turned, frame, need, capped, before, layer, Outside, Prepared, Prepares}
use Rattle.rooms.specs.Changes.{near_layer, row_for, PlanSizes, Nears, NearRuns}
use Rattle.rooms.proofs.Rooms.{room_same}
use Rattle.rooms.proofs.Nearing.{near_same}
use Rattle.rooms.proofs.Sizing.{plan_right}

pub blank_unique : (count number : ℕ) (row a b : List ℕ) → a ≡ blanked count number row → b ≡ blanked count number row → a ≡ b
blank_unique count number row a b e f = e ∙ sym f

pub copy_unique : (count : ℕ) (from row a b : List ℕ) → a ≡ copied count from row → b ≡ copied count from row → a ≡ b
copy_unique count from row a b e f = e ∙ sym f

pub less_unique : (x y a b : ℕ) → a ≡ x - y → b ≡ x - y → a ≡ b
less_unique x y a b e f = e ∙ sym f

pub wipe_unique : (table a b : List ℕ) → a ≡ zeros table → b ≡ zeros table → a ≡ b
wipe_unique table a b e f = e ∙ sym f

pub turned_at_unique : (q v a b : ℕ) → a ≡ v * most_states + q → b ≡ v * most_states + q → a ≡ b
turned_at_unique q v a b e f = e ∙ sym f

-- tables that agree inside and are as they were outside
tables_one : (n rows : ℕ) (was a b : List ℕ) → length a ≡ length b → ((j q : ℕ) → j < rows → q < n → get_or a (j * 64 + q) 0 ≡ get_or b (j * 64 + q) 0)
    → Outside n rows was a → Outside n rows was b → a ≡ b
tables_one n rows was a b e r s t = ext_get_or 0 a b e (λ k h. at k)
  where
    go : (j q : ℕ) → q < 64 → Dec (j < rows) → Dec (q < n) → get_or a (j * 64 + q) 0 ≡ get_or b (j * 64 + q) 0
    go j q m (yes h) (yes l) = r j q h l
    go j q m (no h) l = s.same j q m (λ x y. h x) ∙ sym (t.same j q m (λ x y. h x))
    go j q m (yes h) (no l) = s.same j q m (λ x y. l y) ∙ sym (t.same j q m (λ x y. l y))

    at : (k : ℕ) → get_or a k 0 ≡ get_or b k 0
    at k =
        let d : k / 64 * 64 + k % 64 ≡ k = omega arith in
        subst (λ (z : ℕ). get_or a z 0 ≡ get_or b z 0) d (go (k / 64) (k % 64) (omega arith) (dec_lt (k / 64) rows) (dec_lt (k % 64) n))

module _ (qs vs : ℕ) (ts cs : List ℕ) (accepting : ℕ) (ms ls to fee arcs work : List ℕ) where
  prepared_one : (a b c d a' b' c' d' : List ℕ) → length a ≡ length a' → length b ≡ length b' → length c ≡ length c'
      → Prepared qs vs ts cs accepting ms ls to fee arcs work a b d c → Prepared qs vs ts cs accepting ms ls to fee arcs work a' b' d' c' → (a ≡ a') × (b ≡ b') × (c ≡ c')
  unfolding layer turned
  prepared_one a b c d a' b' c' d' e f g r s = (
    tables_one qs vs to a a' e (λ v q h k. r.turns.to q v k h ∙ sym (s.turns.to q v k h)) r.beside_targets s.beside_targets,
    tables_one qs vs fee b b' f (λ v q h k. r.turns.fee q v k h ∙ sym (s.turns.fee q v k h)) r.beside_costs s.beside_costs,
    tables_one qs (suc (length ms)) work c c' g needs r.beside_rooms s.beside_rooms,
  )
    where
      needs : (j q : ℕ) → j < suc (length ms) → q < qs → get_or c (j * 64 + q) 0 ≡ get_or c' (j * 64 + q) 0
      needs j q h k =
          r.rooms.right j q (omega arith) (omega arith) k
          ∙ (ap (λ (x : ℕ). need (capped (before ls j) x)) (room_same (rules_of qs vs ts cs accepting) (turned a b) (turned a' b') r.turns s.turns (drop j (places ms ls)) q)
          ∙ sym (s.rooms.right j q (omega arith) (omega arith) k))

  pub prepare_unique : (a b c d a' b' c' d' : List ℕ) (x y : Bool) → length a ≡ length a' → length b ≡ length b' → length c ≡ length c'
      → Prepares qs vs ts cs accepting ms ls to fee arcs work a b d c x → Prepares qs vs ts cs accepting ms ls to fee arcs work a' b' d' c' y → (x ≡ y) × (a ≡ a') × (b ≡ b') × (c ≡ c')
  prepare_unique a b c d a' b' c' d' true true e f g r s =
      let o = prepared_one a b c d a' b' c' d' e f g (r.right refl).3 (s.right refl).3 in
      (refl, o.0, o.1, o.2)
  prepare_unique a b c d a' b' c' d' false false e f g r s =
      let x = r.wrong refl in
      let y = s.wrong refl in
      (refl, x.1 ∙ sym y.1, x.2 ∙ sym y.2, x.4 ∙ sym y.4)
  prepare_unique a b c d a' b' c' d' true false e f g r s = let h = r.right refl in absurd ((s.wrong refl).0 h.0 h.1 h.2)
  prepare_unique a b c d a' b' c' d' false true e f g r s = let h = s.right refl in absurd ((r.wrong refl).0 h.0 h.1 h.2)

-- the table by changes: rows of one layer, and what is as it was in both
module _ (qs vs : ℕ) (ts cs : List ℕ) (accepting start spent : ℕ) (ms ls ds : List ℕ) (k : ℕ) (work : List ℕ) where
  module _ {a b : List ℕ} {x y : ℕ} (r : Nears qs vs ts cs accepting start spent ms ls ds k work a x) (s : Nears qs vs ts cs accepting start spent ms ls ds k work b y) where
    rooms_one : (l g q : ℕ) → near_layer (frame r.net qs vs accepting) ds ms ls l g q ≡ near_layer (frame s.net qs vs accepting) ds ms ls l g q
    unfolding near_layer
    rooms_one l g q =
        ap (λ (x : ℕ). capped (before ls l) x) (near_same (rules_of qs vs ts cs accepting) r.net s.net r.arcs s.arcs (drop l ds) (drop l (places ms ls)) g q)

    -- what one of them stops at, the other does too
    made_not : x < y → ⊥
    made_not h = omega (arith, s.fewest.low, r.fewest.some (omega (arith, s.fewest.low)), s.fewest.none x h, rooms_one 0 (suc x) start)

  nears_one : (a b : List ℕ) (x : ℕ) → length a ≡ length work → length b ≡ length work → PlanSizes qs vs ts cs ms ls ds k work
      → Nears qs vs ts cs accepting start spent ms ls ds k work a x → Nears qs vs ts cs accepting start spent ms ls ds k work b x → a ≡ b
  nears_one a b x e f s r t = ext_get_or 0 a b (e ∙ sym f) (λ z h. at z (omega (arith, s.all_rows)))
    where
      needs : (l j q : ℕ) → l ≤ length ms → j ≤ min x k → q < qs → get_or a (row_for l j * 64 + q) 0 ≡ get_or b (row_for l j * 64 + q) 0
      needs l j q h m n = r.fewest.rooms.right l j q h m n ∙ (ap need (rooms_one r t l (suc j) q) ∙ sym (t.fewest.rooms.right l j q h m n))

      go : (l j q : ℕ) → l ≤ length ms → j ≤ 7 → q < 64 → Dec (j ≤ min x k) → Dec (q < qs) → get_or a (row_for l j * 64 + q) 0 ≡ get_or b (row_for l j * 64 + q) 0
      go l j q h u v (yes m) (yes n) = needs l j q h m n
      go l j q h u v (no m) n = r.fewest.beside.same l j q u v (λ c d. m c) ∙ sym (t.fewest.beside.same l j q u v (λ c d. m c))
      go l j q h u v (yes m) (no n) = r.fewest.beside.same l j q u v (λ c d. n d) ∙ sym (t.fewest.beside.same l j q u v (λ c d. n d))

      at : (z : ℕ) → z < plan_size (length ms) → get_or a z 0 ≡ get_or b z 0
      at z h =
          let d : row_for (z / 512) (z / 64 % 8) * 64 + z % 64 ≡ z = omega arith in
          subst (λ (z : ℕ). get_or a z 0 ≡ get_or b z 0) d (go (z / 512) (z / 64 % 8) (z % 64) (omega arith) (omega arith) (omega arith) (dec_le (z / 64 % 8) (min x k)) (dec_lt (z % 64) qs))

  -- the number of changes of an outcome
  made_of : {a : List ℕ} (x : Result (Option ℕ) Misfit) → NearRuns qs vs ts cs accepting start spent ms ls ds k work a x → PlanSizes qs vs ts cs ms ls ds k work → start < qs
      → (m : ℕ) × Nears qs vs ts cs accepting start spent ms ls ds k work a m × (((m ≤ k) × (x ≡ Ok (Some m))) ⊎ ((k < m) × (x ≡ Ok None)))
  made_of (Ok (Some j)) r p q = let u = r.some p q j refl in (j, u.1, inl (u.0, refl))
  made_of (Ok None) r p q = (suc k, r.none p q refl, inr (omega arith, refl))
  made_of (Err e) r p q = absurd (r.fits p q refl)

  pub fewest_unique : (a b : List ℕ) (x y : Result (Option ℕ) Misfit) → length a ≡ length work → length b ≡ length work
      → NearRuns qs vs ts cs accepting start spent ms ls ds k work a x → NearRuns qs vs ts cs accepting start spent ms ls ds k work b y → (x ≡ y) × (a ≡ b)
  fewest_unique a b x y e f r s = go (plan_right qs vs ts cs ms ls ds k work) (dec_lt start qs)
    where
      wrong : (PlanSizes qs vs ts cs ms ls ds k work → start < qs → ⊥) → (x ≡ y) × (a ≡ b)
      wrong h = let u = r.wrong h in let v = s.wrong h in (u.0 ∙ sym v.0, u.1 ∙ sym v.1)

      made : {m n : ℕ} → Dec (m < n) → Dec (n < m) → Nears qs vs ts cs accepting start spent ms ls ds k work a m → Nears qs vs ts cs accepting start spent ms ls ds k work b n → m ≡ n
      made (yes h) l u v = absurd (made_not u v h)
      made (no h) (yes l) u v = absurd (made_not v u l)
      made (no h) (no l) u v = omega arith

      same : {m n : ℕ} → m ≡ n → ((m ≤ k) × (x ≡ Ok (Some m))) ⊎ ((k < m) × (x ≡ Ok None)) → ((n ≤ k) × (y ≡ Ok (Some n))) ⊎ ((k < n) × (y ≡ Ok None)) → x ≡ y
      same d (inl u) (inl v) = u.1 ∙ (ap (λ (z : ℕ). Ok (Some z)) d ∙ sym v.1)
      same d (inl u) (inr v) = absurd (omega arith)
      same d (inr u) (inl v) = absurd (omega arith)
      same d (inr u) (inr v) = u.1 ∙ sym v.1

      go : Dec (PlanSizes qs vs ts cs ms ls ds k work) → Dec (start < qs) → (x ≡ y) × (a ≡ b)
      go (yes p) (yes q) =
          let (m, u, i) = made_of x r p q in
          let (n, v, j) = made_of y s p q in
          let d : m ≡ n = made (dec_lt m n) (dec_lt n m) u v in
          (same d i j, nears_one a b n e f p (rw d at u) v)
      go (no p) q = wrong (λ h l. p h)
      go (yes p) (no q) = wrong (λ h l. q l)
