-- The states that can finish, layer by layer. Assumes nothing.
use mathlib.Core.Path.{◌≡◌, refl, sym, ap, ◌∙◌}
use mathlib.Core.Bool.{Bool, true, not, ◌&&◌, ◌||◌, false≢true, and-eq-true_iff, or-false}
use mathlib.Core.List.{List}
use Prim.Native.Nat.{ℕ, zero, suc, ◌+◌, ◌*◌, ◌%◌, ◌^◌, ◌≤◌, ◌<◌}
use native.Mathlib.Numerals.{add-one}
use native.Mathlib.Omega.{arith}
use lib.Bits.{bit_and, bit_or}
use lib.Dec.{eqb, ltb}
use lib.ListN.{get_or}
use lib.Pow.{pow_pos}
use borrow.Author.Tests.{eqb-true, eq-eqb, ne_eqb, ltb-true, lt-ltb}
use Rattle.kinds.specs.Bits.{bit, mask_of}
use Rattle.kinds.proofs.Bits.{bit_mask, bit_none, mask_lt, mask_bit, mask_is, mask_same, mask_more, mask_skip, put_mask, shl_one}
use Rattle.kinds.proofs.Lowest.{meet_some, meet_none}
use Rattle.meaning.specs.Lists.{from, any, some, Filled}
use Rattle.meaning.specs.Meaning.{Arcs, Rules, target, has_arc}
use Rattle.meaning.specs.Prefixes.{accepted_words}
use Rattle.meaning.proofs.Lists.{any_in, in_any, any_more}
use Rattle.meaning.proofs.Prefixes.{some_step, some_end}
use Rattle.rules.specs.Inner.{next_by, into_set, finishing}
use Rattle.rules.proofs.Checks.{not_so}

-- value by value: where the arcs of a state lead
module _ (a : Arcs) (q : ℕ) where
  abbrev reached : ℕ → ℕ → Bool
  reached n t = any (λ v. eqb t (target a q v)) (from 0 n)

  reached_more : (n t : ℕ) → reached (n + 1) t ≡ (reached n t || eqb t (target a q n))
  reached_more n t = any_more (λ v. eqb t (target a q v)) n

  pub next_none : 0 ≡ next_by a q 0
  unfolding next_by
  next_none = mask_is (reached 0) a.states 0 (pow_pos a.states) (λ t k. bit_none t)

  pub next_more : (n m to : ℕ) → a.states ≤ 64 → m ≡ next_by a q n → to ≡ target a q n → to < a.states → bit_or m (1 * 2 ^ to % 2 ^ 64) ≡ next_by a q (n + 1)
  unfolding next_by
  next_more n m to h e d l =
      rw (shl_one 64 to (omega arith), ← shl_one a.states to l)
      (put_mask a.states m to (rw e (mask_lt (reached n) a.states)) l
      ∙ mask_same _ _ a.states (λ t k. rw (reached_more n t, ← d, e, bit_mask (reached n) a.states t k)))

  pub next_skip : (n m : ℕ) → m ≡ next_by a q n → a.states ≤ target a q n → m ≡ next_by a q (n + 1)
  unfolding next_by
  next_skip n m e l =
      e ∙ mask_same _ _ a.states (λ t k. sym (reached_more n t ∙ rw (ne_eqb t (target a q n) (λ d. omega arith)) (or-false (reached n t))))

-- state by state: which have an arc into a set
module _ (next : List ℕ) (set : ℕ) where
  abbrev meeting : ℕ → Bool
  meeting q = not (eqb (bit_and (get_or next q 0) set) 0)

  pub into_none : 0 ≡ into_set next set 0
  unfolding into_set mask_of
  into_none = refl

  pub into_more : (q m b : ℕ) → q < 64 → m ≡ into_set next set q → b ≡ 1 * 2 ^ q % 2 ^ 64 → (bit_and (get_or next q 0) set ≡ 0 → ⊥) → bit_or m b ≡ into_set next set (q + 1)
  unfolding into_set
  into_more q m b h e d n = rw (d, shl_one 64 q h, add-one q) (mask_more meeting q m e (ap not (ne_eqb _ 0 n)))

  pub into_skip : (q m : ℕ) → m ≡ into_set next set q → bit_and (get_or next q 0) set ≡ 0 → m ≡ into_set next set (q + 1)
  unfolding into_set
  into_skip q m e d = rw (add-one q) (e ∙ sym (mask_skip meeting q (ap not (eq-eqb _ 0 d))))

-- whether a state can finish
module _ (r : Rules) (n : ℕ) where
  abbrev finishes : ℕ → Bool
  finishes q = some (accepted_words r q n)

  pub finishing_bit : (t : ℕ) → bit (finishing r n) t ≡ (ltb t r.arcs.states && some (accepted_words r t n))
  unfolding finishing
  finishing_bit t = mask_bit finishes r.arcs.states t

  -- so what is found of a state that is one
  pub finishing_some : {found : ℕ} {b : Bool} (q : ℕ) → q < r.arcs.states → found ≡ finishing r n → b ≡ bit found q → b ≡ some (accepted_words r q n)
  finishing_some q l e d = d ∙ rw (e, finishing_bit q, lt-ltb q r.arcs.states l)

-- with no value left, the accepting states
pub finishing_none : (r : Rules) → r.accepting < 2 ^ r.arcs.states → r.accepting ≡ finishing r 0
unfolding finishing
finishing_none r h = mask_is (finishes r 0) r.arcs.states r.accepting h (λ q l. sym (some_end r q))

-- with one more, those with an arc to one that can finish
module _ (r : Rules) (n q : ℕ) where
  abbrev can_end : ℕ
  can_end = finishing r n

  abbrev nexts : ℕ
  nexts = next_by r.arcs q r.arcs.values

  abbrev leads : ℕ → Bool
  leads v = has_arc r.arcs q v && finishes r n (target r.arcs q v)

  meets_leads : 0 < bit_and nexts can_end → any leads (from 0 r.arcs.values) ≡ true
  unfolding next_by
  meets_leads h =
      let m = meet_some r.arcs.states nexts can_end (mask_lt _ r.arcs.states) (unfold finishing in mask_lt _ r.arcs.states) h in
      let f = (and-eq-true_iff (ltb m.0 r.arcs.states) _).0 (sym (finishing_bit r n m.0) ∙ m.2) in
      let t = any_in (λ v. eqb m.0 (target r.arcs q v)) (from 0 r.arcs.values) (sym (bit_mask _ r.arcs.states m.0 (ltb-true _ _ f.0)) ∙ m.1) in
      let d : target r.arcs q t.0 ≡ m.0 = sym (eqb-true _ _ t.2) in
      in_any leads t.1 (rw (d, f.0, f.1))

  leads_meets : any leads (from 0 r.arcs.values) ≡ true → bit_and nexts can_end ≡ 0 → ⊥
  unfolding next_by
  leads_meets h e =
      let t = any_in leads (from 0 r.arcs.values) h in
      let to : ℕ = target r.arcs q t.0 in
      let f = (and-eq-true_iff (has_arc r.arcs q t.0) _).0 t.2 in
      let b = bit_mask (reached r.arcs q r.arcs.values) r.arcs.states to (ltb-true _ _ f.0) in
      false≢true (sym (meet_none nexts can_end to e (b ∙ in_any (λ v. eqb to (target r.arcs q v)) t.1 (eq-eqb to to refl))) ∙ (finishing_bit r n to ∙ t.2))

  meets_finishes : not (eqb (bit_and nexts can_end) 0) ≡ finishes r (suc n) q
  meets_finishes = go (bit_and nexts can_end) refl ∙ sym (some_step r q n)
    where
      go : (m : ℕ) → bit_and nexts can_end ≡ m → not (eqb m 0) ≡ any leads (from 0 r.arcs.values)
      go zero e = sym (not_so _ (λ h. leads_meets h e))
      go (suc m) e = ap not (ne_eqb (suc m) 0 (λ d. omega arith)) ∙ sym (meets_leads (omega arith))

pub finishing_more : (r : Rules) {was next : List ℕ} (n : ℕ) → Filled (λ k. next_by r.arcs k r.arcs.values) r.arcs.states was next
    → into_set next (finishing r n) r.arcs.states ≡ finishing r (suc n)
unfolding into_set
finishing_more r n f =
    mask_same _ _ r.arcs.states (λ q l. ap (λ (m : ℕ). not (eqb (bit_and m (finishing r n)) 0)) (f.done q l) ∙ meets_finishes r n q) ∙ (unfold finishing in refl)
