-- Each public contract of this crate leaves one result and one content of what is lent: any two outcomes that it allows are equal.
-- Assumes nothing.
use mathlib.Core.Path.{◌≡◌, refl, sym, ap, ◌∙◌}
use mathlib.Core.Bool.{Bool, true, false}
use Rattle.std.proofs.Common.{Option, Some, None}
use mathlib.Core.List.{List, []}
use Prim.Native.Nat.{ℕ, ◌≤◌, ◌<◌}
use native.Mathlib.Omega.{arith}
use native.Mathlib.Decide.{dec_lt, dec_le, ℕ_discrete}
use lib.ListN.{length, get_or}
use Rattle.meaning.specs.Bounds.{top}
use Rattle.meaning.specs.Meaning.{Rules, Place, Verdict, rules_of, places, rosters, verdict}
use Rattle.rooms.specs.Tables.{Sizes}
use Rattle.rooms.proofs.Sizing.{sizes_right_lem}
use Rattle.reach.specs.Whole.{Filters, Finds, FilterRuns, FirstRuns}

-- the kept masks, the work table and the least cost
filters_one : (r : Rules) (start spent : ℕ) (ps : List Place) (was w z a b : List ℕ) (x y : Option ℕ) → Filters r start spent ps was w a x → Filters r start spent ps was z b y
    → (x ≡ y) × (a ≡ b) × (w ≡ z)
filters_one r start spent ps was w z a b None None f g =
    let e : verdict 11 a 0 ≡ verdict 11 b 0 = f.right ∙ sym g.right in
    (refl, ap (λ (v : Verdict). v.masks) e, f.cleared ∙ sym g.cleared)
filters_one r start spent ps was w z a b (Some x) (Some y) f g =
    let e : verdict 0 a x ≡ verdict 0 b y = f.right ∙ sym g.right in
    (ap (λ (v : Verdict). Some v.cheapest) e, ap (λ (v : Verdict). v.masks) e, f.cleared ∙ sym g.cleared)
filters_one r start spent ps was w z a b None (Some y) f g =
    let e : verdict 11 a 0 ≡ verdict 0 b y = f.right ∙ sym g.right in
    let n : ◌≡◌ {A = ℕ} 11 0 = ap (λ (v : Verdict). v.answered) e in
    absurd (omega arith)
filters_one r start spent ps was w z a b (Some x) None f g =
    let e : verdict 0 a x ≡ verdict 11 b 0 = f.right ∙ sym g.right in
    let n : ◌≡◌ {A = ℕ} 0 11 = ap (λ (v : Verdict). v.answered) e in
    absurd (omega arith)

-- whether there is one, the roster and the work table
finds_one : (ws : List (List ℕ)) (i v : ℕ) (was a b work w z : List ℕ) (f g : Bool) → Finds ws i v was a work w f → Finds ws i v was b work z g
    → (f ≡ g) × (a ≡ b) × (w ≡ z)
finds_one ws i v was a b work w z true true r s =
    (refl, ap (λ (l : List (List ℕ)). get_or l 0 []) (sym (r.some refl) ∙ s.some refl), r.clear ∙ sym s.clear)
finds_one ws i v was a b work w z false false r s = (refl, (r.none refl).1 ∙ sym (s.none refl).1, r.clear ∙ sym s.clear)
finds_one ws i v was a b work w z true false r s =
    let n : ◌≡◌ {A = ℕ} 1 0 = ap length (sym (r.some refl) ∙ (s.none refl).0) in
    absurd (omega arith)
finds_one ws i v was a b work w z false true r s =
    let n : ◌≡◌ {A = ℕ} 1 0 = ap length (sym (s.some refl) ∙ (r.none refl).0) in
    absurd (omega arith)

module _ (qs vs : ℕ) (t c : List ℕ) (accepting start spent : ℕ) (ms ls out work : List ℕ) where
  -- whether all is in order
  ordered : Dec (Sizes qs vs t c ms ls work × (start < qs) × (spent ≤ top) × (length out ≡ length ms))
  ordered = go (sizes_right_lem qs vs t c ms ls work) (dec_lt start qs) (dec_le spent top) (ℕ_discrete (length out) (length ms))
    where
      go : Dec (Sizes qs vs t c ms ls work) → Dec (start < qs) → Dec (spent ≤ top) → Dec (length out ≡ length ms)
          → Dec (Sizes qs vs t c ms ls work × (start < qs) × (spent ≤ top) × (length out ≡ length ms))
      go (yes a) (yes b) (yes d) (yes e) = yes (a, b, d, e)
      go (no a) b d e = no (λ h. a h.0)
      go (yes a) (no b) d e = no (λ h. b h.1)
      go (yes a) (yes b) (no d) e = no (λ h. d h.2)
      go (yes a) (yes b) (yes d) (no e) = no (λ h. e h.3)

  pub filter_from_unique : (a b w z : List ℕ) (x y : Option ℕ) → FilterRuns qs vs t c accepting start spent ms ls out work a w x
      → FilterRuns qs vs t c accepting start spent ms ls out work b z y → (x ≡ y) × (a ≡ b) × (w ≡ z)
  filter_from_unique a b w z x y f g = go ordered
    where
      go : Dec (Sizes qs vs t c ms ls work × (start < qs) × (spent ≤ top) × (length out ≡ length ms)) → (x ≡ y) × (a ≡ b) × (w ≡ z)
      go (yes h) =
          filters_one (rules_of qs vs t c accepting) start spent (places ms ls) work w z a b x y (f.right h.0 h.1 h.2 h.3) (g.right h.0 h.1 h.2 h.3)
      go (no h) =
          let p = f.wrong (λ s k l m. h (s, k, l, m)) in
          let q = g.wrong (λ s k l m. h (s, k, l, m)) in
          (p.0 ∙ sym q.0, p.1 ∙ sym q.1, p.2 ∙ sym q.2)

  pub first_from_unique : (i v : ℕ) (a b w z : List ℕ) (x y : Bool) → FirstRuns qs vs t c accepting start spent ms ls i v out work a w x
      → FirstRuns qs vs t c accepting start spent ms ls i v out work b z y → (x ≡ y) × (a ≡ b) × (w ≡ z)
  first_from_unique i v a b w z x y f g = go ordered (dec_lt i (length ms))
    where
      stays : (Sizes qs vs t c ms ls work → start < qs → spent ≤ top → length out ≡ length ms → i < length ms → ⊥) → (x ≡ y) × (a ≡ b) × (w ≡ z)
      stays h = let p = f.wrong h in let q = g.wrong h in (p.0 ∙ sym q.0, p.1 ∙ sym q.1, p.2 ∙ sym q.2)

      go : Dec (Sizes qs vs t c ms ls work × (start < qs) × (spent ≤ top) × (length out ≡ length ms)) → Dec (i < length ms) → (x ≡ y) × (a ≡ b) × (w ≡ z)
      go (yes h) (yes k) =
          finds_one (rosters (rules_of qs vs t c accepting) start spent (places ms ls)) i v out a b work w z x y (f.right h.0 h.1 h.2 h.3 k) (g.right h.0 h.1 h.2 h.3 k)
      go (no h) k = stays (λ s l m n o. h (s, l, m, n))
      go (yes h) (no k) = stays (λ s l m n o. k o)
