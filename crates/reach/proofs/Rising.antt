-- Fronts that are other fronts with a rise, and the least costs that the last places have spread.
use mathlib.Core.Path.{◌≡◌, refl, sym, ap, ◌∙◌}
use mathlib.Core.Bool.{Bool, true, false, cond}
use mathlib.Core.List.{List, [], ◌∷◌}
use mathlib.Core.List.Memᴰ.{head}
use mathlib.Core.List.Memᴰ.{tail}
use mathlib.Core.List.{Memᴰ as In}
use Prim.Native.Nat.{ℕ, suc, ◌+◌, ◌*◌, ◌-◌, ◌≤◌, ◌<◌, min}
use native.Mathlib.Omega.{arith}
use native.Mathlib.Decide.{ℕ_discrete}
use lib.Dec.{eqb}
use lib.ListN.{length, get_or, set, take, drop, replicate, get_or-replicate}
use lib.Seq.{get_or-set_same, get_or-set_other}
use borrow.Rule.Slice.PartMut.{put_mid, mid_of, mid_len}
use Rattle.meaning.specs.Bounds.{top}
use Rattle.rooms.specs.Tables.{Net, choices, copied, Filled, Matches, Laid, Low}
use Rattle.rooms.proofs.Filling.{row_part, copied_filled, laid_put}
use Rattle.reach.specs.Looks.{Look, looks, leads, reach, Swept, Spread, Blank, Lows, Known, Past}
use Rattle.reach.proofs.Reach.{looks_in, reach_low}

-- least costs rise as much as the front does
module _ (a : Net) where
  rise_one : (x fee r d : ℕ) → r ≤ suc top → min (min (suc top) (x + d) + fee) (min (suc top) (r + d)) ≡ min (suc top) (min (x + fee) r + d)
  rise_one x fee r d h = omega arith

  reach_rises : (f g : ℕ → ℕ) (d t : ℕ) (xs : List Look) → ((x : Look) → In x xs → g x.state ≡ min (suc top) (f x.state + d))
      → reach a g (suc top) t xs ≡ min (suc top) (reach a f (suc top) t xs + d)
  unfolding reach
  reach_rises f g d t [] h = omega arith
  reach_rises f g d t (x ∷ xs) h = rw (h x (head refl), reach_rises f g d t xs (λ y m. h y (tail m))) (go (eqb (leads a x) t))
    where
      go : (b : Bool) → cond b (min (min (suc top) (f x.state + d) + a.fee x.state x.value) (min (suc top) (reach a f (suc top) t xs + d))) (min (suc top) (reach a f (suc top) t xs + d))
          ≡ min (suc top) (cond b (min (f x.state + a.fee x.state x.value) (reach a f (suc top) t xs)) (reach a f (suc top) t xs) + d)
      go true = rise_one (f x.state) (a.fee x.state x.value) (reach a f (suc top) t xs) d (reach_low a f (suc top) t xs)
      go false = refl

  reach_same : (f g : ℕ → ℕ) (most t : ℕ) (xs : List Look) → ((x : Look) → In x xs → g x.state ≡ f x.state) → reach a g most t xs ≡ reach a f most t xs
  unfolding reach
  reach_same f g most t [] h = refl
  reach_same f g most t (x ∷ xs) h = rw (h x (head refl), reach_same f g most t xs (λ y m. h y (tail m)))

pub spread_low : {a : Net} {qs : ℕ} {vs front is : List ℕ} → Spread a qs vs front is → Low qs is
spread_low {a} {qs} {vs} {front} s = record { low = λ k h. rw (s.right k h) (reach_low a (λ q. get_or front q 0) (suc top) k (looks qs vs)) }

-- a slot found, as the code finds it
pub known_is : {n mask slot rise : ℕ} {front fronts held : List ℕ} {b : Bool} → n ≤ 64 → rise ≤ suc top → (mask ≡ 0 → ⊥) → get_or held slot 0 ≡ mask
    → Matches (λ k. min (suc top) (get_or (take (slot * 64 + 64 - slot * 64) (drop (slot * 64) fronts)) k 0 + rise)) n front b → b ≡ true → Known n mask slot rise front fronts held
known_is {n} {mask} {slot} {rise} {front} {fronts} {held} h u z e r d = record {
  low = u;
  some = omega arith;
  same = e;
  row = λ k l. r.is d k l ∙ ap (λ (x : ℕ). min (suc top) (x + rise)) (row_part fronts slot (slot * 64 + 64 - slot * 64) k (omega arith));
}

pub slot_low : {n slot : ℕ} {fronts held : List ℕ} → n ≤ 64 → slot < 8 → 0 < get_or held slot 0 → Lows n fronts held → Low n (take (slot * 64 + 64 - slot * 64) (drop (slot * 64) fronts))
slot_low {n} {slot} {fronts} {held} h l z w = record { low = λ k m. rw (row_part fronts slot (slot * 64 + 64 - slot * 64) k (omega arith)) (w.low slot k l z m) }

-- a row noted in a slot
pub laid_copy : {n : ℕ} (slot : ℕ) (row was : List ℕ) {ys : List ℕ} → n ≤ 64 → n ≤ length row → slot * 64 + 64 ≤ length was
    → length ys ≡ length (mid_of (slot * 64) (slot * 64 + 64 - slot * 64) was) → ys ≡ copied n row (mid_of (slot * 64) (slot * 64 + 64 - slot * 64) was)
    → Laid (λ k. get_or row k 0) n slot was (put_mid (slot * 64) (slot * 64 + 64 - slot * 64) was ys)
laid_copy {n} slot row was {ys} h m l e d =
    laid_put slot (slot * 64) was ys h refl l e (copied_filled n row m (omega (arith, mid_len (slot * 64) (slot * 64 + 64) was l)) d)

module _ (a : Net) (qs vs : ℕ) where
  pub past_none : (fronts onwards : List ℕ) → Past a qs vs fronts onwards (replicate 8 0)
  past_none fronts onwards = record {
    lows = record { low = λ s k h z l. absurd (omega (arith, get_or-replicate {A = ℕ} 8 s 0 0 h)) };
    right = λ s t h z l. absurd (omega (arith, get_or-replicate {A = ℕ} 8 s 0 0 h));
  }

  pub past_low : {slot : ℕ} {fronts onwards held : List ℕ} → qs ≤ 64 → slot < 8 → 0 < get_or held slot 0 → Past a qs vs fronts onwards held
      → Low qs (take (slot * 64 + 64 - slot * 64) (drop (slot * 64) onwards))
  past_low {slot} {fronts} {onwards} {held} h l z p = record {
    low = λ k m. rw (row_part onwards slot (slot * 64 + 64 - slot * 64) k (omega arith), p.right slot k l z m)
        (reach_low a (λ q. get_or fronts (slot * 64 + q) 0) (suc top) k (looks qs (choices vs (get_or held slot 0))));
  }

  -- the least costs of a slot, with their rise
  pub spread_known : (slot m rise : ℕ) (front fronts onwards held was is : List ℕ) → qs ≤ 64 → slot < 8 → Past a qs vs fronts onwards held
      → Known qs m slot rise front fronts held
      → Filled (λ k. min (suc top) (get_or (take (slot * 64 + 64 - slot * 64) (drop (slot * 64) onwards)) k 0 + rise)) qs was is → Spread a qs (choices vs m) front is
  spread_known slot m rise front fronts onwards held was is h l p k f = record {
    right = λ t ht. f.done t ht
        ∙ (ap (λ (x : ℕ). min (suc top) (x + rise)) (row_part onwards slot (slot * 64 + 64 - slot * 64) t (omega arith) ∙ p.right slot t l k.some ht)
        ∙ (sym (reach_rises a (λ q. get_or fronts (slot * 64 + q) 0) (λ q. get_or front q 0) rise t (looks qs (choices vs (get_or held slot 0)))
        (λ x i. k.row x.state (looks_in qs (choices vs (get_or held slot 0)) i).0))
        ∙ rw k.same));
  }

  pub spread_swept : (m : ℕ) {front was is : List ℕ} → Blank qs was → Swept a qs (choices vs m) front was is → Spread a qs (choices vs m) front is
  spread_swept m b s = record { right = λ t h. s.costs t ∙ rw (b.none t h) }

  -- and noted
  pub past_noted : (slot m : ℕ) (front onward fronts onwards held fronts' onwards' held' : List ℕ) → qs ≤ 64 → slot < length held → Low qs front
      → Past a qs vs fronts onwards held → Spread a qs (choices vs m) front onward → Laid (λ k. get_or front k 0) qs slot fronts fronts' → Laid (λ k. get_or onward k 0) qs slot onwards onwards'
      → held' ≡ set held slot m → Past a qs vs fronts' onwards' held'
  past_noted slot m front onward fronts onwards held fronts' onwards' held' h64 hl low p s x y e = record { lows = record { low = λ s k h z l. lows s k h z l (ℕ_discrete s slot) }; right = λ s t h z l. right s t h z l (ℕ_discrete s slot) }
    where
      same : get_or held' slot 0 ≡ m
      same = rw e (get_or-set_same held slot m 0 hl)

      other : (s : ℕ) → (s ≡ slot → ⊥) → get_or held' s 0 ≡ get_or held s 0
      other s d = rw e (get_or-set_other held slot s m 0 d)

      lows : (s k : ℕ) → s < 8 → 0 < get_or held' s 0 → k < qs → Dec (s ≡ slot) → get_or fronts' (s * 64 + k) 0 ≤ suc top
      lows s k h z l (yes d) = rw (d, x.row k l) (low.low k l)
      lows s k h z l (no d) = rw (x.others s k (omega arith) (λ q r. d q)) (p.lows.low s k h (rw (other s d) at z) l)

      right : (s t : ℕ) → s < 8 → 0 < get_or held' s 0 → t < qs → Dec (s ≡ slot)
          → get_or onwards' (s * 64 + t) 0 ≡ reach a (λ q. get_or fronts' (s * 64 + q) 0) (suc top) t (looks qs (choices vs (get_or held' s 0)))
      right u t h z l (yes d) = rw (d, same) (y.row t l ∙ (s.right t l
          ∙ sym (reach_same a (λ q. get_or front q 0) (λ q. get_or fronts' (slot * 64 + q) 0) (suc top) t (looks qs (choices vs m)) (λ w i. x.row w.state (looks_in qs (choices vs m) i).0))))
      right u t h z l (no d) = rw (other u d) (y.others u t (omega arith) (λ q r. d q) ∙ (p.right u t h (rw (other u d) at z) l
          ∙ sym (reach_same a (λ q. get_or fronts (u * 64 + q) 0) (λ q. get_or fronts' (u * 64 + q) 0) (suc top) t (looks qs (choices vs (get_or held u 0)))
          (λ w i. x.others u w.state (omega (arith, (looks_in qs (choices vs (get_or held u 0)) i).0)) (λ q r. d q)))))
