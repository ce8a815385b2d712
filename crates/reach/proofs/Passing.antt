-- The forward pass, place by place, and what it tells in the end.
use mathlib.Core.Path.{◌≡◌, refl, sym, ◌∙◌}
use mathlib.Core.Bool.{Bool, true, false, cond, ◌&&◌, false≢true}
use Rattle.std.proofs.Common.{Some, None}
use mathlib.Core.List.{List}
use Prim.Native.Nat.{ℕ, suc, ◌+◌, ◌*◌, ◌-◌, ◌^◌, ◌≤◌, ◌<◌}
use native.Mathlib.Numerals.{add-one}
use native.Mathlib.Omega.{arith}
use native.Mathlib.Decide.{ℕ_discrete, dec_lt}
use lib.Dec.{ltb, eqb}
use lib.ListN.{length, get_or, set, take, drop}
use lib.Pow.{pow_mono}
use lib.Seq.{get_or-set_same, get_or-set_other, ext_get_or}
use borrow.Author.Tests.{lt-ltb, eq-eqb, ne_eqb, ltb-true, eqb-true}
use Rattle.kinds.specs.Bits.{width, bit, mask_of}
use Rattle.kinds.proofs.Bits.{bit_ext, bit_mask, bit_above, mask_lt}
use Rattle.meaning.specs.Meaning.{rules_of, place, places, rosters, has, kept_at, kept}
use Rattle.meaning.specs.Lists.{any}
use Rattle.meaning.specs.Bounds.{top}
use Rattle.meaning.proofs.Members.{length_places}
use Rattle.meaning.proofs.Kept.{kept_length, kept_at_lem}
use Rattle.meaning.proofs.Lists.{any_in}
use Rattle.rooms.specs.Tables.{Filled, choices, Net, frame, layer, room, capped, need, rooms_by, Needed, Bare, Low}
use Rattle.reach.specs.Looks.{looks, lands, reach, marks, struck, lowest, Keeps, Spread, Blank, Opened, Stepped, Meant, Tells}
use Rattle.rooms.proofs.Rooms.{choice_in}
use Rattle.reach.proofs.Reach.{looks_in}
use Rattle.rooms.proofs.Layering.{needed_rooms, drop_places, bare_fill}
use Rattle.reach.proofs.Needing.{rooms_copied}
use Rattle.reach.proofs.Front.{Front, front_opens, kept_is, front_goes}
use Rattle.reach.proofs.Verdicts.{verdict_some, verdict_none}

-- a mask of w bits of which those at and above k are not set
mask_low : (w k m : ℕ) (g : ℕ → Bool) → k ≤ w → m < 2 ^ w → ((u : ℕ) → u < k → bit m u ≡ g u) → ((u : ℕ) → k ≤ u → u < w → bit m u ≡ false) → m ≡ mask_of g k
mask_low w k m g h l low high =
    bit_ext w m (mask_of g k) l (omega (arith, mask_lt g k, pow_mono {i = k} {j = w} h)) (λ u d. go u d (dec_lt u k))
  where
    go : (u : ℕ) → u < w → Dec (u < k) → bit m u ≡ bit (mask_of g k) u
    go u d (yes e) = low u e ∙ sym (bit_mask g k u e)
    go u d (no e) = high u (omega arith) d ∙ sym (bit_above k (mask_of g k) u (mask_lt g k) (omega arith))

-- no look marks a value that is none
marks_none : (a : Net) (next front : ℕ → ℕ) (qs vs m u : ℕ) → vs ≤ u → marks a next front u (looks qs (choices vs m)) ≡ false
unfolding marks
marks_none a next front qs vs m u h = go _ refl
  where
    none : (u v : ℕ) (b : Bool) → v < u → (b && eqb u v) ≡ true → ⊥
    none u v true h e = let d : u ≡ v = eqb-true _ _ e in omega arith
    none u v false h e = false≢true e

    go : (b : Bool) → marks a next front u (looks qs (choices vs m)) ≡ b → b ≡ false
    go false e = refl
    go true e =
        let k = any_in (λ x. lands a next front x && eqb u x.value) (looks qs (choices vs m)) e in
        let c = choice_in vs m (looks_in qs (choices vs m) k.1).1 in
        absurd (none u k.0.value (lands a next front k.0) (omega (arith, c.0)) k.2)

-- the front opened, and one place stepped, as the code does it
pub opened_is : {n start spent room x : ℕ} {was mid : List ℕ} → start < n → n ≤ length mid → Filled (λ k. 366001) n was mid → x ≡ struck spent room
    → Opened n start spent room (set mid start x)
unfolding top
opened_is {n} {start} {spent} {room} {x} {was} {mid} h l f e = record { right = λ q k. go q k (ℕ_discrete q start) }
  where
    go : (q : ℕ) → q < n → Dec (q ≡ start) → get_or (set mid start x) q 0 ≡ cond (eqb q start) (struck spent room) 366001
    go q k (yes d) = rw (d, eq-eqb start start refl) (get_or-set_same mid start x 0 (omega arith) ∙ e)
    go q k (no d) = rw (ne_eqb q start d) (get_or-set_other mid start q x 0 d ∙ f.done q k)

pub stepped_is : {a : Net} {qs x : ℕ} {vs row front needs onward mid front' needs' onward' : List ℕ} → Blank qs onward → Filled (λ k. get_or row k 0) qs needs needs'
    → Keeps a qs vs front needs' x → Spread a qs vs front mid → Filled (λ q. struck (get_or mid q 0) (rooms_by needs' q)) qs front front' → Filled (λ k. suc top) qs mid onward'
    → Stepped a qs vs row front needs onward front' needs' onward' x
stepped_is n l k w f b = record {
  loaded = l;
  costs = λ t h. f.done t h ∙ rw (w.right t h, n.none t h);
  values = k.values;
  small = k.small;
  blank = b.done;
}

pub record Passing (a : Net) (qs vs spent : ℕ) (ms work first front needs onward out : List ℕ) (i : ℕ) : Type 0 where
  pub low : Low qs front
  pub blank : (t : ℕ) → t < qs → get_or onward t 0 ≡ suc top
  pub bare : Bare qs needs
  pub reached : (start : ℕ) → start < qs → Opened qs start spent (suc top - get_or work start 0) first → (t c ls : List ℕ) (accepting : ℕ) → Meant a qs vs ms work t c ls accepting
      → Front (rules_of qs vs t c accepting) start spent (places ms ls) front i a
  pub masks : (start : ℕ) → start < qs → Opened qs start spent (suc top - get_or work start 0) first → (t c ls : List ℕ) (accepting : ℕ) → Meant a qs vs ms work t c ls accepting
      → (j : ℕ) → j < i → get_or out j 0 ≡ kept_at vs (rosters (rules_of qs vs t c accepting) start spent (places ms ls)) j

top_next : 366001 ≡ suc top
unfolding top
top_next = refl

module _ (a : Net) (qs vs spent : ℕ) (ms work first : List ℕ) (hs : spent ≤ top) where
  opened_low : (start room : ℕ) → Opened qs start spent room first → Low qs first
  opened_low start room o = record { low = λ k h. go k (o.right k h) (eqb k start) (ltb spent room) refl refl }
    where
      go : (k : ℕ) → get_or first k 0 ≡ cond (eqb k start) (cond (ltb spent room) spent (suc top)) (suc top) → (b d : Bool) → eqb k start ≡ b → ltb spent room ≡ d → get_or first k 0 ≤ suc top
      go k e true true f g = rw (e, f, g) (omega arith)
      go k e true false f g = rw (e, f, g) (omega arith)
      go k e false d f g = rw (e, f) (omega arith)

  -- the room of the start, as the work table has it
  start_room : (start : ℕ) → start < qs → (t c ls : List ℕ) (accepting : ℕ) → Meant a qs vs ms work t c ls accepting
      → suc top - get_or work start 0 ≡ capped top (room (frame a qs vs accepting) (places ms ls) start)
  unfolding layer
  start_room start h t c ls accepting m =
      let d : 0 * 64 + start ≡ start = omega arith in
      let e : get_or work (0 * 64 + start) 0 ≡ need (layer (frame a qs vs accepting) ms ls 0 start) = m.rooms.right 0 start (omega arith) (omega arith) h in
      needed_rooms top (room (frame a qs vs accepting) (places ms ls) start) (get_or work start 0) (rw d at e)

  pub passing_opens : (start : ℕ) (needs onward was out : List ℕ) → start < qs → Opened qs start spent (suc top - get_or work start 0) first
      → Filled (λ k. 366001) qs was onward → Needed (λ t. 0) qs needs → Passing a qs vs spent ms work first first needs onward out 0
  passing_opens start needs onward was out h o f l = record {
    low = opened_low start (suc top - get_or work start 0) o;
    blank = λ t k. f.done t k ∙ top_next;
    bare = record { none = l.none };
    reached = λ s k p t c ls accepting m. opens s k p t c ls accepting m;
    masks = λ s k p t c ls accepting m j d. absurd (omega arith);
  }
    where
      opens : (start : ℕ) → start < qs → Opened qs start spent (suc top - get_or work start 0) first → (t c ls : List ℕ) (accepting : ℕ) → Meant a qs vs ms work t c ls accepting
          → Front (rules_of qs vs t c accepting) start spent (places ms ls) first 0 a
      opens start k p t c ls accepting m =
          front_opens (rules_of qs vs t c accepting) a m.arcs start spent (places ms ls) first k hs there only
        where
          e : suc top - get_or work start 0 ≡ capped top (room (frame a qs vs accepting) (places ms ls) start)
          e = start_room start k t c ls accepting m

          there : spent < room (frame a qs vs accepting) (places ms ls) start → get_or first start 0 ≡ spent
          there g = p.right start k ∙ rw (eq-eqb start start refl, lt-ltb spent (suc top - get_or work start 0) (omega (arith, e)))

          only : (q : ℕ) → q < qs → get_or first q 0 ≤ top → (q ≡ start) × (get_or first q 0 ≡ spent) × (spent < room (frame a qs vs accepting) (places ms ls) start)
          only q hq l = go (p.right q hq) (eqb q start) (ltb spent (suc top - get_or work start 0)) refl refl
            where
              go : get_or first q 0 ≡ cond (eqb q start) (cond (ltb spent (suc top - get_or work start 0)) spent (suc top)) (suc top) → (b d : Bool) → eqb q start ≡ b → ltb spent (suc top - get_or work start 0) ≡ d
                  → (q ≡ start) × (get_or first q 0 ≡ spent) × (spent < room (frame a qs vs accepting) (places ms ls) start)
              go x true true f g = (eqb-true _ _ f, x ∙ rw (f, g), let z : spent < suc top - get_or work start 0 = ltb-true _ _ g in omega (arith, e))
              go x true false f g = let z : get_or first q 0 ≡ suc top = x ∙ rw (f, g) in absurd (omega arith)
              go x false d f g = let z : get_or first q 0 ≡ suc top = x ∙ rw f in absurd (omega arith)

  module _ (i : ℕ) (front needs onward out front' needs' onward' : List ℕ) (x : ℕ) (few : vs ≤ width) (hi : i < length ms)
      (ho : length out ≡ length ms) (h64 : qs ≤ 64) (l : length needs ≡ 256) (l' : length needs' ≡ length needs) (p : Passing a qs vs spent ms work first front needs onward out i)
      (s : Stepped a qs (choices vs (get_or ms i 0)) (take ((i + 1) * 64 + 64 - (i + 1) * 64) (drop ((i + 1) * 64) work)) front needs onward front' needs' onward' x) where
    still_low : Low qs front'
    still_low = record { low = λ t h. go t (ltb (reach a (λ q. get_or front q 0) (get_or onward t 0) t (looks qs (choices vs (get_or ms i 0)))) (rooms_by needs' t)) refl (s.costs t h) }
      where
        go : (t : ℕ) → (b : Bool) → let y = reach a (λ q. get_or front q 0) (get_or onward t 0) t (looks qs (choices vs (get_or ms i 0))) in
            ltb y (rooms_by needs' t) ≡ b → get_or front' t 0 ≡ cond (ltb y (rooms_by needs' t)) y (suc top) → get_or front' t 0 ≤ suc top
        go t true e d =
            let l : reach a (λ q. get_or front q 0) (get_or onward t 0) t (looks qs (choices vs (get_or ms i 0))) < rooms_by needs' t = ltb-true _ _ e in
            rw (d, e) (omega arith)
        go t false e d = rw (d, e) (omega arith)

    module _ (t c ls : List ℕ) (accepting : ℕ) (m : Meant a qs vs ms work t c ls accepting) where
      rooms : (u : ℕ) → rooms_by needs' u ≡ capped (get_or ls i 0) (room (frame a qs vs accepting) (drop (suc i) (places ms ls)) u)
      rooms = rooms_copied (frame a qs vs accepting) ms ls m.limits i work needs needs' h64 l l' hi m.rooms p.bare s.loaded

    pub passing_more : Passing a qs vs spent ms work first front' needs' onward' (set out i x) (i + 1)
    unfolding kept_at
    passing_more = record {
      low = still_low;
      blank = s.blank;
      bare = bare_fill l' p.bare s.loaded;
      reached = reached;
      masks = masks;
    }
      where
        reached : (start : ℕ) → start < qs → Opened qs start spent (suc top - get_or work start 0) first → (t c ls : List ℕ) (accepting : ℕ) → Meant a qs vs ms work t c ls accepting
            → Front (rules_of qs vs t c accepting) start spent (places ms ls) front' (i + 1) a
        reached start h o t c ls accepting m =
            rw add-one (front_goes (rules_of qs vs t c accepting) a m.arcs start spent (places ms ls) i (place (get_or ms i 0) (get_or ls i 0)) front front' (rooms_by needs')
            (drop_places ms ls i m.limits hi) (rooms t c ls accepting m) (p.reached start h o t c ls accepting m)
            (λ u l. s.costs u l ∙ rw (p.blank u l)))

        masks : (start : ℕ) → start < qs → Opened qs start spent (suc top - get_or work start 0) first → (t c ls : List ℕ) (accepting : ℕ) → Meant a qs vs ms work t c ls accepting
            → (j : ℕ) → j < i + 1 → get_or (set out i x) j 0 ≡ kept_at vs (rosters (rules_of qs vs t c accepting) start spent (places ms ls)) j
        masks start h o t c ls accepting m j l = go (ℕ_discrete j i)
          where
            is : (v : ℕ) → any (has i v) (rosters (rules_of qs vs t c accepting) start spent (places ms ls))
                ≡ marks a (rooms_by needs') (λ q. get_or front q 0) v (looks qs (choices vs (get_or ms i 0)))
            is = kept_is (rules_of qs vs t c accepting) a m.arcs start spent (places ms ls) i (place (get_or ms i 0) (get_or ls i 0)) front front' (rooms_by needs')
                (drop_places ms ls i m.limits hi) (rooms t c ls accepting m) (p.reached start h o t c ls accepting m)

            go : Dec (j ≡ i) → get_or (set out i x) j 0 ≡ mask_of (λ v. any (has j v) (rosters (rules_of qs vs t c accepting) start spent (places ms ls))) vs
            go (yes d) = rw d (get_or-set_same out i x 0 (omega arith)
                ∙ mask_low width vs x (λ v. any (has i v) (rosters (rules_of qs vs t c accepting) start spent (places ms ls))) few s.small
                (λ u k. s.values u (omega arith) ∙ sym (is u))
                (λ u k b. s.values u b ∙ marks_none a (rooms_by needs') (λ q. get_or front q 0) qs vs (get_or ms i 0) u k))
            go (no d) = get_or-set_other out i j x 0 d ∙ p.masks start h o t c ls accepting m j (omega arith)

  module _ (start i l : ℕ) (front needs onward out : List ℕ) (h : start < qs) (o : Opened qs start spent (suc top - get_or work start 0) first) (hi : i ≤ length ms) (hj : length ms ≤ i)
      (ho : length out ≡ length ms) (p : Passing a qs vs spent ms work first front needs onward out i) (e : l ≡ lowest front qs) where
    ends : (t c ls : List ℕ) (accepting : ℕ) → Meant a qs vs ms work t c ls accepting → Front (rules_of qs vs t c accepting) start spent (places ms ls) front (length (places ms ls)) a
    ends t c ls accepting m =
        let d : i ≡ length (places ms ls) = omega (arith, length_places ms ls (sym m.limits)) in
        rw d at (p.reached start h o t c ls accepting m)

    masks : (t c ls : List ℕ) (accepting : ℕ) → Meant a qs vs ms work t c ls accepting
        → out ≡ kept vs (length (places ms ls)) (rosters (rules_of qs vs t c accepting) start spent (places ms ls))
    masks t c ls accepting m =
        let n = length_places ms ls (sym m.limits) in
        ext_get_or 0 out (kept vs (length (places ms ls)) (rosters (rules_of qs vs t c accepting) start spent (places ms ls)))
        (ho ∙ (sym n ∙ sym (kept_length vs (length (places ms ls)) (rosters (rules_of qs vs t c accepting) start spent (places ms ls)))))
        (λ j k. p.masks start h o t c ls accepting m j (omega arith)
        ∙ sym (kept_at_lem vs (length (places ms ls)) (rosters (rules_of qs vs t c accepting) start spent (places ms ls)) j (omega (arith, n))))

    pub passing_some : l ≤ top → Tells a qs vs start spent ms work out (Some l)
    passing_some k = record {
      most = k;
      right = λ t c ls accepting m. verdict_some (rules_of qs vs t c accepting) a m.arcs start spent (places ms ls) front (ends t c ls accepting m) out l (masks t c ls accepting m) e k;
    }

    pub passing_none : top < l → Tells a qs vs start spent ms work out None
    passing_none k = record {
      most = tt;
      right = λ t c ls accepting m. verdict_none (rules_of qs vs t c accepting) a m.arcs start spent (places ms ls) front (ends t c ls accepting m) out l (masks t c ls accepting m) e k;
    }
