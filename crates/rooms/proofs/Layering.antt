-- The rows of the work table, laid layer by layer.
use mathlib.Core.Path.{◌≡◌, refl, sym, ap, ◌∙◌}
use mathlib.Core.Bool.{Bool, true, false, cond}
use mathlib.Core.List.{List, [], ◌∷◌}
use Prim.Native.Nat.{ℕ, zero, suc, ◌+◌, ◌*◌, ◌-◌, ◌≤◌, ◌<◌, max}
use native.Mathlib.Numerals.{add-one}
use native.Mathlib.Omega.{arith}
use native.Mathlib.Decide.{ℕ_discrete, dec_lt}
use lib.ListN.{length, get_or, replicate, take, drop, length-replicate, get_or-replicate, get_or-eq_default}
use borrow.Author.Tests.{lt-ltb, le-ltb}
use borrow.Rule.Slice.PartMut.{put_mid, mid_of, same_len_mid}
use Rattle.kinds.specs.Bits.{bit}
use Rattle.meaning.specs.Meaning.{Place, place, places}
use Rattle.meaning.specs.Bounds.{top}
use Rattle.rooms.specs.Tables.{Filled, choices, best, need, need_at, rooms_by, capped, before, Frame, room, layer, Layers, LowBehind, Laid, Low, Needed, Bare}
use Rattle.ranks.proofs.Parts.{within}
use Rattle.rooms.proofs.Filling.{row_part, laid_put}

-- a row that was filled as a middle part, and then settled there
pub laid_settled : {g : ℕ → ℕ} {n : ℕ} (i least : ℕ) (work : List ℕ) {ys zs needs now : List ℕ} → n ≤ 64 → i * 64 + 64 ≤ length work
    → length ys ≡ length (mid_of (i * 64) (i * 64 + 64 - i * 64) work) → Filled g n (mid_of (i * 64) (i * 64 + 64 - i * 64) work) ys
    → length zs ≡ length (mid_of (i * 64) (i * 64 + 64 - i * 64) (put_mid (i * 64) (i * 64 + 64 - i * 64) work ys))
    → Filled (λ k. max (get_or (mid_of (i * 64) (i * 64 + 64 - i * 64) (put_mid (i * 64) (i * 64 + 64 - i * 64) work ys)) k 0) least) n
    (mid_of (i * 64) (i * 64 + 64 - i * 64) (put_mid (i * 64) (i * 64 + 64 - i * 64) work ys)) zs
    × Filled (λ k. max (get_or (mid_of (i * 64) (i * 64 + 64 - i * 64) (put_mid (i * 64) (i * 64 + 64 - i * 64) work ys)) k 0) least) n needs now
    → Laid (λ q. max (g q) least) n i work (put_mid (i * 64) (i * 64 + 64 - i * 64) (put_mid (i * 64) (i * 64 + 64 - i * 64) work ys) zs) × Filled (λ q. max (g q) least) n needs now
laid_settled {g} {n} i least work {ys} {zs} h l e f d s = (
  record { row = λ q k. z.row q k ∙ settled q k; others = λ j q m k. z.others j q m k ∙ y.others j q m k },
  record { done = λ q k. s.1.done q k ∙ settled q k; left = s.1.left },
)
  where
    mid : List ℕ
    mid = put_mid (i * 64) (i * 64 + 64 - i * 64) work ys

    y : Laid g n i work mid
    y = laid_put i (i * 64) work ys h refl l e f

    z : Laid (λ k. max (get_or (mid_of (i * 64) (i * 64 + 64 - i * 64) mid) k 0) least) n i mid (put_mid (i * 64) (i * 64 + 64 - i * 64) mid zs)
    z = laid_put i (i * 64) mid zs h refl (omega (arith, same_len_mid (i * 64) (i * 64 + 64 - i * 64) work ys e)) d s.0

    settled : (q : ℕ) → q < n → max (get_or (mid_of (i * 64) (i * 64 + 64 - i * 64) mid) q 0) least ≡ max (g q) least
    settled q k = rw (row_part mid i (i * 64 + 64 - i * 64) q (omega arith), y.row q k)

pub copied_row : (i : ℕ) (work : List ℕ) (n : ℕ) (next now : List ℕ) → n ≤ 64
    → Filled (λ k. get_or (take ((i + 1) * 64 + 64 - (i + 1) * 64) (drop ((i + 1) * 64) work)) k 0) n next now → (u : ℕ) → u < n → get_or now u 0 ≡ get_or work (suc i * 64 + u) 0
copied_row i work n next now h l u k = l.done u k ∙ (row_part work (i + 1) ((i + 1) * 64 + 64 - (i + 1) * 64) u (omega arith) ∙ rw add-one)

-- the greatest need for every target byte, before the last layer is loaded
pub needed_none : (n : ℕ) {x : ℕ} → x ≡ suc top → Needed (λ t. 0) n (replicate 256 x)
needed_none n {x} e = record { done = λ k h. at k (dec_lt k 256) ∙ omega arith; none = λ k h. at k (dec_lt k 256) }
  where
    at : (k : ℕ) → Dec (k < 256) → need_at (replicate 256 x) k ≡ suc top
    at k (yes h) = get_or-replicate 256 k x (suc top) h ∙ e
    at k (no h) = get_or-eq_default (replicate 256 x) (suc top) {n = k} (omega (arith, length-replicate 256 x))

-- the room that a need stands for
pub needed_rooms : (l room need : ℕ) → need ≡ suc top - capped l room → suc top - need ≡ capped l room
needed_rooms l room need e = omega arith

-- places one by one
pub drop_places : (ms ls : List ℕ) (i : ℕ) → length ls ≡ length ms → i < length ms
    → drop i (places ms ls) ≡ place (get_or ms i 0) (get_or ls i 0) ∷ drop (suc i) (places ms ls)
unfolding places
drop_places [] ls i e h = absurd (omega arith)
drop_places (m ∷ ms) [] i e h = absurd (omega arith)
drop_places (m ∷ ms) (l ∷ ls) zero e h = refl
drop_places (m ∷ ms) (l ∷ ls) (suc i) e h = drop_places ms ls i (omega arith) (omega arith)

pub drop_all : (ms ls : List ℕ) → length ls ≡ length ms → drop (length ms) (places ms ls) ≡ []
unfolding places
drop_all [] ls e = refl
drop_all (m ∷ ms) [] e = absurd (omega arith)
drop_all (m ∷ ms) (l ∷ ls) e = drop_all ms ls (omega arith)

-- a row of needs that was filled anew: none still for what is no state
pub bare_fill : {f : ℕ → ℕ} {n : ℕ} {needs now : List ℕ} → length now ≡ length needs → Bare n needs → Filled f n needs now → Bare n now
bare_fill {n = n} {needs} {now} e b f = record { none = λ k h. go k h (dec_lt k (length now)) }
  where
    go : (k : ℕ) → n ≤ k → Dec (k < length now) → need_at now k ≡ suc top
    go k h (yes l) = within now k (suc top) 0 l ∙ (f.left k h ∙ (within needs k 0 (suc top) (omega arith) ∙ b.none k h))
    go k h (no l) = get_or-eq_default now (suc top) {n = k} (omega arith)

-- a row of needs, at whatever target, where what is no state has no room
pub needed_at : {r : ℕ → ℕ} {n : ℕ} {needs : List ℕ} → ((q : ℕ) → n ≤ q → r q ≡ 0) → Needed r n needs → (t : ℕ) → need_at needs t ≡ need (r t)
needed_at {r} {n} {needs} z l t = go (dec_lt t n)
  where
    go : Dec (t < n) → need_at needs t ≡ need (r t)
    go (yes h) = l.done t h
    go (no h) = omega (arith, l.none t (omega arith), z t (omega arith))

pub needed_fill : {g : ℕ → ℕ} {n : ℕ} (r : ℕ → ℕ) {needs now : List ℕ} → n ≤ length now → length now ≡ length needs → Bare n needs
    → Filled g n needs now → ((q : ℕ) → q < n → g q ≡ need (r q)) → Needed r n now
needed_fill r {now = now} l m a b e =
    record { done = λ q d. within now q (suc top) 0 (omega arith) ∙ (b.done q d ∙ e q d); none = (bare_fill m a b).none }

module _ (f : Frame) (ms ls : List ℕ) (same : length ls ≡ length ms) where
  -- no room at what is no state
  pub layer_none : (i q : ℕ) → f.states ≤ q → layer f ms ls i q ≡ 0
  unfolding layer room
  layer_none i q h = ap (capped (before ls i)) (none (drop i (places ms ls))) ∙ omega arith
    where
      none : (ps : List Place) → room f ps q ≡ 0
      none [] = rw (le-ltb q f.states h)
      none (p ∷ ps) = rw (le-ltb q f.states h)

  pub layer_low : (i q : ℕ) → layer f ms ls i q ≤ suc top
  unfolding layer
  layer_low i q = omega arith

  -- the last layer
  pub last_row : (least q : ℕ) → least ≡ top - before ls (length ms) → q < f.states → max (cond (bit f.accepting q) 0 (suc top)) least ≡ need (layer f ms ls (length ms) q)
  unfolding layer room
  last_row least q e h = rw (drop_all ms ls same, lt-ltb q f.states h) (go (bit f.accepting q))
    where
      go : (b : Bool) → max (cond b 0 (suc top)) least ≡ need (capped (before ls (length ms)) (cond b (suc top) 0))
      go true = omega arith
      go false = omega arith

  pub layers_last : (least : ℕ) (was work needs now : List ℕ) → f.states ≤ length now → length now ≡ length needs → least ≡ top - before ls (length ms) → Needed (λ t. 0) f.states needs
      → Laid (λ q. max (cond (bit f.accepting q) 0 (suc top)) least) f.states (length ms) was work
      × Filled (λ q. max (cond (bit f.accepting q) 0 (suc top)) least) f.states needs now
      → Layers f ms ls (length ms) work × Needed (layer f ms ls (length ms)) f.states now
  layers_last least was work needs now long m e l y =
      (record { right = λ j q h k hq. at j q (omega arith) hq }, needed_fill (layer f ms ls (length ms)) long m (record { none = l.none }) y.1 (λ q h. last_row least q e h))
    where
      at : (j q : ℕ) → j ≡ length ms → q < f.states → get_or work (j * 64 + q) 0 ≡ need (layer f ms ls j q)
      at j q d hq = rw d (y.0.row q hq ∙ last_row least q e hq)

  -- one layer more: a layer before the last, from the layer behind it
  pub layer_best : (i q : ℕ) → i < length ms → q < f.states
      → layer f ms ls i q ≡ capped (before ls i) (best f.net (layer f ms ls (suc i)) q (choices f.values (get_or ms i 0)))
  unfolding layer room
  layer_best i q h hq = rw (drop_places ms ls i same h, lt-ltb q f.states hq)

  pub more_row : (i least q : ℕ) (needs : List ℕ) → i < length ms → least ≡ top - before ls i → Needed (layer f ms ls (suc i)) f.states needs → q < f.states
      → max (need (best f.net (rooms_by needs) q (choices f.values (get_or ms i 0)))) least ≡ need (layer f ms ls i q)
  unfolding layer
  more_row i least q needs h e l hq =
      let n : ◌≡◌ {A = ℕ → ℕ} (rooms_by needs) (layer f ms ls (suc i)) = λ j t. needed_rooms _ _ _ (needed_at (layer_none (suc i)) l t) j in
      rw (layer_best i q h hq, n) (omega arith)

  -- any row that is layer i, laid before the layers behind it
  pub layers_lay : (g : ℕ → ℕ) (i : ℕ) {was work needs now : List ℕ} → f.states ≤ 64 → length needs ≡ 256 → length now ≡ length needs → i < length ms
      → ((q : ℕ) → q < f.states → g q ≡ need (layer f ms ls i q))
      → Layers f ms ls (i + 1) was × Needed (layer f ms ls (i + 1)) f.states needs → Laid g f.states i was work × Filled g f.states needs now
      → Layers f ms ls i work × Needed (layer f ms ls i) f.states now
  layers_lay g i {was} {work} {needs} {now} few long m h right r y =
      (record { right = λ j q a b hq. go j q a b hq (ℕ_discrete j i) }, needed_fill (layer f ms ls i) (omega arith) m (record { none = r.1.none }) y.1 right)
    where
      go : (j q : ℕ) → i ≤ j → j ≤ length ms → q < f.states → Dec (j ≡ i) → get_or work (j * 64 + q) 0 ≡ need (layer f ms ls j q)
      go j q a b hq (yes d) = rw d (y.0.row q hq ∙ right q hq)
      go j q a b hq (no d) = y.0.others j q (omega arith) (λ e k. d e) ∙ r.0.right j q (omega arith) b hq

  pub layers_end : {i : ℕ} {work : List ℕ} → i ≤ 0 → Layers f ms ls i work → Layers f ms ls 0 work
  layers_end {i} h y = let e : i ≡ 0 = omega arith in rw e at y

  -- a row that was copied from the filled work table
  pub row_copied : (i : ℕ) (work needs now : List ℕ) → f.states ≤ 64 → f.states ≤ length now → length now ≡ length needs → i < length ms → Layers f ms ls 0 work
      → ((k : ℕ) → f.states ≤ k → need_at needs k ≡ suc top)
      → Filled (λ k. get_or (take ((i + 1) * 64 + 64 - (i + 1) * 64) (drop ((i + 1) * 64) work)) k 0) f.states needs now
      → (u : ℕ) → need_at now u ≡ need (capped (get_or ls i 0) (room f (drop (suc i) (places ms ls)) u))
  unfolding layer
  row_copied i work needs now h l m hi r none c = needed_at (layer_none (suc i)) (needed_fill (layer f ms ls (suc i)) l m (record { none = none }) c
      (λ u k. sym (c.done u k) ∙ (copied_row i work f.states needs now h c u k ∙ r.right (suc i) u (omega arith) (omega arith) k)))

-- numbers that fit: the needs one place on, and those of the layers behind
pub needed_low : {g : ℕ → ℕ} {n : ℕ} {needs : List ℕ} → length needs ≡ 256 → Needed g n needs → Low 256 needs
needed_low {g} {n} {needs} e l = record { low = λ k h. omega (arith, within needs k 0 (suc top) (omega arith), go k (dec_lt k n)) }
  where
    go : (k : ℕ) → Dec (k < n) → need_at needs k ≤ suc top
    go k (yes h) = omega (arith, l.done k h)
    go k (no h) = omega (arith, l.none k (omega arith))

pub layers_low : {f : Frame} {ms ls : List ℕ} {i : ℕ} {work : List ℕ} → Layers f ms ls i work → LowBehind f.states (i - 1) (length ms) work
layers_low r = record { low = λ j q h l k. omega (arith, r.right j q (omega arith) l k) }
