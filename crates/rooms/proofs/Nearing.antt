-- The rows of the table by changes: each made from two loaded rows, and laid layer by layer, for one number of changes after the other.
use mathlib.Core.Path.{◌≡◌, refl, ◌∙◌, subst}
use mathlib.Core.Bool.{Bool, true, false, cond, ◌&&◌, and-false}
use mathlib.Core.List.{List, [], ◌∷◌, ◌++◌}
use Rattle.std.proofs.Common.{Some, None}
use Prim.Native.Nat.{ℕ, zero, suc, ◌+◌, ◌*◌, ◌-◌, ◌≤◌, ◌<◌, max, min}
use native.Mathlib.Omega.{arith}
use native.Mathlib.Decide.{ℕ_discrete, dec_lt}
use lib.Dec.{ltb}
use lib.ListN.{length, get_or, replicate, take, drop, length-replicate}
use lib.Seq.{drop-cons}
use borrow.Author.Tests.{lt-ltb, le-ltb, ltb-true}
use Rattle.kinds.specs.Bits.{bit}
use Rattle.meaning.specs.Meaning.{Rules, Place, places}
use Rattle.meaning.specs.Bounds.{most_changes, top}
use Rattle.rooms.specs.Tables.{Filled, Net, Same, Frame, choices, best, leaves, need, need_at, rooms_by, asks, capped, before, room, layer, Laid, Needed, Bare}
use Rattle.rooms.specs.Changes.{near_best, near_room, near_layer, row_for, NearLevels, Beside, Spare, LowRow, Fewer, near_needs, Fewest, Finds}
use Rattle.rooms.proofs.Rooms.{framed, choice_in, best_same}
use Rattle.rooms.proofs.Falling.{best_low}
use Rattle.rooms.proofs.Filling.{copied_part}
use Rattle.rooms.proofs.Layering.{needed_none, needed_rooms, needed_at, needed_fill, needed_low, bare_fill, drop_places, drop_all, last_row}

-- what two rows leave together, as the code makes it: the drawn value counts only if it is below V and the mask has it
module _ (a : Net) (fewer : ℕ → ℕ) (same : List ℕ) (vs m d : ℕ) {n : ℕ} {was : List ℕ} where
  drawn_not : {is : List ℕ} → (ltb d vs && bit m d) ≡ false → Filled (λ q. need (best a fewer q (choices vs m))) n was is → Filled (λ q. need (near_best a fewer (rooms_by same) vs m d q)) n was is
  unfolding near_best
  drawn_not e f = record { done = λ q h. rw e (f.done q h ∙ omega arith); left = f.left }

  pub drawn_high : {is : List ℕ} → vs ≤ d → Filled (λ q. need (best a fewer q (choices vs m))) n was is → Filled (λ q. need (near_best a fewer (rooms_by same) vs m d q)) n was is
  drawn_high h f = drawn_not (rw (le-ltb d vs h)) f

  pub drawn_out : {is : List ℕ} → bit m d ≡ false → Filled (λ q. need (best a fewer q (choices vs m))) n was is → Filled (λ q. need (near_best a fewer (rooms_by same) vs m d q)) n was is
  drawn_out e f = drawn_not (rw e (and-false (ltb d vs))) f

  pub drawn_in : {mid is : List ℕ} → d < vs → bit m d ≡ true → Filled (λ q. need (best a fewer q (choices vs m))) n was mid → Filled (λ q. min (asks a same q d) (get_or mid q 0)) n mid is
      → Filled (λ q. need (near_best a fewer (rooms_by same) vs m d q)) n was is
  unfolding near_best
  drawn_in h e f g = record { done = λ q k. rw (lt-ltb d vs h, e) (omega (arith, f.done q k, g.done q k)); left = λ q k. g.left q k ∙ f.left q k }

-- what is loaded for one change less: nothing where none is to be made, else the row of the next layer
pub fewer_not : {n i j : ℕ} {work fewer : List ℕ} → j ≡ 0 → Fewer n i j work fewer fewer
fewer_not h = record { none = λ e. refl; some = λ l. absurd (omega arith) }

pub fewer_some : {n : ℕ} (i j : ℕ) (work fewer : List ℕ) → n ≤ 64 → j ≤ most_changes → row_for (i + 2) 0 * 64 ≤ length work → (j ≡ 0 → ⊥)
    → Fewer n i j work fewer (take (row_for (i + 1) (j - 1) * 64 + n - row_for (i + 1) (j - 1) * 64) (drop (row_for (i + 1) (j - 1) * 64) work) ++ drop n fewer)
fewer_some {n} i j work fewer few h l d = record { none = λ z. absurd (d z); some = λ z. copied_part n (row_for (i + 1) (j - 1) * 64) work fewer (omega arith) }

-- it serves on
pub spare_none : (n j : ℕ) {x : ℕ} → x ≡ suc top → Spare n j (replicate 256 x)
spare_none n j {x} e = record {
  low = needed_low (length-replicate 256 x) (needed_none n e);
  bare = record { none = (needed_none n e).none };
  none = λ z. record { none = (needed_none 0 e).none };
}

pub spare_on : {n i j : ℕ} {work fewer is : List ℕ} → length fewer ≡ 256 → length is ≡ length fewer → Spare n j fewer → (0 < j → LowRow n (row_for (i + 1) (j - 1)) work) → Fewer n i j work fewer is
    → Spare n j is
spare_on {n} {i} {j} {work} {fewer} {is} e m s low w = go (dec_lt 0 j)
  where
    at : (h : 0 < j) (k : ℕ) → k < 256 → Dec (k < n) → get_or is k 0 ≤ suc top
    at h k l (yes u) = omega (arith, (w.some h).done k u, (low h).low k u)
    at h k l (no u) = omega (arith, (w.some h).left k (omega arith), s.low.low k l)

    go : Dec (0 < j) → Spare n j is
    go (yes h) = record { low = record { low = λ k l. at h k l (dec_lt k n) }; bare = bare_fill m s.bare (w.some h); none = λ z. absurd (omega arith) }
    go (no h) = rw (w.none (omega arith)) s

-- what is not written
pub beside_none : (n k : ℕ) (was : List ℕ) → Beside n k was was
beside_none n k was = record { same = λ l j q m h d. refl }

pub beside_on : {n k : ℕ} {was mid is : List ℕ} → Beside n k was mid → Beside n k mid is → Beside n k was is
beside_on a b = record { same = λ l j q m h d. b.same l j q m h d ∙ a.same l j q m h d }

pub beside_up : {n j k : ℕ} {was is : List ℕ} → j ≤ k → Beside n j was is → Beside n k was is
beside_up h r = record { same = λ l o q m u d. r.same l o q m u (λ e v. d (omega arith) v) }

pub laid_beside : {g : ℕ → ℕ} {n : ℕ} (i j : ℕ) {work work' : List ℕ} → j ≤ most_changes → Laid g n (row_for i j) work work' → Beside n j work work'
laid_beside i j h y = record { same = λ l o q m u d. y.others (row_for l o) q u (λ e k. d (omega arith) k) }

-- no room at what is no state, and none with no number of changes below 0
near_none : (f : Frame) (ds : List ℕ) (ps : List Place) (g q : ℕ) → f.states ≤ q → near_room f ds ps g q ≡ 0
unfolding near_room room
near_none f ds [] g q h = rw (le-ltb q f.states h) (same (ltb 0 g))
  where
    same : (b : Bool) → ◌≡◌ {A = ℕ} (cond b 0 0) 0
    same true = refl
    same false = refl
near_none f [] (p ∷ ps) g q h = refl
near_none f (d ∷ ds) (p ∷ ps) g q h = rw (le-ltb q f.states h)

pub near_zero : (f : Frame) (ds : List ℕ) (ps : List Place) (q : ℕ) → near_room f ds ps 0 q ≡ 0
unfolding near_room near_best
near_zero f ds [] q = refl
near_zero f [] (p ∷ ps) q = refl
near_zero f (d ∷ ds) (p ∷ ps) q = go (ltb q f.states) (ltb d f.values && bit p.mask d) (λ t. omega (arith, near_zero f ds ps t))
  where
    go : (b c : Bool) → ((t : ℕ) → capped p.limit (near_room f ds ps 0 t) ≤ 0)
        → cond b (max (best f.net (λ t. capped p.limit (near_room f ds ps (0 - 1) t)) q (choices f.values p.mask)) (cond c (leaves f.net (λ t. capped p.limit (near_room f ds ps 0 t)) q d) 0)) 0 ≡ 0
    go true true rec = omega (arith, best_low f.net q (λ t. capped p.limit (near_room f ds ps 0 t)) 0 rec (choices f.values p.mask), rec (f.net.to q d))
    go true false rec = omega (arith, best_low f.net q (λ t. capped p.limit (near_room f ds ps 0 t)) 0 rec (choices f.values p.mask))
    go false c rec = refl

module _ (f : Frame) (ds ms ls : List ℕ) where
  layer_none : (i g q : ℕ) → f.states ≤ q → near_layer f ds ms ls i g q ≡ 0
  unfolding near_layer
  layer_none i g q h = omega (arith, near_none f (drop i ds) (drop i (places ms ls)) g q h)

  layer_zero : (i q : ℕ) → near_layer f ds ms ls i 0 q ≡ 0
  unfolding near_layer
  layer_zero i q = omega (arith, near_zero f (drop i ds) (drop i (places ms ls)) q)

  layer_rooms : (i g q x : ℕ) → x ≡ need (near_layer f ds ms ls i g q) → suc top - x ≡ near_layer f ds ms ls i g q
  unfolding near_layer
  layer_rooms i g q x e = needed_rooms (before ls i) (near_room f (drop i ds) (drop i (places ms ls)) g q) x e

  -- any row that is layer i for at most j changes, laid before those of the layers behind it
  level_laid : (g : ℕ → ℕ) (i j : ℕ) {work work' needs now : List ℕ} → f.states ≤ 64 → j ≤ most_changes → length needs ≡ 256 → length now ≡ length needs
      → ((q : ℕ) → q < f.states → g q ≡ need (near_layer f ds ms ls i (suc j) q)) → Bare f.states needs → NearLevels f ds ms ls j (suc i) work
      → Laid g f.states (row_for i j) work work' × Filled g f.states needs now → NearLevels f ds ms ls j i work' × Needed (near_layer f ds ms ls i (suc j)) f.states now
  level_laid g i j {work} {work'} few l7 long m right bare r y =
      (record { right = λ l o q u v w hq. go l o q u v w hq (ℕ_discrete l i) (ℕ_discrete o j) }, needed_fill (near_layer f ds ms ls i (suc j)) (omega arith) m bare y.1 right)
    where
      go : (l o q : ℕ) → l ≤ length ms → o ≤ j → (o ≡ j → i ≤ l) → q < f.states → Dec (l ≡ i) → Dec (o ≡ j) → get_or work' (row_for l o * 64 + q) 0 ≡ need (near_layer f ds ms ls l (suc o) q)
      go l o q u v w hq (yes d) (yes e) = rw (d, e) (y.0.row q hq ∙ right q hq)
      go l o q u v w hq (no d) e = y.0.others (row_for l o) q (omega arith) (λ a b. omega arith) ∙ r.right l o q u v (λ a. omega (arith, w a)) hq
      go l o q u v w hq (yes d) (no e) = y.0.others (row_for l o) q (omega arith) (λ a b. omega arith) ∙ r.right l o q u v (λ a. absurd (e a)) hq

  -- the needs that were loaded for one change less
  fewer_needed : (i j : ℕ) {work fewer now : List ℕ} → f.states ≤ 64 → length fewer ≡ 256 → length now ≡ length fewer → i < length ms → Spare f.states j fewer → NearLevels f ds ms ls j (suc i) work
      → Fewer f.states i j work fewer now → Needed (near_layer f ds ms ls (suc i) j) f.states now
  fewer_needed i zero few e m h s r w = rw (w.none refl) (record { done = λ t u. omega (arith, (s.none refl).none t (omega arith), layer_zero (suc i) t); none = s.bare.none })
  fewer_needed i (suc j) {work} few e m h s r w =
      let d : row_for (i + 1) (suc j - 1) ≡ row_for (suc i) j = omega arith in
      needed_fill (near_layer f ds ms ls (suc i) (suc j)) (omega arith) m s.bare (w.some (omega arith)) (λ q u. rw d (r.right (suc i) j q (omega arith) (omega arith) (λ z. absurd (omega arith)) u))

  -- the row that is loaded for one change less
  pub level_low : {i j : ℕ} {work : List ℕ} → 0 < i → i ≤ length ms → NearLevels f ds ms ls j i work → 0 < j → LowRow f.states (row_for (i - 1 + 1) (j - 1)) work
  level_low {i} {j} h l r u =
      let d : i - 1 + 1 ≡ i = omega arith in
      rw d (record { low = λ q hq. omega (arith, r.right i (j - 1) q l (omega arith) (λ z. absurd (omega arith)) hq) })

  module _ (same : length ls ≡ length ms) (drawn : length ds ≡ length ms) where
    -- the last layer: no change is left to make
    last_need : (least j q : ℕ) → least ≡ top - before ls (length ms) → q < f.states
        → max (cond (bit f.accepting q) 0 (suc top)) least ≡ need (near_layer f ds ms ls (length ms) (suc j) q)
    unfolding layer near_layer near_room
    last_need least j q e h = last_row f ms ls same least q e h ∙ rw (drop_all ms ls same, lt-ltb 0 (suc j) (omega arith))

    pub level_last : (least j : ℕ) {x : ℕ} {work work' now : List ℕ} → f.states ≤ 64 → j ≤ most_changes → x ≡ suc top → length now ≡ length (replicate 256 x) → least ≡ top - before ls (length ms)
        → NearLevels f ds ms ls j (suc (length ms)) work
        → Laid (λ q. max (cond (bit f.accepting q) 0 (suc top)) least) f.states (row_for (length ms) j) work work'
        × Filled (λ q. max (cond (bit f.accepting q) 0 (suc top)) least) f.states (replicate 256 x) now
        → NearLevels f ds ms ls j (length ms) work' × Needed (near_layer f ds ms ls (length ms) (suc j)) f.states now
    level_last least j {x} few l7 ex m e r y = level_laid (λ q. max (cond (bit f.accepting q) 0 (suc top)) least) (length ms) j few l7 (length-replicate 256 x) m
        (λ q h. last_need least j q e h) (record { none = (needed_none f.states ex).none }) r y

    -- one layer more: a layer before the last, from the layer behind it
    near_best_lem : (i j q : ℕ) → i < length ms → q < f.states
        → near_layer f ds ms ls i (suc j) q ≡ capped (before ls i) (near_best f.net (near_layer f ds ms ls (suc i) j) (near_layer f ds ms ls (suc i) (suc j)) f.values (get_or ms i 0) (get_or ds i 0) q)
    unfolding near_layer near_room
    near_best_lem i j q h hq = let e : suc j - 1 ≡ j = omega arith in rw (drop_places ms ls i same h, drop-cons ds i 0 (omega arith), lt-ltb q f.states hq, e)

    near_need : (i least j q : ℕ) (fewer needs : List ℕ) → i < length ms → least ≡ top - before ls i → Needed (near_layer f ds ms ls (suc i) j) f.states fewer
        → Needed (near_layer f ds ms ls (suc i) (suc j)) f.states needs → q < f.states
        → near_needs f.net fewer needs f.values (get_or ms i 0) (get_or ds i 0) least q ≡ need (near_layer f ds ms ls i (suc j) q)
    unfolding near_needs
    near_need i least j q fewer needs h e r s hq = rw (near_best_lem i j q h hq, rooms j fewer r, rooms (suc j) needs s) (omega arith)
      where
        rooms : (g : ℕ) (row : List ℕ) → Needed (near_layer f ds ms ls (suc i) g) f.states row → ◌≡◌ {A = ℕ → ℕ} (rooms_by row) (near_layer f ds ms ls (suc i) g)
        rooms g row r x t = layer_rooms (suc i) g t (need_at row t) (needed_at (layer_none (suc i) g) r t) x

    pub level_more : (i least j : ℕ) {work fewer needs work' fewer' needs' : List ℕ} → f.states ≤ 64 → j ≤ most_changes → length fewer ≡ 256 → length fewer' ≡ length fewer → length needs ≡ 256
        → length needs' ≡ length needs → 0 < i → i ≤ length ms → least ≡ top - before ls (i - 1) → Spare f.states j fewer
        → NearLevels f ds ms ls j i work × Needed (near_layer f ds ms ls i (suc j)) f.states needs
        → Fewer f.states (i - 1) j work fewer fewer'
        × Laid (near_needs f.net fewer' needs f.values (get_or ms (i - 1) 0) (get_or ds (i - 1) 0) least) f.states (row_for (i - 1) j) work work'
        × Filled (near_needs f.net fewer' needs f.values (get_or ms (i - 1) 0) (get_or ds (i - 1) 0) least) f.states needs needs'
        → NearLevels f ds ms ls j (i - 1) work' × Needed (near_layer f ds ms ls (i - 1) (suc j)) f.states needs'
    level_more i least j {work} {fewer} {needs} {work'} {fewer'} {needs'} few l7 ef mf en mn h l e s r y =
        let d : i ≡ suc (i - 1) = omega arith in
        let levels = subst (λ (x : ℕ). NearLevels f ds ms ls j x work) d r.0 in
        let next = subst (λ (x : ℕ). Needed (near_layer f ds ms ls x (suc j)) f.states needs) d r.1 in
        level_laid (near_needs f.net fewer' needs f.values (get_or ms (i - 1) 0) (get_or ds (i - 1) 0) least) (i - 1) j few l7 en mn
        (λ q u. near_need (i - 1) least j q fewer' needs (omega arith) e (fewer_needed (i - 1) j few ef mf (omega arith) s levels y.0) next u)
        (record { none = r.1.none }) levels (y.1, y.2)

  -- the numbers of changes tried one after the other: the start has no room with fewer than j
  pub record Searched (start spent : ℕ) (was : List ℕ) (j : ℕ) (work : List ℕ) : Type 0 where
    pub rooms : NearLevels f ds ms ls j (suc (length ms)) work
    pub beside : (o : ℕ) → j ≤ suc o → Beside f.states o was work
    pub none : (o : ℕ) → o < j → near_layer f ds ms ls 0 (suc o) start ≤ spent

  module _ {start spent : ℕ} where
    pub searched_none : (work : List ℕ) → Searched start spent work 0 work
    searched_none work = record {
      rooms = record { right = λ l o q u v w hq. absurd (omega (arith, w (omega arith))) };
      beside = λ o h. beside_none f.states o work;
      none = λ o h. absurd (omega arith);
    }

    module _ {was work now : List ℕ} {j : ℕ} (few : start < f.states) (s : Searched start spent was j work) (y : NearLevels f ds ms ls j 0 now × Beside f.states j work now)
        {x : ℕ} (e : x ≡ suc top - get_or now (j * 64 + start) 0) where
      start_room : x ≡ near_layer f ds ms ls 0 (suc j) start
      start_room =
          let d : row_for 0 j ≡ j = omega arith in
          e ∙ layer_rooms 0 (suc j) start (get_or now (j * 64 + start) 0)
          (subst (λ (r : ℕ). get_or now (r * 64 + start) 0 ≡ need (near_layer f ds ms ls 0 (suc j) start)) d (y.0.right 0 j start (omega arith) (omega arith) (λ z. omega arith) few))

      pub searched_more : x ≤ spent → Searched start spent was (j + 1) now
      searched_more h = record {
        rooms = record { right = λ l o q u v w hq. y.0.right l o q u (before_last l o u v w) (λ z. omega arith) hq };
        beside = λ o l. beside_on (s.beside o (omega arith)) (beside_up (omega arith) y.1);
        none = λ o l. go o l (ℕ_discrete o j);
      }
        where
          before_last : (l o : ℕ) → l ≤ length ms → o ≤ j + 1 → (o ≡ j + 1 → suc (length ms) ≤ l) → o ≤ j
          before_last l o u v w = at (ℕ_discrete o (j + 1))
            where
              at : Dec (o ≡ j + 1) → o ≤ j
              at (yes d) = absurd (omega (arith, w d))
              at (no d) = omega arith

          go : (o : ℕ) → o < j + 1 → Dec (o ≡ j) → near_layer f ds ms ls 0 (suc o) start ≤ spent
          go o l (yes d) = rw d (omega (arith, start_room))
          go o l (no d) = s.none o (omega arith)

      fewest_found : (k : ℕ) → j ≤ k → spent < x → Fewest f ds ms ls start spent k was now j
      fewest_found k h n =
          let m : min j k ≡ j = omega arith in
          record {
            rooms = record { right = λ l o q v w hq. y.0.right l o q v (omega arith) (λ z. omega arith) hq };
            beside = rw m (beside_on (s.beside j (omega arith)) y.1);
            low = omega arith;
            none = s.none;
            some = λ z. omega (arith, start_room);
          }

      pub finds_some : (k : ℕ) → j ≤ k → spent < x → Finds f ds ms ls start spent k was now (Some j)
      finds_some k h n = record { some = λ o e. go o cc; none = λ e. cc }
        where
          go : (o : ℕ) → j ≡ o → (o ≤ k) × Fewest f ds ms ls start spent k was now o
          go o d = rw (← d) (h, fewest_found k h n)

    fewest_missing : {was work : List ℕ} {j : ℕ} (k : ℕ) → j ≤ k + 1 → k < j → Searched start spent was j work → Fewest f ds ms ls start spent k was work j
    fewest_missing {j = j} k h m s = record {
      rooms = record { right = λ l o q v w hq. s.rooms.right l o q v (omega arith) (λ z. absurd (omega arith)) hq };
      beside = s.beside (min j k) (omega arith);
      low = omega arith;
      none = s.none;
      some = λ z. absurd (omega arith);
    }

    pub finds_none : {was work : List ℕ} {j : ℕ} (k : ℕ) → j ≤ k + 1 → k + 1 ≤ j → Searched start spent was j work → Finds f ds ms ls start spent k was work None
    finds_none {j = j} k h m s = let e : j ≡ suc k = omega arith in record { some = λ o d. cc; none = λ d. rw e at (fewest_missing k h (omega arith) s) }

pub level_end : {f : Frame} {ds ms ls : List ℕ} {i j : ℕ} {work : List ℕ} → i ≤ 0 → NearLevels f ds ms ls j i work → NearLevels f ds ms ls j 0 work
level_end {i = i} h y = let e : i ≡ 0 = omega arith in rw e at y

-- two nets that have the arcs of one rule set leave the same rooms
module _ (r : Rules) (m n : Net) (s : Same r.arcs r.arcs.values m) (t : Same r.arcs r.arcs.values n) where
  drawn_same : (next : ℕ → ℕ) (q d : ℕ) (b : Bool) → q < r.arcs.states → cond (ltb d r.arcs.values && b) (leaves m next q d) 0 ≡ cond (ltb d r.arcs.values && b) (leaves n next q d) 0
  drawn_same next q d b h = go (ltb d r.arcs.values) b refl
    where
      go : (x y : Bool) → ltb d r.arcs.values ≡ x → cond (x && y) (leaves m next q d) 0 ≡ cond (x && y) (leaves n next q d) 0
      go true true e = let k : d < r.arcs.values = ltb-true _ _ e in rw (s.to q d h k, s.fee q d h k, t.to q d h k, t.fee q d h k)
      go true false e = refl
      go false y e = refl

  near_best_same : (fewer equal : ℕ → ℕ) (mask d q : ℕ) → q < r.arcs.states → near_best m fewer equal r.arcs.values mask d q ≡ near_best n fewer equal r.arcs.values mask d q
  unfolding near_best
  near_best_same fewer equal mask d q h =
      rw (best_same r m n s t fewer q h (choices r.arcs.values mask) (λ v i. (choice_in r.arcs.values mask i).0), drawn_same equal q d (bit mask d) h)

  pub near_same : (ds : List ℕ) (ps : List Place) (g q : ℕ) → near_room (framed m r) ds ps g q ≡ near_room (framed n r) ds ps g q
  unfolding near_room room
  near_same ds [] g q = refl
  near_same [] (p ∷ ps) g q = refl
  near_same (d ∷ ds) (p ∷ ps) g q = go (ltb q r.arcs.states) refl (λ i t. capped p.limit (near_same ds ps (g - 1) t i)) (λ i t. capped p.limit (near_same ds ps g t i))
    where
      go : (b : Bool) → ltb q r.arcs.states ≡ b
          → ◌≡◌ {A = ℕ → ℕ} (λ t. capped p.limit (near_room (framed m r) ds ps (g - 1) t)) (λ t. capped p.limit (near_room (framed n r) ds ps (g - 1) t))
          → ◌≡◌ {A = ℕ → ℕ} (λ t. capped p.limit (near_room (framed m r) ds ps g t)) (λ t. capped p.limit (near_room (framed n r) ds ps g t))
          → cond b (near_best m (λ t. capped p.limit (near_room (framed m r) ds ps (g - 1) t)) (λ t. capped p.limit (near_room (framed m r) ds ps g t)) r.arcs.values p.mask d q) 0
          ≡ cond b (near_best n (λ t. capped p.limit (near_room (framed n r) ds ps (g - 1) t)) (λ t. capped p.limit (near_room (framed n r) ds ps g t)) r.arcs.values p.mask d q) 0
      go true e x y =
          rw (x, y) (near_best_same (λ t. capped p.limit (near_room (framed n r) ds ps (g - 1) t)) (λ t. capped p.limit (near_room (framed n r) ds ps g t)) p.mask d q (ltb-true _ _ e))
      go false e x y = refl
