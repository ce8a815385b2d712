-- Layers whose rooms are those of other layers less a fall, so that their needs rise, and a table wiped in both halves at once.
use mathlib.Core.Path.{◌≡◌, sym, ap, ◌∙◌, subst}
use mathlib.Core.Bool.{Bool, true}
use mathlib.Core.List.{List, [], ◌∷◌}
use Prim.Native.Nat.{ℕ, suc, ◌+◌, ◌*◌, ◌-◌, ◌≤◌, ◌<◌, min, max}
use native.Mathlib.Numerals.{add-one}
use native.Mathlib.Omega.{arith}
use native.Mathlib.Decide.{ℕ_discrete, dec_lt}
use lib.ListN.{length, get_or, set, replicate, take, drop, length-replicate, get_or-replicate, length-set}
use lib.Seq.{get_or-set_same, get_or-set_other, ext_get_or}
use Rattle.meaning.specs.Bounds.{top}
use Rattle.rules.specs.Answers.{zeros}
use Rattle.rooms.specs.Tables.{Net, choices, best, need, need_at, rooms_by, capped, before, Frame, frame, layer, Layers, Laid, Needed, Filled, Matches, Clear, free, high, LikeLayer, Lays}
use Rattle.ranks.proofs.Parts.{within}
use Rattle.rooms.proofs.Filling.{row_part, laid_outside}
use Rattle.rooms.proofs.Layering.{layer_none, layer_low, layer_best, more_row, layers_lay}

-- whether two layers are alike, as the code finds it
pub alike_is : {n rise : ℕ} {ms ls : List ℕ} {i like : ℕ} {needs work : List ℕ} {b clear : Bool} (least other : ℕ) → n ≤ 64 → rise ≤ suc top → get_or ms i 0 ≡ get_or ms like 0
    → least ≡ top - before ls i → other ≡ top - before ls like → (clear ≡ true → Clear least other rise) → clear ≡ true
    → Matches (λ k. min (suc top) (get_or (take ((like + 1) * 64 + 64 - (like + 1) * 64) (drop ((like + 1) * 64) work)) k 0 + rise)) n needs b → b ≡ true
    → LikeLayer n rise ms ls i like needs work
alike_is {n} {rise} {ms} {ls} {i} {like} {needs} {work} least other h r m e o t k f d = record {
  few = r;
  mask = m;
  clear = rw (e, o) at (t k);
  row = λ q l. f.is d q l ∙ ap (λ (x : ℕ). min (suc top) (x + rise)) (row_part work (like + 1) ((like + 1) * 64 + 64 - (like + 1) * 64) q (omega arith));
}

-- the first k numbers of a table wiped, and k from `back` on
pub record Wiped (back k : ℕ) (table : List ℕ) : Type 0 where
  pub front : (j : ℕ) → j < k → get_or table j 0 ≡ 0
  pub rear : (j : ℕ) → back ≤ j → j < back + k → get_or table j 0 ≡ 0

zero_set : (t : List ℕ) (i j : ℕ) → i < length t → ((j ≡ i → ⊥) → get_or t j 0 ≡ 0) → get_or (set t i 0) j 0 ≡ 0
zero_set t i j h z = go (ℕ_discrete j i)
  where
    go : Dec (j ≡ i) → get_or (set t i 0) j 0 ≡ 0
    go (yes d) = rw d (get_or-set_same t i 0 0 h)
    go (no d) = get_or-set_other t i j 0 0 d ∙ z d

pub wiped_none : (back : ℕ) (t : List ℕ) → Wiped back 0 t
wiped_none back t = record { front = λ j h. absurd (omega arith); rear = λ j h l. absurd (omega arith) }

pub wiped_more : {back k : ℕ} {t : List ℕ} → k < length t → back + k < length t → Wiped back k t → Wiped back (k + 1) (set (set t k 0) (back + k) 0)
wiped_more {back} {k} {t} h l w = record {
  front = λ j d. zero_set (set t k 0) (back + k) j long (λ n. zero_set t k j h (λ m. w.front j (omega arith)));
  rear = λ j a d. zero_set (set t k 0) (back + k) j long (λ n. zero_set t k j h (λ m. w.rear j a (omega arith)));
}
  where
    long : back + k < length (set t k 0)
    long = simp length-set l

pub wiped_end : (was : List ℕ) {back k : ℕ} {t : List ℕ} → back ≤ k → length was ≤ back + k → length t ≡ length was → Wiped back k t → t ≡ zeros was
wiped_end was {back} {k} {t} h l e w = ext_get_or 0 t (replicate (length was) 0) (e ∙ sym (length-replicate (length was) 0))
    (λ j d. at j d (dec_lt j k) ∙ sym (get_or-replicate (length was) j 0 0 (omega arith)))
  where
    at : (j : ℕ) → j < length t → Dec (j < k) → get_or t j 0 ≡ 0
    at j d (yes m) = w.front j m
    at j d (no m) = w.rear j (omega arith) (omega arith)

-- what some values leave falls as much as the rooms behind them
less_less : (a b c : ℕ) → a - b - c ≡ a - c - b
less_less a b c = omega arith

max_less : (a b c : ℕ) → max (a - c) (b - c) ≡ max a b - c
max_less a b c = omega arith

module _ (a : Net) (q : ℕ) where
  best_falls : (g : ℕ → ℕ) (fall : ℕ) (vs : List ℕ) → best a (λ t. g t - fall) q vs ≡ best a g q vs - fall
  unfolding best
  best_falls g fall [] = omega arith
  best_falls g fall (v ∷ vs) =
      rw (best_falls g fall vs, less_less (g (a.to q v)) fall (a.fee q v)) (max_less (g (a.to q v) - a.fee q v) (best a g q vs) fall)

  pub best_low : (g : ℕ → ℕ) (most : ℕ) → ((t : ℕ) → g t ≤ most) → (vs : List ℕ) → best a g q vs ≤ most
  unfolding best
  best_low g most h [] = omega arith
  best_low g most h (v ∷ vs) = omega (arith, h (a.to q v), best_low g most h vs)

-- needs behind a limit and with a rise, and a limit that is out of the way
need_capped : (l room : ℕ) → need (capped l room) ≡ max (top - l) (need room)
need_capped l room = omega arith

need_rises : (room rise : ℕ) → room ≤ suc top → need (room - rise) ≡ min (suc top) (need room + rise)
need_rises room rise h = omega arith

clear_least : {least other rise : ℕ} (x : ℕ) → Clear least other rise → max least (min (suc top) (max other x + rise)) ≡ max least (min (suc top) (x + rise))
clear_least x (free h) = omega arith
clear_least x (high h) = omega arith

module _ (f : Frame) (ms ls : List ℕ) (same : length ls ≡ length ms) where
  pub layer_like : (i like rise q : ℕ) → i < length ms → like < length ms → q < f.states → get_or ms i 0 ≡ get_or ms like 0 → Clear (top - before ls i) (top - before ls like) rise
      → ((t : ℕ) → t < f.states → layer f ms ls (suc i) t ≡ layer f ms ls (suc like) t - rise)
      → max (top - before ls i) (min (suc top) (need (layer f ms ls like q) + rise)) ≡ need (layer f ms ls i q)
  layer_like i like rise q hi hl hq m t row =
      let n : ◌≡◌ {A = ℕ → ℕ} (layer f ms ls (suc i)) (λ t. layer f ms ls (suc like) t - rise) = λ j t. all t (dec_lt t f.states) j in
      let b = best_falls f.net q (layer f ms ls (suc like)) rise (choices f.values (get_or ms like 0)) in
      let l = best_low f.net q (layer f ms ls (suc like)) (suc top) (layer_low f ms ls same (suc like)) (choices f.values (get_or ms like 0)) in
      let r : ℕ = best f.net (layer f ms ls (suc like)) q (choices f.values (get_or ms like 0)) in
      rw (layer_best f ms ls same i q hi hq, layer_best f ms ls same like q hl hq, n, m, b, need_capped (before ls like) r, need_capped (before ls i) (r - rise), need_rises r rise l)
      (clear_least (need r) t)
    where
      all : (t : ℕ) → Dec (t < f.states) → layer f ms ls (suc i) t ≡ layer f ms ls (suc like) t - rise
      all t (yes h) = row t h
      all t (no h) = layer_none f ms ls same (suc i) t (omega arith) ∙ omega (arith, layer_none f ms ls same (suc like) t (omega arith))

-- layer i laid, as a layer that is alike or from the next row
module _ (a : Net) (qs vs : ℕ) (ms ls : List ℕ) (i least : ℕ) (needs work needs' work' : List ℕ) (few : qs ≤ 64) (same : length ls ≡ length ms) (cut : least ≡ top - before ls i)
    (all : length needs ≡ 256) (long : length needs' ≡ length needs) where
  pub lays_like : (like rise : ℕ) → i < like → like < length ms → LikeLayer qs rise ms ls i like needs work
      → Laid (λ q. max least (min (suc top) (get_or work (like * 64 + q) 0 + rise))) qs i work work'
      × Filled (λ q. max least (min (suc top) (get_or work (like * 64 + q) 0 + rise))) qs needs needs'
      → Lays a qs vs ms ls i needs work needs' work'
  lays_like like rise hi hl k y = record { right = right; beside = laid_outside (omega arith) y.0 }
    where
      right : (accepting : ℕ) → Layers (frame a qs vs accepting) ms ls (i + 1) work × Needed (layer (frame a qs vs accepting) ms ls (i + 1)) qs needs
          → Layers (frame a qs vs accepting) ms ls i work' × Needed (layer (frame a qs vs accepting) ms ls i) qs needs'
      right accepting r = layers_lay f ms ls same (λ q. max least (min (suc top) (get_or work (like * 64 + q) 0 + rise))) i few all long (omega arith) is r y
        where
          f : Frame
          f = frame a qs vs accepting

          behind : (q : ℕ) → q < qs → layer f ms ls (suc i) q ≡ layer f ms ls (suc like) q - rise
          behind q h =
              let m : need_at needs q ≡ need (layer f ms ls (suc i) q) = rw add-one at (r.1.done q h) in
              let n : get_or work ((like + 1) * 64 + q) 0 ≡ need (layer f ms ls (suc like) q) = rw add-one (r.0.right (suc like) q (omega arith) (omega arith) h) in
              omega (arith, within needs q 0 (suc top) (omega arith), k.row q h, layer_low f ms ls same (suc i) q, layer_low f ms ls same (suc like) q)

          is : (q : ℕ) → q < qs → max least (min (suc top) (get_or work (like * 64 + q) 0 + rise)) ≡ need (layer f ms ls i q)
          is q h = rw (cut, r.0.right like q (omega arith) (omega arith) h) (layer_like f ms ls same i like rise q (omega arith) hl h k.mask k.clear behind)

  pub lays_more : i < length ms
      → Laid (λ q. max (need (best a (rooms_by needs) q (choices vs (get_or ms i 0)))) least) qs i work work'
      × Filled (λ q. max (need (best a (rooms_by needs) q (choices vs (get_or ms i 0)))) least) qs needs needs'
      → Lays a qs vs ms ls i needs work needs' work'
  lays_more h y = record {
    right = λ accepting r. layers_lay (frame a qs vs accepting) ms ls same (λ q. max (need (best a (rooms_by needs) q (choices vs (get_or ms i 0)))) least) i few all long h
        (λ q hq. more_row (frame a qs vs accepting) ms ls same i least q needs h cut (rw add-one at r.1) hq) r y;
    beside = laid_outside (omega arith) y.0;
  }

-- one layer more, the last first
pub lays_down : {a : Net} {qs vs i : ℕ} {ms ls needs work needs' work' : List ℕ} (accepting : ℕ) → 0 < i → Lays a qs vs ms ls (i - 1) needs work needs' work'
    → Layers (frame a qs vs accepting) ms ls i work × Needed (layer (frame a qs vs accepting) ms ls i) qs needs
    → Layers (frame a qs vs accepting) ms ls (i - 1) work' × Needed (layer (frame a qs vs accepting) ms ls (i - 1)) qs needs'
lays_down {a} {qs} {vs} {i} {ms} {ls} {needs} {work} accepting h y r =
    let d : i ≡ i - 1 + 1 = omega arith in
    y.right accepting (subst (λ (x : ℕ). Layers (frame a qs vs accepting) ms ls x work × Needed (layer (frame a qs vs accepting) ms ls x) qs needs) d r)
