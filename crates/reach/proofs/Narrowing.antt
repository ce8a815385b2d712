-- One value alone at one place: the rosters that are left are those that have it there.
use mathlib.Core.Path.{◌≡◌, refl, sym, ap, ◌∙◌}
use mathlib.Core.Bool.{Bool, ◌&&◌}
use mathlib.Core.List.{List, [], ◌∷◌}
use Prim.Native.Nat.{ℕ, zero, suc, ◌^◌, ◌≤◌, ◌<◌}
use native.Mathlib.Omega.{arith}
use lib.Bits.{bit_and}
use lib.Dec.{eqb}
use lib.ListN.{length, get_or, set, take, length-set}
use Rattle.kinds.specs.Bits.{width, bit, mask_of}
use Rattle.kinds.proofs.Bits.{bit_mask, mask_lt, meet_mask}
use Rattle.meaning.specs.Meaning.{Rules, rules_of, places, rosters, has, first, Keep}
use Rattle.meaning.proofs.Narrow.{meets, keep_meets, narrow}
use Rattle.meaning.proofs.Members.{Below, below_at, roster_in, length_places}
use Rattle.meaning.proofs.Decisions.{keep_stored}
use Rattle.meaning.proofs.Lists.{those_same}
use Rattle.rules.specs.Answers.{zeros}
use Rattle.rooms.specs.Tables.{turned, Sizes, Prepared}
use Rattle.reach.specs.Looks.{Meant, Walks}
use Rattle.reach.specs.Whole.{Finds}

-- the value at a place of a word
has_get_d : (i v : ℕ) (w : List ℕ) → i < length w → has i v w ≡ eqb (get_or w i 0) v
has_get_d i v [] h = absurd (omega arith)
has_get_d zero v (x ∷ w) h = refl
has_get_d (suc i) v (x ∷ w) h = has_get_d i v w (omega arith)

-- the masks with value v alone at place i
abbrev pub alone : List ℕ → ℕ → ℕ → List ℕ
alone ms i v = set ms i (bit_and (get_or ms i 0) (mask_of (λ u. eqb u v) width))

pub first_alone : (r : Rules) (q c i v : ℕ) (ms ls : List ℕ) → r.arcs.values ≤ width → length ls ≡ length ms → i < length ms
    → first i v (rosters r q c (places ms ls)) ≡ take 1 (rosters r q c (places (alone ms i v) ls))
unfolding first
first_alone r q c i v ms ls few e h =
    let m : ℕ = mask_of (λ u. eqb u v) width in
    ap (take 1) (sym (ap (rosters r q c) (sym (keep_stored ms ls i (mask_of (λ u. eqb u v) width))) ∙ (narrow r q c (places ms ls) (Keep i (mask_of (λ u. eqb u v) width))
    ∙ those_same (meets r.arcs q c (Keep i (mask_of (λ u. eqb u v) width))) (has i v) (rosters r q c (places ms ls)) (λ w k. same w ((roster_in r q c (places ms ls) w).0 k).0 ((roster_in r q c (places ms ls) w).0 k).1))))
  where
    same : (w : List ℕ) → length w ≡ length (places ms ls) → Below r.arcs.values w → meets r.arcs q c (Keep i (mask_of (λ u. eqb u v) width)) w ≡ has i v w
    same w n b =
        let l : i < length w = omega (arith, length_places ms ls (sym e)) in
        keep_meets r.arcs q c i (mask_of (λ u. eqb u v) width) w l
        ∙ (bit_mask (λ u. eqb u v) width (get_or w i 0) (omega (arith, below_at r.arcs.values i w b l)) ∙ sym (has_get_d i v w l))

-- the masks copied, and one narrowed
pub narrowed_is : (ms own : List ℕ) (i v x y : ℕ) → own ≡ ms → get_or ms i 0 < 2 ^ width → y ≡ mask_of (λ u. eqb u v) width → x ≡ mask_of (λ u. bit (get_or ms i 0) u && bit y u) width
    → set own i x ≡ alone ms i v
narrowed_is ms own i v x y o l d g =
    rw (o, g, d) (ap (λ (z : ℕ). set ms i z) (sym (meet_mask width (get_or ms i 0) (mask_of (λ u. eqb u v) width) l (mask_lt (λ u. eqb u v) width))))

pub alone_long : (ms : List ℕ) (i x : ℕ) {own : List ℕ} → own ≡ set ms i x → length own ≡ length ms
alone_long ms i x e = ap length e ∙ length-set ms i x

-- what the walk finds is the first roster with the value there
pub finds_is : {qs vs start spent i v accepting : ℕ} {t c ms ls own ts cs arcs to fee arcs' work mid is was out : List ℕ} {found : Bool} → Sizes qs vs t c ms ls work → i < length ms → own ≡ alone ms i v
    → Prepared qs vs t c accepting own ls ts cs arcs work to fee arcs' mid → Walks (turned to fee) qs vs start spent own mid was out found
    → length mid ≡ length work → is ≡ zeros mid
    → Finds (rosters (rules_of qs vs t c accepting) start spent (places ms ls)) i v was out work is found
finds_is {qs} {vs} {start} {spent} {i} {v} {accepting} {t} {c} {ms} {ls} {own} {to = to} {fee} {mid = mid} p h o r w l z =
    let m : Meant (turned to fee) qs vs own mid t c ls accepting = record { limits = p.all_limits ∙ sym (alone_long ms i _ o); arcs = r.turns; rooms = r.rooms } in
    let e = first_alone (rules_of qs vs t c accepting) start spent i v ms ls p.few_values p.all_limits h
    ∙ ap (λ (x : List ℕ). take 1 (rosters (rules_of qs vs t c accepting) start spent (places x ls))) (sym o) in
    record {
      some = λ f. e ∙ w.some f t c ls accepting m;
      none = λ f. (e ∙ ap (take 1) (w.none f t c ls accepting m), w.unwritten f t c ls accepting m);
      clear = z ∙ rw l;
    }
