-- The lines of a job, taken one by one. Assumes nothing.
use mathlib.Core.Path.{◌≡◌, refl, ap, sym, ◌∙◌, subst}
use mathlib.Core.Bool.{Bool, true, false, ◌&&◌}
use mathlib.Core.List.{List, [], ◌∷◌, ◌++◌, append-nil, append_assoc}
use Prim.Native.Nat.{ℕ, zero, suc, ◌+◌, ◌-◌, ◌^◌, ◌≤◌, ◌<◌, min}
use native.Mathlib.Omega.{arith}
use lib.Dec.{eqb}
use lib.ListN.{length, get_or, take, drop, set, drop_of_length-le}
use lib.Seq.{drop-cons}
use Rattle.std.specs.Prelude.{Ok, Err}
use Rattle.kinds.specs.Bits.{width, bit, mask_of}
use Rattle.kinds.specs.declared.Mask.{Mask}
use Rattle.kinds.proofs.Bits.{meet_mask}
use Rattle.meaning.specs.Meaning.{Decision, places, decides}
use Rattle.meaning.proofs.Decisions.{keep_stored, limit_stored, decides_append}
use Rattle.text.specs.Bytes.{feed}
use Rattle.text.specs.Lines.{onto, lines, LineAt}
use Rattle.text.specs.declared.lines.Fault.{Fault}
use Rattle.job.specs.Input.{most_lines, read_decision, Job, days, wrong_line, with_decision, read_decisions}
use Rattle.job.specs.Inner.{decision_of, AskedIn, Took}
use Rattle.job.specs.declared.asks.Asked.{Asked}
use Rattle.job.specs.declared.asks.Asked.TheVariants as the

-- one decision is one store
pub asked_in : (a b : Asked) (n l : ℕ) → a ≡ b → AskedIn a n l → AskedIn b n l
asked_in a b n l e h = subst (λ (x : Asked). AskedIn x n l) e h

module _ (a : Asked) (ms ls : List ℕ) where
  pub keep_taken : (i : ℕ) (m : Mask) (x : ℕ) → a ≡ the.Keep i m → x ≡ mask_of (λ u. bit (get_or ms i 0) u && bit m.0 u) width → get_or ms i 0 < 2 ^ width → m.0 < 2 ^ width → places (set ms i x) ls ≡ decides (places ms ls) (decision_of a ∷ [])
  unfolding decides
  keep_taken i m x e k f g =
      ap (λ (y : ℕ). places (set ms i y) ls) (k ∙ sym (meet_mask width (get_or ms i 0) m.0 f g))
      ∙ (sym (keep_stored ms ls i m.0) ∙ ap (λ (y : Asked). decides (places ms ls) (decision_of y ∷ [])) (sym e))

  pub limit_taken : (i c x : ℕ) → a ≡ the.Limit i c → x ≡ min (get_or ls i 0) c → places ms (set ls i x) ≡ decides (places ms ls) (decision_of a ∷ [])
  unfolding decides
  limit_taken i c x e k = ap (λ (y : ℕ). places ms (set ls i y)) k ∙ (sym (limit_stored ms ls i c) ∙ ap (λ (y : Asked). decides (places ms ls) (decision_of y ∷ [])) (sym e))

-- decisions before those of a job
abbrev with_decisions : List Decision → Job → Job
with_decisions ds (days n es) = days n (ds ++ es)
with_decisions ds (wrong_line k) = wrong_line k

with_none : (j : Job) → j ≡ with_decisions [] j
with_none (days n es) = refl
with_none (wrong_line k) = refl

with_more : (ds : List Decision) (d : Decision) (j : Job) → with_decisions ds (with_decision d j) ≡ with_decisions (ds ++ d ∷ []) j
with_more ds d (days n es) = ap (days n) (sym (append_assoc ds (d ∷ []) es))
with_more ds d (wrong_line k) = refl

-- a place inside a text begins a line
pub some_line : (s : List ℕ) (at : ℕ) → at < length s → (l : List ℕ) × (ls : List (List ℕ)) × (lines (drop at s) ≡ (get_or s at 0 ∷ l) ∷ ls)
unfolding lines
some_line s at h = let r = go (eqb (get_or s at 0) feed) (lines (drop (suc at) s)) in (r.0, r.1, ap lines (drop-cons s at 0 h) ∙ r.2)
  where
    go : (b : Bool) (ls : List (List ℕ)) → (l : List ℕ) × (ms : List (List ℕ)) × (onto (get_or s at 0) b ls ≡ (get_or s at 0 ∷ l) ∷ ms)
    go true ls = (_, _, refl)
    go false [] = (_, _, refl)
    go false (l ∷ ls) = (_, _, refl)

-- a line that asks for a decision, and one that is wrong
module _ (n v k : ℕ) (l : List ℕ) (ls : List (List ℕ)) where
  more_lines : (room : ℕ) (d : Decision) → 0 < room → read_decision n v l ≡ Ok d → read_decisions n v k room (l ∷ ls) ≡ with_decision d (read_decisions n v (k + 1) (room - 1) ls)
  unfolding read_decisions
  more_lines zero d h e = absurd (omega arith)
  more_lines (suc room) d h e = let x : k + 1 ≡ suc k = omega arith in let y : suc room - 1 ≡ room = omega arith in rw (e, x, y)

  wrong_line_lem : (room : ℕ) (f : Fault) → 0 < room → read_decision n v l ≡ Err f → read_decisions n v k room (l ∷ ls) ≡ wrong_line k
  unfolding read_decisions
  wrong_line_lem zero f h e = absurd (omega arith)
  wrong_line_lem (suc room) f h e = rw e

  no_room : (room : ℕ) → room ≡ 0 → read_decisions n v k room (l ∷ ls) ≡ wrong_line k
  unfolding read_decisions
  no_room zero e = refl
  no_room (suc room) e = absurd (omega arith)

no_lines : (n v k room : ℕ) → read_decisions n v k room [] ≡ days n []
unfolding read_decisions
no_lines n v k zero = refl
no_lines n v k (suc room) = refl

-- the number of the first line that there is no room for, behind the days line
abbrev lines_end : ℕ
lines_end = most_lines + 2

-- the lines before `at` are taken, and the line at `at` has that number
pub record Going (text : List ℕ) (v : ℕ) (ms ls : List ℕ) (j : Job) (ms2 ls2 : List ℕ) (at number : ℕ) : Type 0 where
  pub inside : at ≤ length text
  pub few : number ≤ lines_end
  pub same_masks : length ms2 ≡ length ms
  pub same_limits : length ls2 ≡ length ls
  pub so_far : List Decision
  pub job : j ≡ with_decisions so_far (read_decisions (length ms) v number (lines_end - number) (lines (drop at text)))
  pub standing : places ms2 ls2 ≡ decides (places ms ls) so_far

pub going_start : (text : List ℕ) (v : ℕ) (ms ls : List ℕ) (at : ℕ) → at ≤ length text → Going text v ms ls (read_decisions (length ms) v 2 most_lines (lines (drop at text))) ms ls at 2
unfolding decides
going_start text v ms ls at h =
    record { inside = h; few = omega arith; same_masks = refl; same_limits = refl; so_far = []; job = with_none _; standing = refl }

module _ (text : List ℕ) (v : ℕ) (ms ls : List ℕ) (j : Job) (ms2 ls2 : List ℕ) (at number : ℕ) (g : Going text v ms ls j ms2 ls2 at number) where
  pub going_full : at < length text → lines_end ≤ number → j ≡ wrong_line lines_end
  going_full h e =
      let s = some_line text at h in
      let z : number ≡ lines_end = omega (arith, g.few) in
      g.job ∙ (ap (with_decisions g.so_far) (ap (read_decisions (length ms) v number (lines_end - number)) s.2 ∙ no_room (length ms) v number _ s.1 (lines_end - number) (omega arith)) ∙ ap wrong_line z)

  module _ (end : ℕ) (l : LineAt text at end) (room : number < lines_end) where
    here : read_decision (length ms2) v (take (end - at) (drop at text)) ≡ read_decision (length ms) v (take (end - at) (drop at text))
    here = ap (λ (k : ℕ). read_decision k v (take (end - at) (drop at text))) g.same_masks

    pub going_wrong : (f : Fault) → Err f ≡ read_decision (length ms2) v (take (end - at) (drop at text)) → j ≡ wrong_line number
    going_wrong f r =
        g.job ∙ ap (with_decisions g.so_far) (ap (read_decisions (length ms) v number (lines_end - number)) l.cuts
        ∙ wrong_line_lem (length ms) v number _ (lines (drop end text)) (lines_end - number) f (omega arith) (sym (r ∙ here)))

    pub going_more : (a : Asked) → Ok (decision_of a) ≡ read_decision (length ms2) v (take (end - at) (drop at text)) → (ms3 ls3 : List ℕ) → length ms3 ≡ length ms2 → length ls3 ≡ length ls2
        → places ms3 ls3 ≡ decides (places ms2 ls2) (decision_of a ∷ []) → Going text v ms ls j ms3 ls3 end (number + 1)
    unfolding decides
    going_more a r ms3 ls3 p q e =
        let m : lines_end - number - 1 ≡ lines_end - (number + 1) = omega arith in
        record {
          inside = l.high;
          few = omega arith;
          same_masks = p ∙ g.same_masks;
          same_limits = q ∙ g.same_limits;
          so_far = g.so_far ++ decision_of a ∷ [];
          job = g.job
              ∙ (ap (with_decisions g.so_far) (ap (read_decisions (length ms) v number (lines_end - number)) l.cuts
              ∙ (more_lines (length ms) v number _ (lines (drop end text)) (lines_end - number) (decision_of a) (omega arith) (sym (r ∙ here))
              ∙ ap (λ (k : ℕ). with_decision (decision_of a) (read_decisions (length ms) v (number + 1) k (lines (drop end text)))) m))
              ∙ with_more g.so_far (decision_of a) (read_decisions (length ms) v (number + 1) (lines_end - (number + 1)) (lines (drop end text))));
          standing = e ∙ (ap (λ (ps : List _). decides ps (decision_of a ∷ [])) g.standing ∙ sym (decides_append (places ms ls) g.so_far (decision_of a ∷ [])));
        }

  pub going_end : length text ≤ at → Took j ms ls (Ok tt) ms2 ls2
  unfolding lines
  going_end h = (
    g.so_far,
    g.job ∙ (ap (with_decisions g.so_far) (ap (λ (s : List ℕ). read_decisions (length ms) v number (lines_end - number) (lines s)) (drop_of_length-le text {i = at} h) ∙ no_lines (length ms) v number (lines_end - number)) ∙ ap (days (length ms)) (append-nil g.so_far)),
    g.standing,
  )
