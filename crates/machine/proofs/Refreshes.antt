-- The filter of what is held, one law for each step of the code. Assumes nothing.
use mathlib.Core.Path.{◌≡◌, sym, ap, ap₂, ◌∙◌}
use mathlib.Core.Bool.{Bool, true}
use mathlib.Core.List.{List, ◌++◌}
use Prim.Native.Nat.{ℕ, ◌+◌, ◌^◌, ◌≤◌}
use native.Mathlib.Omega.{arith}
use lib.ListN.{length, get_or, drop, take, replicate, length-drop, length-take, length-replicate}
use lib.Seq.{length-take-le}
use lib.Pow.{pow_mono}
use Rattle.meaning.specs.Meaning.{Place, places, Verdict, verdict, verdict_of}
use Rattle.meaning.specs.Lists.{all}
use Rattle.meaning.specs.Bounds.{most_places}
use Rattle.rules.specs.Checks.{Handed, masks_right}
use Rattle.rules.specs.Answers.{zeros}
use Rattle.rules.proofs.Choices.{choice_right, choices_right, decides_right}
use Rattle.ledger.specs.Sessions.{standing, places_by, verdict_by}
use Rattle.ledger.specs.Readiness.{left, renewed_by, Lent}
use Rattle.ledger.specs.Layout.{opening_place, shown_size}
use Rattle.ledger.specs.Memory.{rows_of, entries_of, opening_at, opening_of, held_in, same, shown_of, verdict_held, Held}
use Rattle.ledger.proofs.Numbers.{below_more, masks_below}
use Rattle.ledger.proofs.Image.{held_few, held_room, held_masks, room_long, room_rows}
use Rattle.machine.specs.Inner.{Compared, Replayable}
use Rattle.machine.proofs.Ranges.{rows_safe}
use Rattle.filter.specs.Filter.{Left, left as filtered, filter_done, filter_of}
use Rattle.filter.proofs.Passes.{filter_passes}

-- what is held can be replayed
module _ (n q v start : ℕ) (l : List ℕ) (h : Held n q v start l) where
  pub replayable : Replayable n l
  unfolding rows_of
  replayable =
      let w = held_few n q v start l h.long h.right in record {
        long = h.long;
        narrow = below_more (2 ^ v) 65536 (take n (drop opening_place l)) (pow_mono h.few_values)
            (sym (masks_below v (take n (drop opening_place l))) ∙ held_masks n q v start l h.long h.right);
        few_entries = omega (arith, w.0, w.1);
        rows = rows_safe n v (get_or l 4 0 + get_or l 5 0) (rows_of l) h.few_values
            (room_rows n v (get_or l 4 0) (get_or l 5 0) (rows_of l) (room_long n q v start l h.long h.right) (omega (arith, w.0, w.1))
            (held_room n q v start l h.long h.right));
      }

-- the filter of what is held passes all checks
module _ (h : Handed) (l ms ls kept work : List ℕ) (lent : Lent h work)
    (held : Held h.places h.rules.arcs.states h.rules.arcs.values h.start l)
    (come : places ms ls ≡ places_by (opening_of h.places l) (standing (entries_of l))) where
  masks_inside : length ms ≡ length ls → masks_right h.rules.arcs.values ms ≡ true
  unfolding places_by opening_of opening_at
  masks_inside e =
      let v = h.rules.arcs.values in
      let s = drop opening_place l in
      choices_right v ms ls e ∙ ap (all (choice_right v)) come
      ∙ decides_right v (places (take h.places s) (drop h.places s)) _
      (sym (choices_right v (take h.places s) (drop h.places s) (simp (length-take, length-drop) (omega (arith, held.long))))
      ∙ held_masks h.places h.rules.arcs.states v h.start l held.long held.right)

  pub refreshed : length ms ≡ h.places → length ls ≡ h.places → length kept ≡ h.places
      → (x : Left) → x ≡ filter_of h ms ls kept work → x ≡ filter_done (verdict_held h l) work
  unfolding verdict_held verdict_by
  refreshed a b c x f =
      f ∙ filter_passes h ms ls kept work lent.sized lent.tabled lent.ruled (masks_inside (a ∙ sym b)) a b c lent.worked
      ∙ ap (λ (ps : List Place). filter_done (verdict_of h.rules h.start 0 ps) work) come

-- in the memory around what is held
module _ (h : Handed) (m w w' ks : List ℕ) (a c : ℕ) (long : length ks ≡ h.places)
    (verdict-is : filtered a c ks w' ≡ filter_done (verdict_held h (held_in h.places m)) w) where
  abbrev t : Verdict
  t = verdict_held h (held_in h.places m)

  shown_is : verdict a ks c ≡ t
  unfolding filter_done
  shown_is = ap (λ (x : Left). verdict x.answer x.kept x.least) verdict-is

  work_is : w' ≡ zeros w
  unfolding filter_done
  work_is = ap (λ (x : Left). x.work) verdict-is

  pub judged : (r : Bool) → r ≡ same (take (shown_size (length ks)) m) (shown_of (verdict a ks c)) → Compared h m w r w'
  judged r e = record {
    verdict = e ∙ ap₂ (λ (n : ℕ) (x : Verdict). same (take (shown_size n) m) (shown_of x)) long shown_is;
    work_after_lem = work_is;
  }

  pub renews : (y : List ℕ) → y ≡ shown_of (verdict a ks c) ++ drop (shown_size (length ks)) m → (b : ℕ) → b ≡ a → left b y w' ≡ renewed_by h (held_in h.places m) w
  unfolding renewed_by
  renews y e b f =
      ap (λ (n : ℕ). left n y w') f ∙ ap₂ (λ (x u : List ℕ). left a x u) (e ∙ ap (λ (n : ℕ). shown_of (verdict a ks c) ++ drop (shown_size n) m) long) work_is
      ∙ ap (λ (x : Verdict). left x.answered (shown_of x ++ held_in h.places m) (zeros w)) shown_is

-- the front of the local arrays
abbrev pub blank : List ℕ
blank = replicate most_places 0

pub front_zeros : (n : ℕ) → n ≤ most_places → n ≡ length (take n blank)
front_zeros n h = sym (length-take-le n blank (omega (arith, length-replicate {A = ℕ} most_places 0)))
