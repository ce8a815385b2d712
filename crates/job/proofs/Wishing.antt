-- The last two lines of a mending job. Assumes nothing.
use mathlib.Core.Path.{◌≡◌, refl, ap, sym, ◌∙◌, subst}
use mathlib.Core.Bool.{Bool, true, false, cond}
use mathlib.Core.List.{List, [], ◌∷◌}
use Prim.Native.Nat.{ℕ, suc, ◌+◌, ◌-◌, ◌≤◌, ◌<◌}
use native.Mathlib.Numerals.{add-one}
use native.Mathlib.Omega.{arith}
use lib.ListN.{length, take, drop, drop_of_length-le}
use Rattle.std.specs.Prelude.{Result, Ok, Err}
use Rattle.meaning.specs.Bounds.{most_changes}
use Rattle.meaning.specs.Lists.{some}
use Rattle.meaning.proofs.Members.{Below}
use Rattle.text.specs.Lines.{Judged, on_judged, sealed, lines, LineAt}
use Rattle.text.specs.declared.lines.Fault.{Fault}
use Rattle.job.specs.Input.{read_count}
use Rattle.job.specs.declared.take.WrongLine.{WrongLine}
use Rattle.job.specs.Mend.{most_word, read_drawn, read_most, Wish, wish, wrong_wish, read_last, read_wish}
use Rattle.job.specs.Inner.{wish_view, LastAt, Wished}
use Rattle.job.proofs.Taking.{some_line}
use Rattle.rules.proofs.Walk.{below_right}
use Rattle.job.proofs.Planning.{count_range}
use Rattle.job.proofs.Drawing.{drawn_in}

pub most_is : (l : List ℕ) → read_count most_word 0 most_changes l ≡ read_most l
unfolding read_most
most_is l = refl

-- the most line, and what stands behind it
module _ (text : List ℕ) (at k : ℕ) (wrong : WrongLine) where
  pub last_missing : wrong.0 ≡ k → length text ≤ at → LastAt (lines (drop at text)) k (Err wrong)
  unfolding lines read_last
  last_missing n h = rw (drop_of_length-le text {i = at} h) (record { says = λ w. ap wrong_wish n })

  module _ (end : ℕ) (l : LineAt text at end) where
    pub last_wrong : wrong.0 ≡ k → (f : Fault) → Err f ≡ read_most (take (end - at) (drop at text)) → LastAt (lines (drop at text)) k (Err wrong)
    unfolding read_last
    last_wrong n f d = rw l.cuts (record { says = λ w. rw n (sym (rw (sym d))) })

    pub last_more : wrong.0 ≡ k + 1 → (j : ℕ) → Ok j ≡ read_most (take (end - at) (drop at text)) → end < length text → LastAt (lines (drop at text)) k (Err wrong)
    unfolding read_last
    last_more n j d h =
        let s = some_line text end h in
        rw (l.cuts, s.2) (record { says = λ w. rw (n, add-one k) (sym (rw (sym d))) })

module _ (text : List ℕ) (at k : ℕ) (end : ℕ) (l : LineAt text at end) where
  pub last_right : (j : ℕ) → Ok j ≡ read_most (take (end - at) (drop at text)) → length text ≤ end → LastAt (lines (drop at text)) k (Ok j)
  unfolding read_last lines
  last_right j d h = rw (l.cuts, drop_of_length-le text {i = end} h) (record { says = λ w. sym (rw (sym d)) })

-- both lines
module _ (text : List ℕ) (at k n v : ℕ) where
  pub wish_missing : length text ≤ at → wrong_wish k ≡ read_wish n v k (lines (drop at text))
  unfolding lines read_wish
  wish_missing h = rw (drop_of_length-le text {i = at} h)

  module _ (end : ℕ) (l : LineAt text at end) where
    pub wish_wrong : (f : Fault) → Err f ≡ read_drawn n v (take (end - at) (drop at text)) → wrong_wish k ≡ read_wish n v k (lines (drop at text))
    unfolding read_wish
    wish_wrong f e = sym (rw (l.cuts, sym e))

    pub wish_last : (w : List ℕ) (u : Result ℕ WrongLine) → sealed w (Ok tt) ≡ read_drawn n v (take (end - at) (drop at text)) → LastAt (lines (drop end text)) (k + 1) u → wish_view u w ≡ read_wish n v k (lines (drop at text))
    unfolding read_wish
    wish_last w u e s = s.says w ∙ (ap (λ (i : ℕ). read_last w i (lines (drop end text))) (add-one k) ∙ sym (rw (l.cuts, sym e)))

-- a wish that is read is in range, and the number of a wrong line is that of one of the lines or the next
most_range : (l : List ℕ) (k : ℕ) → read_most l ≡ Ok k → k ≤ most_changes
most_range l k e = (count_range most_word 0 most_changes l k (most_is l ∙ e)).1

abbrev pub WishIn : ℕ → ℕ → ℕ → Wish → Type 0
WishIn n v k (wish w j) = (length w ≡ n) × Below (suc (v - 1)) w × (j ≤ most_changes)
WishIn n v k (wrong_wish j) = j ≤ k + 2

last_in : (n v k : ℕ) (w : List ℕ) (ls : List (List ℕ)) → (length w ≡ n) × Below (suc (v - 1)) w → WishIn n v k (read_last w (suc k) ls)
unfolding read_last
last_in n v k w [] h = omega arith
last_in n v k w (l ∷ ls) h = go (read_most l) refl (some ls)
  where
    go : (x : Judged ℕ) → read_most l ≡ x → (b : Bool) → WishIn n v k (on_judged x (λ j. cond b (wrong_wish (suc (suc k))) (wish w j)) (λ f. wrong_wish (suc k)))
    go (Ok j) e true = omega arith
    go (Ok j) e false = (h.0, h.1, most_range l j e)
    go (Err f) e b = omega arith

pub wish_in : (n v k : ℕ) (ls : List (List ℕ)) → WishIn n v k (read_wish n v k ls)
unfolding read_wish
wish_in n v k [] = omega arith
wish_in n v k (l ∷ ls) = go (read_drawn n v l) refl
  where
    go : (x : Judged (List ℕ)) → read_drawn n v l ≡ x → WishIn n v k (on_judged x (λ w. read_last w (suc k) ls) (λ f. wrong_wish k))
    go (Ok w) e = last_in n v k w ls (drawn_in v n l w e)
    go (Err f) e = omega arith

pub wished : (n v k : ℕ) (ls : List (List ℕ)) (w : List ℕ) (j : ℕ) → 1 ≤ v → wish w j ≡ read_wish n v k ls → Wished n v w j
wished n v k ls w j h e =
    let i : WishIn n v k (wish w j) = subst (WishIn n v k) (sym e) (wish_in n v k ls) in
    let z : suc (v - 1) ≡ v = omega arith in
    record { drawn_long = i.0; drawn_right = below_right v w (subst (λ (x : ℕ). Below x w) z i.1); most = i.2 }
