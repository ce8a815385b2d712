-- What a mending program prints is short: no more than 520 bytes for a mended roster. Assumes nothing.
use mathlib.Core.Path.{◌≡◌, refl}
use mathlib.Core.Bool.{Bool, true, false, cond}
use mathlib.Core.List.{List, [], ◌∷◌, ◌++◌}
use Prim.Native.Nat.{ℕ, suc, ◌+◌, ◌-◌, ◌*◌, ◌≤◌, ◌<◌}
use native.Mathlib.Omega.{arith}
use lib.Dec.{eqb}
use lib.ListN.{length, length-append}
use Rattle.meaning.specs.Meaning.{Rules, Place, rosters}
use Rattle.meaning.specs.Lists.{each}
use Rattle.meaning.specs.Bounds.{most_values, most_changes}
use Rattle.meaning.proofs.Members.{Below, roster_in}
use Rattle.mending.specs.Mending.{changes, mended}
use Rattle.mending.proofs.Nearest.{Mends, mended_means, mended_one}
use Rattle.text.specs.Bytes.{tab, feed}
use Rattle.text.specs.Numbers.{decimal}
use Rattle.text.specs.Writing.{Wrote}
use Rattle.text.proofs.Decimals.{decimal_length, field_length}
use Rattle.job.specs.Input.{longest_output, most_days, most_lines, Job, days, wrong_line, read_decisions}
use Rattle.job.specs.Job.{asked}
use Rattle.job.specs.Mend.{before_drawn, from_drawn, changes_line, change_line, change_lines, roster_line, mended_text, wish, wrong_wish, read_wish, wish_text, mend_text, mend, mend_job_text}
use Rattle.job.specs.Mend.{Wish as WishSpec}
use Rattle.job.proofs.Wishing.{WishIn, wish_in}
use Rattle.job.proofs.Shortness.{most_printed, job_line_lem, JobIn, decisions_in, asked_length, Short, program_most}

-- the lines
changes_line_lem : (n : ℕ) → n < 10 → length (changes_line n) ≤ 10
unfolding changes_line
changes_line_lem n h = simp (field_length) (omega (arith, decimal_length 0 n h))

change_line_lem : (i d v : ℕ) → i < 1000 → d < 100 → v < 100 → length (change_line i d v) ≤ 17
unfolding change_line
change_line_lem i d v a b c = simp (field_length) (omega (arith, decimal_length 2 i a, decimal_length 1 d b, decimal_length 1 v c))

-- a line for each change
change_lines_lem : (x y i : ℕ) (ds w : List ℕ) → x ≤ 100 → y ≤ 100 → i + length ds ≤ 1000 → Below x ds → Below y w → length (change_lines i ds w) ≤ changes ds w * 17
unfolding change_lines changes
change_lines_lem x y i [] w hx hy h a b = omega arith
change_lines_lem x y i (d ∷ ds) [] hx hy h a b = omega arith
change_lines_lem x y i (d ∷ ds) (v ∷ w) hx hy h a b = go (eqb v d) (change_lines_lem x y (suc i) ds w hx hy (omega arith) a.1 b.1)
  where
    go : (t : Bool) → length (change_lines (suc i) ds w) ≤ changes ds w * 17 → length (cond t [] (change_line i d v) ++ change_lines (suc i) ds w) ≤ (cond t 0 1 + changes ds w) * 17
    go true rec = let e : 0 + changes ds w ≡ changes ds w = omega arith in rw e rec
    go false rec = rw (length-append (change_line i d v) (change_lines (suc i) ds w)) (omega (arith, change_line_lem i d v (omega arith) (omega (arith, a.0)) (omega (arith, b.0))))

values_short : (u : ℕ) (w : List ℕ) → u ≤ 100 → Below u w → length (each (λ v. tab ∷ decimal v) w) ≤ length w * 3
values_short u [] hu b = omega arith
values_short u (v ∷ w) hu b = rw (length-append (tab ∷ decimal v) (each (λ x. tab ∷ decimal x) w)) (omega (arith, decimal_length 1 v (omega (arith, b.0)), values_short u w hu b.1))

roster_line_lem : (u : ℕ) (w : List ℕ) → u ≤ 100 → Below u w → length (roster_line w) ≤ length w * 3 + 7
unfolding roster_line
roster_line_lem u w hu b = rw (length-append (each (λ v. tab ∷ decimal v) w) (feed ∷ [])) (omega (arith, values_short u w hu b))

-- a mended roster, with its changes
mended_short : (r : Rules) (s : ℕ) (ps : List Place) (ds : List ℕ) (k x : ℕ) → r.arcs.values ≤ most_values → length ps ≤ most_days → length ds ≤ most_days → x ≤ 100 → Below x ds → k ≤ most_changes
    → (ws : List (List ℕ)) → mended ds k (rosters r s 0 ps) ≡ ws → length (mended_text ds ws) ≤ 520
unfolding mended_text
mended_short r s ps ds k x hv hp hd hx b hk [] e = omega arith
mended_short r s ps ds k x hv hp hd hx b hk (w ∷ []) e =
    let m : Mends r s 0 ps ds k w = (mended_means r s 0 ps ds k w).0 e in
    let i = (roster_in r s 0 ps w).0 m.allowed in
    rw (length-append (changes_line (changes ds w)) (change_lines 0 ds w ++ roster_line w), length-append (change_lines 0 ds w) (roster_line w))
    (omega (arith, m.few, changes_line_lem (changes ds w) (omega (arith, m.few)), change_lines_lem x r.arcs.values 0 ds w hx (omega arith) (omega arith) b i.1, roster_line_lem r.arcs.values w (omega arith) i.1, i.0))
mended_short r s ps ds k x hv hp hd hx b hk (w ∷ (z ∷ ws)) e = absurd (mended_one ds k (rosters r s 0 ps) e)

wish_short : (r : Rules) (s n k : ℕ) (ps : List Place) (x : WishSpec) → r.arcs.values ≤ most_values → length ps ≡ n → n ≤ most_days → k ≤ 514 → WishIn n r.arcs.values k x → length (wish_text r s ps x) ≤ most_printed
unfolding wish_text
wish_short r s n k ps (wrong_wish j) hv hp hn hk h = job_line_lem j (omega arith)
wish_short r s n k ps (wish ds j) hv hp hn hk h =
    omega (arith, mended_short r s ps ds j (suc (r.arcs.values - 1)) hv (omega arith) (omega (arith, h.0)) (omega arith) h.1 h.2 (mended ds j (rosters r s 0 ps)) refl)

taken_short : (r : Rules) (s : ℕ) (ls : List (List ℕ)) (j : Job) → r.arcs.values ≤ most_values → JobIn (2 + length (before_drawn ls)) j → length (mend_text r s ls j) ≤ most_printed
unfolding mend_text
taken_short r s ls (wrong_line k) hv h = job_line_lem k (omega arith)
taken_short r s ls (days n ds) hv h =
    wish_short r s n (2 + length (before_drawn ls)) (asked r n ds) (read_wish n r.arcs.values (2 + length (before_drawn ls)) (from_drawn ls)) hv (asked_length r n ds) h.0 h.1
    (wish_in n r.arcs.values (2 + length (before_drawn ls)) (from_drawn ls))

mend_short : Short mend
unfolding mend
mend_short r s n ls hv hn =
    taken_short r s ls (read_decisions n r.arcs.values 2 most_lines (before_drawn ls)) hv (decisions_in n r.arcs.values 2 most_lines (before_drawn ls) hn (omega arith))

-- NO OUTPUT IS LONGER THAN WHAT THE PROGRAM LENDS FOR IT
pub mend_job_short : (s : List ℕ) → length (mend_job_text s) ≤ longest_output
unfolding mend_job_text
mend_job_short s = omega (arith, program_most mend mend_short s)

pub mend_job_fits : (input before after : List ℕ) (next : ℕ) → Wrote before 0 (mend_job_text input) after next → next ≤ longest_output
mend_job_fits input before after next w = omega (arith, mend_job_short input, w.ends)
