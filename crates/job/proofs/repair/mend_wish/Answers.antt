use mathlib.Core.Path.{ap, ◌∙◌}
use mathlib.Core.List.{List}
use Prim.Native.Nat.{ℕ}
use lib.ListN.{drop, replicate}
use lib.Seq.{length-take-le}
use Rattle.meaning.specs.Meaning.{places}
use Rattle.rules.specs.Checks.{rules_in}
use Rattle.rules.proofs.Checks.{size_of_lem, sizes_of}
use Rattle.text.specs.Lines.{lines}
use Rattle.text.proofs.Putting.{wrote_is}
use Rattle.job.specs.Input.{most_days}
use Rattle.job.specs.Output.{job_line}
use Rattle.job.specs.Mend.{read_wish, wish_text}
use Rattle.job.proofs.Wishing.{wished}
use native.Mathlib.Omega.{arith}
use Rattle.job.proofs.repair.mend_wish.Goals as goal

pub wish_at-requires : goal.wish_at-requires
wish_at-requires c = let p = c.requires in
    let room : List ℕ = replicate most_days 0 in
    let z = sizes_of _ _ _ _ p.0.sizes in
    let y = size_of_lem _ _ _ z.size in
    let m = length-take-le c.args.days room (omega (arith, p.0.few)) in
    (p.1, p.2, omega (arith, m, z.some_places), y.some_values, y.few_values)

pub show_mended-requires : goal.show_mended-requires
show_mended-requires c = let a = c.args in
    let p = c.requires.0 in
    let e = c.in-Ok.ensures ∙ ap (λ (i : ℕ). read_wish i a.rules.now.size.values a.wish.number (lines (drop a.wish.at a.text.now))) (length-take-le a.days (replicate most_days 0) (omega (arith, p.few))) in
    (p, wished _ _ _ _ _ _ (size_of_lem _ _ _ (sizes_of _ _ _ _ p.sizes).size).some_values e)

pub returns-in-Err : goal.returns-in-Err
unfolding job_line wish_text
returns-in-Err c = let a = c.args in
    let p = c.requires.0 in
    let e = c.in-Err.ensures ∙ ap (λ (i : ℕ). read_wish i a.rules.now.size.values a.wish.number (lines (drop a.wish.at a.text.now))) (length-take-le a.days (replicate most_days 0) (omega (arith, p.few))) in
    wrote_is _ _ _ _ _ _ (ap (wish_text (rules_in a.rules.now) a.rules.now.size.start.0 (places a.masks.now a.limits.now)) e) c.put_line.ensures

pub returns-in-Ok : goal.returns-in-Ok
unfolding wish_text
returns-in-Ok c = let a = c.args in
    let p = c.requires.0 in
    let e = c.in-Ok.ensures ∙ ap (λ (i : ℕ). read_wish i a.rules.now.size.values a.wish.number (lines (drop a.wish.at a.text.now))) (length-take-le a.days (replicate most_days 0) (omega (arith, p.few))) in
    wrote_is _ _ _ _ _ _ (ap (wish_text (rules_in a.rules.now) a.rules.now.size.start.0 (places a.masks.now a.limits.now)) e) c.show_mended.ensures
