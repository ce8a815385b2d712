use mathlib.Core.Path.{refl, sym, ap, ◌∙◌}
use mathlib.Core.List.{List}
use Prim.Native.Nat.{ℕ}
use lib.Seq.{length-take-le}
use Rattle.sheet.specs.Reading.{read_of}
use Rattle.text.proofs.Putting.{wrote_is}
use Rattle.job.specs.Output.{job_line}
use Rattle.job.specs.Inner.{program}
use Rattle.job.proofs.Reading.{sheet_unread, job_missing, job_there, read_right, rest_is}
use Rattle.job.proofs.job_in.Goals as goal

pub slice_bounds-read_sheet-end : goal.slice_bounds-read_sheet-end
slice_bounds-read_sheet-end c = sym (length-take-le _ _ c.cut_at-cut.ensures.inside)

pub returns-in-Err : goal.returns-in-Err
returns-in-Err c = let a = c.args in
    wrote_is _ _ _ _ _ _ (sheet_unread (program a.task) a.input.now _ _ _ _ (c.in-Err.ensures.leaves ∙ ap (λ (x : List ℕ). read_of x a.targets.now a.costs.now) c.cut_at-cut.ensures.sheet_is)
    _ _ c.answer.ensures c.line.ensures) c.put_wrong.ensures

pub plan-requires : goal.plan-requires
plan-requires c = read_right _ _ _ _ _ _ _ _ _ _ _ c.in-Ok.ensures.leaves refl

pub returns-in_default : goal.returns-in_default
unfolding job_line
returns-in_default c = let a = c.args in
    wrote_is _ _ _ _ _ _ (job_missing (program a.task) a.input.now _ _ _ _ _ _ _ _ _ (c.in-Ok.ensures.leaves ∙ ap (λ (x : List ℕ). read_of x a.targets.now a.costs.now) c.cut_at-cut.ensures.sheet_is) refl
    (sym (rw c.in_default.is at c.cut_at-cut.ensures.job_is))) c.put_line.ensures

pub returns : goal.returns
returns c = let a = c.args in
    let j = rw c.in-Some.is at c.cut_at-cut.ensures.job_is in
    wrote_is _ _ _ _ _ _ (job_there (program a.task) a.input.now _ _ _ _ _ _ _ _ _ (c.in-Ok.ensures.leaves ∙ ap (λ (x : List ℕ). read_of x a.targets.now a.costs.now) c.cut_at-cut.ensures.sheet_is) _ (rest_is a.input.now c.in-Some.job ∙ j.2) refl (sym j.1)) c.plan.ensures
