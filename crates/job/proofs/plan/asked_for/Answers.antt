use mathlib.Core.Path.{refl, ap}
use Prim.Native.Nat.{ℕ, ◌-◌, ◌^◌}
use lib.ListN.{drop, replicate}
use Rattle.meaning.specs.Bounds.{top}
use Rattle.text.specs.Lines.{lines}
use Rattle.job.specs.Input.{most_days}
use Rattle.job.proofs.Asking.{full_is}
use Rattle.job.proofs.Planning.{first_of, asked_all}
use Rattle.job.proofs.plan.asked_for.Goals as goal

pub returns : goal.returns
unfolding top
returns c = let a = c.args in
    let p = c.requires in
    let full = first_of a.days most_days (2 ^ a.values - 1) _ p.1 (ap (λ (x : ℕ). replicate most_days x) (full_is _ _ p.2 c.full-full.ensures)) in
    let tops = first_of a.days most_days top _ p.1 refl in
    asked_all a.days a.values (lines (drop a.from a.text.now)) _ full _ tops c.take_lines.new.masks c.take_lines.new.limits c.in_ok-take_lines.ensures c.take_lines.auto.masks c.take_lines.auto.limits (replicate most_days c.full-full.result.0) (replicate most_days top) p.1 refl refl
