use Rattle.std.proofs.Common.{rules, ◌≡◌, length, take, replicate}
use Rattle.compositor.proofs.Filling.{free_by}
use Rattle.compositor.proofs.fill.free.Goals as goal

pub returns : goal.returns
returns c =
    let e : c.fill.new.self ≡ replicate (length (take c.args.count c.args.costs.now)) 0 = search rules in
    free_by c.args.costs.now _ c.args.count c.requires e
