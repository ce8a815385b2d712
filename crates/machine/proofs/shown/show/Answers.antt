use mathlib.Core.Path.{◌∙◌}
use Rattle.machine.proofs.Shows.{carried_is, shows}
use Rattle.machine.proofs.shown.show.Goals as goal

pub returns : goal.returns
returns c = shows _ _ c.args.kept.now c.args.memory.now c.requires _ c.widen.ensures _ _ (c.from.ensures ∙ c.number_of.ensures) (c.unwrap_or.ensures ∙ carried_is c.args.fresh)
