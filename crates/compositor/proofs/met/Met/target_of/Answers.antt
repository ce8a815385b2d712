use mathlib.Core.Path.{◌∙◌}
use Rattle.compositor.proofs.Seek.{target_by}
use Rattle.compositor.proofs.met.Met.target_of.Goals as goal

pub returns : goal.returns
returns c = c.unwrap_or.ensures ∙ target_by c.args.c _ _ c.args.self.now _ c.self.view_is c.self.told c.self.invariant c.if-c-eq0.false c.index_of.ensures
