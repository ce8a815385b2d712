use mathlib.Core.Path.{◌∙◌}
use Rattle.reedgosling.proofs.Given.{composed}
use Rattle.reedgosling.proofs.reedgosling_read_pattern.Goals as goal

pub returns : goal.returns
returns c = rw (c.from.ensures, c.number_of.ensures, c.unwrap_or-made.ensures) (composed _ _ _ ∙ c.read_pattern-composed.ensures)
