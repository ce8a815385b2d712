-- What the checker's result says, beside its answer number.
use Rattle.std.specs.Prelude.{Bool, false, Result, Ok, Err}
use Rattle.rules.specs.declared.Answer.{Answer}

-- a refusal says no
abbrev pub says : Result Bool Answer → Bool
says (Ok b) = b
says (Err a) = false
