use native.Mathlib.Omega.{arith}
use Rattle.text.proofs.Putting.{wrote_small, wrote_step}
use Rattle.text.proofs.puts.+put_number.Goals as goal

pub returns-then-number-lt10 : goal.returns-then-number-lt10
returns-then-number-lt10 t c = wrote_small _ _ _ _ _ c.if-number-lt10.true c.put_byte.ensures

pub returns : goal.returns
returns t c = wrote_step _ (omega arith) _ _ _ _ _ _ c.if-number-lt10.false c.put_number-next.ensures c.put_byte-2.ensures
