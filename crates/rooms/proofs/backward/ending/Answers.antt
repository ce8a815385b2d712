use Rattle.kinds.proofs.Bits.{bit_yes, bit_no}
use Rattle.meaning.specs.Bounds.{top}
use Rattle.rooms.proofs.backward.ending.Goals as goal

pub returns-then-accepting-q-eq1 : goal.returns-then-accepting-q-eq1
returns-then-accepting-q-eq1 c = rw (bit_yes _ _ c.if-accepting-q-eq1.true)

pub returns-else-accepting-q-eq1 : goal.returns-else-accepting-q-eq1
unfolding top
returns-else-accepting-q-eq1 c = rw (bit_no _ _ c.if-accepting-q-eq1.false)
