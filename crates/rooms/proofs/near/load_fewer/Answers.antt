use Rattle.rooms.proofs.Nearing.{fewer_not, fewer_some}
use Rattle.rooms.proofs.near.load_fewer.Goals as goal

pub returns-then-j-eq0 : goal.returns-then-j-eq0
returns-then-j-eq0 c = fewer_not c.if-j-eq0.true

pub returns : goal.returns
returns c = let a = c.args in
    let p = c.requires in
    rw c.copy_from_slice.ensures.after (fewer_some a.i a.j a.work.now a.fewer.now p.0 p.2 p.3 c.if-j-eq0.false)
