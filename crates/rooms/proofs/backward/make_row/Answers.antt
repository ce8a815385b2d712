use Rattle.rooms.proofs.Serving.{pulled_filled}
use Rattle.rooms.proofs.backward.make_row.Goals as goal

pub returns-then-serves : goal.returns-then-serves
returns-then-serves c = let p = c.requires in let s = c.serves.ensures.is c.if-serves.true in
    pulled_filled c.args.mask.0 c.args.needs.now (p.8 s.0) p.0 p.1 p.4 p.5 p.6 p.7 (s.0, s.1) c.pull.ensures

pub returns : goal.returns
returns c = c.fill_row.ensures
