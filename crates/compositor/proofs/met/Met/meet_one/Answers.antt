use Rattle.compositor.proofs.Seek.{found, met_new, met_none, met_full, met_there}
use Rattle.compositor.proofs.met.Met.meet_one.Goals as goal
use Rattle.compositor.proofs.met.Met.meet_one.Goals.{else-c-ne0-via-then-c-ne0+then-self-lt65+else-is_none, else-c-ne0-via-then-c-ne0+else-self-lt65, else-c-ne0-via-else-c-ne0}

pub returns-then-is_none : goal.returns-then-is_none
returns-then-is_none c = met_new _ _ _ _ c.self.view_is c.self.told c.if-c-ne0.true c.if-self-lt65.true (found c.args.c c.args.self.now c.index_of.ensures c.if-is_none.ensures)

pub returns-else-c-ne0 : goal.returns-else-c-ne0
returns-else-c-ne0 c =
    elim c.else-c-ne0.branch [
      | else-c-ne0-via-then-c-ne0+then-self-lt65+else-is_none w ↦ met_there _ _ (found c.args.c c.args.self.now w.index_of.ensures w.if-is_none.ensures)
      | else-c-ne0-via-then-c-ne0+else-self-lt65 w ↦ met_full _ _ _ _ c.self.view_is c.self.told c.self.invariant w.if-self-lt65.false
      | else-c-ne0-via-else-c-ne0 w ↦ met_none _ _ w.if-c-ne0.false
    ]
