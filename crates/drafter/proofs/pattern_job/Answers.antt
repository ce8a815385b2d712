use Rattle.std.specs.Prelude.{Ok}
use Rattle.text.proofs.Judging.{field_range, number_wrong}
use Rattle.text.proofs.Putting.{wrote_is}
use Rattle.drafter.proofs.Making.{count_in, shows_draft, shows_none}
use Rattle.drafter.proofs.pattern_job.Goals as goal

pub put_draft-requires : goal.put_draft-requires
put_draft-requires c = let r = field_range _ _ _ _ _ c.field_at.ensures _ c.in-Ok.is in count_in _ r.0 r.1

pub returns-in-Ok : goal.returns-in-Ok
returns-in-Ok c = wrote_is _ _ _ _ _ _ (shows_draft _ _ c.line_of-line.ensures _ c.field_at.ensures _ c.in-Ok.is) c.put_draft.ensures

pub returns-in-Err : goal.returns-in-Err
returns-in-Err c = wrote_is _ _ _ _ _ _ (shows_none _ _ c.line_of-line.ensures _ c.field_at.ensures _ (number_wrong _ _ _ c.field_at.ensures (λ v l. Ok v) _ c.in-Err.is)) c.put_word.ensures
