use Rattle.text.proofs.Putting.{wrote_is}
use Rattle.job.specs.Inner.{program}
use Rattle.job.proofs.Reading.{long_input, short_input}
use Rattle.job.proofs.job_for.Goals as goal

pub returns-then-input-gt-LONGEST_INPUT : goal.returns-then-input-gt-LONGEST_INPUT
returns-then-input-gt-LONGEST_INPUT c = wrote_is _ _ _ _ _ _ (long_input (program c.args.task) _ c.if-input-gt-LONGEST_INPUT.true) c.put_word.ensures

pub returns : goal.returns
returns c = wrote_is _ _ _ _ _ _ (short_input (program c.args.task) _ c.if-input-gt-LONGEST_INPUT.false) c.job_in.ensures
