use mathlib.Core.Path.{sym, ap}
use borrow.Author.Rules.{rules}
use denote.Enum.Bare.{same_true, same_false}
use Rattle.rules.specs.Answers.{number_of}
use Rattle.rules.specs.declared.Answer.TheVariants as the
use Rattle.rules.specs.contracts.Answer.{the_type}
use Rattle.rules.proofs.Unique.{answer_one}
use Rattle.text.proofs.Putting.{wrote_is}
use Rattle.job.specs.Output.{sheet_line, range_line}
use Rattle.job.proofs.Printing.{text_range, text_sheet}
use Rattle.job.proofs.print.put_wrong.Goals as goal

pub returns-then-eq : goal.returns-then-eq
unfolding range_line
returns-then-eq c = wrote_is _ _ _ _ _ _ (text_range _ _ (ap number_of (same_true the_type (search rules) c.args.answer the.NumberOutside (sym c.if-eq.ensures)))) c.put_line.ensures

pub returns : goal.returns
unfolding sheet_line
returns c = wrote_is _ _ _ _ _ _ (text_sheet _ _ (λ e. same_false the_type c.args.answer the.NumberOutside (sym c.if-eq.ensures) (answer_one c.args.answer the.NumberOutside e))) c.put_line-2.ensures
