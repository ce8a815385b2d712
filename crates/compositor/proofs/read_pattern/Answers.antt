use Rattle.std.proofs.Common.{arith, ap, length}
use Rattle.std.proofs.lemmas.Result.{err_from_is_err_and}
use Rattle.rules.specs.declared.Answer.TheVariants.{WrongPattern}
use Rattle.rules.proofs.Checks.{test_failed, test_passed, long_tables, arcs_few}
use Rattle.compositor.proofs.Lining.{count_few, refused_of, taken_of}
use Rattle.compositor.proofs.Outcomes.{left_count, left_short, left_wrong, left_many, left_done}
use Rattle.compositor.proofs.read_pattern.Goals as goal

pub returns-then-not-count_right : goal.returns-then-not-count_right
returns-then-not-count_right c = left_count _ _ _ _ (test_failed c.count_right.ensures c.if-not-count_right.true)

pub returns-then-not-tables_long : goal.returns-then-not-tables_long
returns-then-not-tables_long c = left_short _ _ _ _ (test_passed c.count_right.ensures c.if-not-count_right.false) (test_failed c.tables_long.ensures c.if-not-tables_long.true)

pub take_line-requires : goal.take_line-requires
take_line-requires c = count_few _ (test_passed c.count_right.ensures c.if-not-count_right.false)

pub returns-in_err-automaton : goal.returns-in_err-automaton
returns-in_err-automaton c =
    let p = err_from_is_err_and c.from_residual.result c.from_residual.ensures.1 in
    let n = refused_of _ _ WrongPattern _ _ c.take_line.ensures c.ok_or.ensures.value _ c.in_err-automaton.was in
    rw (p.1, p.2, n.1) (left_wrong _ _ _ _ (test_passed c.count_right.ensures c.if-not-count_right.false) (test_passed c.tables_long.ensures c.if-not-tables_long.false) n.0)

pub explore-met-requires : goal.explore-met-requires
explore-met-requires c = count_few _ (test_passed c.count_right.ensures c.if-not-count_right.false)

pub returns-then-states-gt-MOST_STATES : goal.returns-then-states-gt-MOST_STATES
returns-then-states-gt-MOST_STATES c =
    left_many _ _ _ _ (test_passed c.count_right.ensures c.if-not-count_right.false) (test_passed c.tables_long.ensures c.if-not-tables_long.false) _ (taken_of _ _ WrongPattern _ _ c.take_line.ensures c.ok_or.ensures.value _ c.in_ok-automaton.was)
    _ c.explore-met.ensures (omega (arith, ap length c.configurations-states.ensures))

pub fill-requires : goal.fill-requires
fill-requires c = (
  (long_tables _ _ (test_passed c.tables_long.ensures c.if-not-tables_long.false)).0,
  count_few _ (test_passed c.count_right.ensures c.if-not-count_right.false),
  omega (arith, ap length c.configurations-states.ensures),
)

pub overflow_mul-states : goal.overflow_mul-states
overflow_mul-states c =
    omega (arith, arcs_few {q = length c.configurations-states.result.now} {v = c.args.values} c.if-states-gt-MOST_STATES.false (count_few _ (test_passed c.count_right.ensures c.if-not-count_right.false)))

pub free-requires : goal.free-requires
free-requires c =
    omega (
      arith,
      arcs_few {q = length c.configurations-states.result.now} {v = c.args.values} c.if-states-gt-MOST_STATES.false (count_few _ (test_passed c.count_right.ensures c.if-not-count_right.false)),
      long_tables _ _ (test_passed c.tables_long.ensures c.if-not-tables_long.false),
    )

pub returns : goal.returns
returns c =
    left_done _ _ _ _ (test_passed c.count_right.ensures c.if-not-count_right.false) (test_passed c.tables_long.ensures c.if-not-tables_long.false) _
    (taken_of _ _ WrongPattern _ _ c.take_line.ensures c.ok_or.ensures.value _ c.in_ok-automaton.was)
    _ c.explore-met.ensures _ _ _ _ (ap length c.configurations-states.ensures) (omega (arith, ap length c.configurations-states.ensures)) c.accepting_of.ensures c.fill.ensures c.free.ensures
