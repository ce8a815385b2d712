use borrow.Author.Rules.{rules}
use Rattle.rules.specs.Checks.{handed_in}
use Rattle.rules.proofs.Checks.{test_failed, test_passed, size_of_lem, sizes_of}
use Rattle.machine.proofs.Lents.{lent_size, lent_lengths, memory_is, lent_rules, part_long, lent_held, lent_done}
use Rattle.machine.proofs.lent.lent_right.Goals as goal

pub returns-then-not-sizes_right : goal.returns-then-not-sizes_right
returns-then-not-sizes_right c = lent_size _ _ _ (test_failed c.sizes_right.ensures c.if-not-sizes_right.true)

pub lengths_right-requires : goal.lengths_right-requires
lengths_right-requires c = (sizes_of _ _ _ _ (test_passed c.sizes_right.ensures c.if-not-sizes_right.false)).few_places

pub returns-then-not-lengths_right : goal.returns-then-not-lengths_right
returns-then-not-lengths_right c = lent_lengths _ _ _ (test_passed c.sizes_right.ensures c.if-not-sizes_right.false) (test_failed c.lengths_right.ensures c.if-not-lengths_right.true)

pub returns-then-not-rules_right : goal.returns-then-not-rules_right
returns-then-not-rules_right c = lent_rules _ _ _ (test_passed c.sizes_right.ensures c.if-not-sizes_right.false) (test_passed c.lengths_right.ensures c.if-not-lengths_right.false) (test_failed c.rules_right.ensures c.if-not-rules_right.true) c.fill.new.self (search rules)

pub held_right-requires : goal.held_right-requires
held_right-requires c = let z = sizes_of _ _ _ _ (test_passed c.sizes_right.ensures c.if-not-sizes_right.false) in
    (z.few_places, (size_of_lem _ _ _ z.size).few_values, part_long _ c.args.memory.now (memory_is (handed_in c.args.places c.args.rules.now) c.args.memory.now c.args.work.now (test_passed c.sizes_right.ensures c.if-not-sizes_right.false) (test_passed c.lengths_right.ensures c.if-not-lengths_right.false)))

pub returns-then-not-held_right : goal.returns-then-not-held_right
returns-then-not-held_right c = lent_held _ c.args.memory.now _ (test_passed c.sizes_right.ensures c.if-not-sizes_right.false) (test_passed c.lengths_right.ensures c.if-not-lengths_right.false) (test_passed c.rules_right.ensures c.if-not-rules_right.false) _ c.held_right.ensures c.if-not-held_right.true c.fill-then-not-held_right.new.self (search rules)

pub returns : goal.returns
returns c = lent_done _ c.args.memory.now _ (test_passed c.sizes_right.ensures c.if-not-sizes_right.false) (test_passed c.lengths_right.ensures c.if-not-lengths_right.false) (test_passed c.rules_right.ensures c.if-not-rules_right.false) _ c.held_right.ensures c.if-not-held_right.false
