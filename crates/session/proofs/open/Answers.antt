use borrow.Author.Rules.{rules}
use native.Mathlib.Omega.{arith}
use Rattle.rules.proofs.Checks.{test_failed, test_passed, sizes_of}
use Rattle.ledger.specs.Sessions.{opening}
use Rattle.ledger.proofs.Checked.{lengths_of}
use Rattle.session.proofs.Opens.{open_size, open_lengths, open_rules, open_mask, begin_ready, open_done}
use Rattle.session.proofs.open.Goals as goal

pub returns-then-not-sizes_right : goal.returns-then-not-sizes_right
returns-then-not-sizes_right c = open_size _ _ _ _ (test_failed c.sizes_right.ensures c.if-not-sizes_right.true)

pub lengths_right-requires : goal.lengths_right-requires
lengths_right-requires c = (sizes_of _ _ _ _ (test_passed c.sizes_right.ensures c.if-not-sizes_right.false)).few_places

pub returns-then-not-lengths_right : goal.returns-then-not-lengths_right
returns-then-not-lengths_right c = open_lengths _ _ _ _ (test_passed c.sizes_right.ensures c.if-not-sizes_right.false) (test_failed c.lengths_right.ensures c.if-not-lengths_right.true)

pub returns-then-not-rules_right : goal.returns-then-not-rules_right
returns-then-not-rules_right c = open_rules _ _ _ _ (test_passed c.sizes_right.ensures c.if-not-sizes_right.false) (test_passed c.lengths_right.ensures c.if-not-lengths_right.false) (test_failed c.rules_right.ensures c.if-not-rules_right.true) c.fill.new.self (search rules)

pub returns-then-not-masks_right : goal.returns-then-not-masks_right
returns-then-not-masks_right c = open_mask _ _ _ _ (test_passed c.sizes_right.ensures c.if-not-sizes_right.false) (test_passed c.lengths_right.ensures c.if-not-lengths_right.false) (test_passed c.rules_right.ensures c.if-not-rules_right.false) (test_failed c.masks_right.ensures c.if-not-masks_right.true) c.fill-then-not-masks_right.new.self (search rules)

pub overflow_add-front : goal.overflow_add-front
overflow_add-front c = omega (arith, (sizes_of _ _ _ _ (test_passed c.sizes_right.ensures c.if-not-sizes_right.false)).few_places, (lengths_of _ _ _ _ _ _ (test_passed c.lengths_right.ensures c.if-not-lengths_right.false)).memory_is)

pub offset_bounds-memory-front : goal.offset_bounds-memory-front
offset_bounds-memory-front c = omega (arith, (sizes_of _ _ _ _ (test_passed c.sizes_right.ensures c.if-not-sizes_right.false)).few_places, (lengths_of _ _ _ _ _ _ (test_passed c.lengths_right.ensures c.if-not-lengths_right.false)).memory_is)

pub slice_bounds-begin-count : goal.slice_bounds-begin-count
slice_bounds-begin-count c = omega (arith, (sizes_of _ _ _ _ (test_passed c.sizes_right.ensures c.if-not-sizes_right.false)).few_places, (lengths_of _ _ _ _ _ _ (test_passed c.lengths_right.ensures c.if-not-lengths_right.false)).memory_is)

pub slice_bounds-begin-start : goal.slice_bounds-begin-start
slice_bounds-begin-start c = omega (arith, (sizes_of _ _ _ _ (test_passed c.sizes_right.ensures c.if-not-sizes_right.false)).few_places, (lengths_of _ _ _ _ _ _ (test_passed c.lengths_right.ensures c.if-not-lengths_right.false)).memory_is)

pub begin-requires : goal.begin-requires
begin-requires c = begin_ready _ (opening c.args.masks.now c.args.limits.now) c.args.memory.now c.args.work.now (test_passed c.sizes_right.ensures c.if-not-sizes_right.false) (test_passed c.lengths_right.ensures c.if-not-lengths_right.false) (test_passed c.rules_right.ensures c.if-not-rules_right.false)

pub returns : goal.returns
returns c = open_done _ (opening c.args.masks.now c.args.limits.now) c.args.memory.now c.args.work.now (test_passed c.sizes_right.ensures c.if-not-sizes_right.false) (test_passed c.lengths_right.ensures c.if-not-lengths_right.false) (test_passed c.rules_right.ensures c.if-not-rules_right.false) (test_passed c.masks_right.ensures c.if-not-masks_right.false) _ c.begin.ensures _ c.renew.ensures
