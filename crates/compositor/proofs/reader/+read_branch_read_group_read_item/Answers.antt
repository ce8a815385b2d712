use mathlib.Core.Path.{refl, sym, ◌∙◌}
use native.Mathlib.Omega.{arith}
use Rattle.rules.proofs.Checks.{test_failed, test_passed}
use Rattle.patterns.specs.Line.{item, branch, is_letter}
use Rattle.patterns.proofs.Reading.{there, letter_there, eq_open, eq_branch_end, eq_branch_broken, eq_group_end, eq_group_broken}
use Rattle.compositor.proofs.Joining.{letter_of}
use Rattle.compositor.proofs.Ring.{told_wrong, wrong_of, one_alone, one_wrong, item_letter, item_other, item_deep, item_closed, item_none, branch_none, branch_join, group_none, group_join, room, past, letter_room}
use Rattle.compositor.proofs.reader.+read_branch_read_group_read_item.Goals as goal

pub read_branch-returns-in_err-p : goal.read_branch-returns-in_err-p
read_branch-returns-in_err-p t c = rw c.from_residual.ensures (told_wrong (branch_none _ _ _ (wrong_of c.read_item.ensures c.in_err-p.was)))

pub read_branch-returns-then-not-starts : goal.read_branch-returns-then-not-starts
read_branch-returns-then-not-starts t c =
    one_alone c.read_item.ensures c.in_ok-p.was (λ p g. eq_branch_end _ _ _ p _ g (test_failed c.starts.ensures c.if-not-starts.true))

pub read_branch-read_branch-requires : goal.read_branch-read_branch-requires
read_branch-read_branch-requires t c =
    let m = room item _ _ _ c.requires c.read_item.ensures c.in_ok-p.was in
    (omega (arith, m, c.decreases), m.letters)

pub read_branch-returns-in_err-q : goal.read_branch-returns-in_err-q
read_branch-returns-in_err-q t c =
    rw c.from_residual-in_err-q.ensures
    (one_wrong c.read_item.ensures c.in_ok-p.was
    (λ p g. eq_branch_broken _ _ _ p _ g (test_passed c.starts.ensures c.if-not-starts.false) (wrong_of c.read_branch.ensures c.in_err-q.was)))

pub read_branch-returns : goal.read_branch-returns
read_branch-returns t c =
    branch_join _ _ _ c.read_item.ensures c.in_ok-p.was (test_passed c.starts.ensures c.if-not-starts.false) c.read_branch.ensures c.in_ok-q.was c.then_part.ensures

pub read_group-returns-in_err-p : goal.read_group-returns-in_err-p
read_group-returns-in_err-p t c = rw c.from_residual.ensures (told_wrong (group_none _ _ _ (wrong_of c.read_branch.ensures c.in_err-p.was)))

pub read_group-returns-then-byte_at-ne124 : goal.read_group-returns-then-byte_at-ne124
read_group-returns-then-byte_at-ne124 t c =
    one_alone c.read_branch.ensures c.in_ok-p.was (λ p g. eq_group_end _ _ _ p _ g (λ h. c.if-byte_at-ne124.true (c.byte_at.ensures ∙ h)))

pub read_group-overflow_add-p : goal.read_group-overflow_add-p
read_group-overflow_add-p t c = omega (arith, there c.args.s.now c.in_ok-p.p.at 124 (sym c.byte_at.ensures ∙ c.if-byte_at-ne124.false) (omega arith))

pub read_group-read_group-requires : goal.read_group-read_group-requires
unfolding is_letter
read_group-read_group-requires t c =
    let m = room branch _ _ _ c.requires c.read_branch.ensures c.in_ok-p.was in
    let g = sym c.byte_at.ensures ∙ c.if-byte_at-ne124.false in
    (omega (arith, m, c.decreases), past c.args.s.now c.in_ok-p.p.at 124 c.in_ok-p.p.place (omega arith) refl g m.letters)

pub read_group-returns-in_err-q : goal.read_group-returns-in_err-q
read_group-returns-in_err-q t c =
    rw c.from_residual-in_err-q.ensures
    (one_wrong c.read_branch.ensures c.in_ok-p.was
    (λ p g. eq_group_broken _ _ _ p _ g (sym c.byte_at.ensures ∙ c.if-byte_at-ne124.false) (wrong_of c.read_group.ensures c.in_err-q.was)))

pub read_group-returns : goal.read_group-returns
read_group-returns t c =
    group_join _ _ _ c.read_branch.ensures c.in_ok-p.was (sym c.byte_at.ensures ∙ c.if-byte_at-ne124.false) c.read_group.ensures c.in_ok-q.was c.or_part.ensures

pub read_item-overflow_add-at : goal.read_item-overflow_add-at
read_item-overflow_add-at t c = omega (arith, letter_there c.args.s.now c.args.at (letter_of c.is_letter.ensures c.byte_at-b.ensures c.if-is_letter.true))

pub read_item-letter_part-p-requires : goal.read_item-letter_part-p-requires
read_item-letter_part-p-requires t c =
    letter_room c.args.s.now c.args.at c.args.place (letter_of c.is_letter.ensures c.byte_at-b.ensures c.if-is_letter.true) c.requires

pub read_item-returns-then-is_letter : goal.read_item-returns-then-is_letter
read_item-returns-then-is_letter t c =
    item_letter _ _ _ (letter_of c.is_letter.ensures c.byte_at-b.ensures c.if-is_letter.true) c.letter_part-p.ensures c.suffixed.ensures

pub read_item-returns-then-b-ne40 : goal.read_item-returns-then-b-ne40
read_item-returns-then-b-ne40 t c =
    told_wrong (item_other _ _ _ (letter_of c.is_letter.ensures c.byte_at-b.ensures c.if-is_letter.false) (λ h. c.if-b-ne40.true (c.byte_at-b.ensures ∙ h)))

pub read_item-returns-then-depth-eq0 : goal.read_item-returns-then-depth-eq0
read_item-returns-then-depth-eq0 t c =
    told_wrong (item_deep _ _ _ (letter_of c.is_letter.ensures c.byte_at-b.ensures c.if-is_letter.false) (sym c.byte_at-b.ensures ∙ c.if-b-ne40.false) c.if-depth-eq0.true)

pub read_item-overflow_add-at-2 : goal.read_item-overflow_add-at-2
read_item-overflow_add-at-2 t c = omega (arith, there c.args.s.now c.args.at 40 (sym c.byte_at-b.ensures ∙ c.if-b-ne40.false) (omega arith))

pub read_item-read_group-requires : goal.read_item-read_group-requires
unfolding is_letter
read_item-read_group-requires t c =
    let g = sym c.byte_at-b.ensures ∙ c.if-b-ne40.false in
    (omega (arith, there c.args.s.now c.args.at 40 g (omega arith), c.decreases), past c.args.s.now c.args.at 40 c.args.place (omega arith) refl g c.requires)

pub read_item-returns-in_err-p : goal.read_item-returns-in_err-p
read_item-returns-in_err-p t c =
    rw c.from_residual.ensures
    (told_wrong (item_none _ _ _ (letter_of c.is_letter.ensures c.byte_at-b.ensures c.if-is_letter.false) (sym c.byte_at-b.ensures ∙ c.if-b-ne40.false)
    c.if-depth-eq0.false (wrong_of c.read_group.ensures c.in_err-p.was)))

pub read_item-returns-then-byte_at-ne41 : goal.read_item-returns-then-byte_at-ne41
read_item-returns-then-byte_at-ne41 t c =
    one_wrong c.read_group.ensures c.in_ok-p.was
    (λ p g. eq_open _ _ _ p _ (letter_of c.is_letter.ensures c.byte_at-b.ensures c.if-is_letter.false) (sym c.byte_at-b.ensures ∙ c.if-b-ne40.false)
    c.if-depth-eq0.false g (λ h. c.if-byte_at-ne41.true (c.byte_at.ensures ∙ h)))

pub read_item-overflow_add-p : goal.read_item-overflow_add-p
read_item-overflow_add-p t c = omega (arith, there c.args.s.now c.in_ok-p.p.at 41 (sym c.byte_at.ensures ∙ c.if-byte_at-ne41.false) (omega arith))

pub read_item-returns : goal.read_item-returns
read_item-returns t c =
    item_closed _ _ _ (letter_of c.is_letter.ensures c.byte_at-b.ensures c.if-is_letter.false) (sym c.byte_at-b.ensures ∙ c.if-b-ne40.false)
    c.if-depth-eq0.false c.read_group.ensures c.in_ok-p.was (sym c.byte_at.ensures ∙ c.if-byte_at-ne41.false) c.extended-q.ensures c.suffixed-2.ensures
