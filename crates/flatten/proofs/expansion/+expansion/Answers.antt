use Rattle.std.proofs.Common.{suc, ◌≡◌, ◌-◌, Contains, sym, subst, arith}
use Rattle.lists.proofs.Words.{length-range_with_len}
use Rattle.flatten.specs.inside.Ends.{routes_below}
use Rattle.flatten.proofs.SearchLaws.{parts_read}
use Rattle.flatten.proofs.ExpansionLaws.{by_parts, by_rows, by_columns, by_copies, nothing_left}
use Rattle.flatten.proofs.GrowthLaws.{number_more, number_is, one_followed, one_refuses, all_followed, nothing_placed, end_placed, stepped}
use Rattle.flatten.proofs.expansion.+expansion.Goals as goal

-- part by part
pub expand-expand_part-requires : goal.expand-expand_part-requires
expand-expand_part-requires t c =
    let read = parts_read c.args.nodes.now c.args.one c.index-nodes-one.result c.as_slice-part-items.result.now c.as_slice-part-items.ensures.value c.requires.there c.index-nodes-one.is in
    (omega arith, (c.requires.followed, subst (λ l. Contains l c.part-item.result) read (c.loop-part.part-index, c.loop-part-test.true, sym c.part-item.is)))

pub expand-loop-part-preserved : goal.expand-loop-part-preserved
expand-loop-part-preserved t c = one_followed c.loop-part.invariant c.part-item.result (omega arith) c.part-item.is c.in_ok-expand_part.ensures

pub expand-returns-in_err-expand_part : goal.expand-returns-in_err-expand_part
expand-returns-in_err-expand_part t c =
    let read = parts_read c.args.nodes.now c.args.one c.index-nodes-one.result c.as_slice-part-items.result.now c.as_slice-part-items.ensures.value c.requires.there c.index-nodes-one.is in
    one_refuses c.loop-part.invariant _ (by_parts c.args.nodes.now c.args.way.left c.args.one _ read) c.part-item.result (omega arith) c.part-item.is
    c.from_residual.result _ c.from_residual.ensures.1 c.in_err-expand_part.ensures

pub expand-returns : goal.expand-returns
expand-returns t c =
    let read = parts_read c.args.nodes.now c.args.one c.index-nodes-one.result c.as_slice-part-items.result.now c.as_slice-part-items.ensures.value c.requires.there c.index-nodes-one.is in
    all_followed c.loop-part.invariant _ (by_parts c.args.nodes.now c.args.way.left c.args.one _ read) (omega arith)

-- a part
pub expand_part-expand_copies-requires : goal.expand_part-expand_copies-requires
expand_part-expand_copies-requires t c =
    let there = c.requires.followed c.args.one c.in-Copies.reference c.in-Copies.target (rw c.in-Copies.is at c.requires.there) in
    (omega arith, (c.requires.followed, (there, omega arith)))

pub expand_part-returns-then-way-eq0 : goal.expand_part-returns-then-way-eq0
expand_part-returns-then-way-eq0 t c =
    let k = c.in-Copies in
    rw k.is (nothing_placed c.args.nodes.now c.args.way.motion (nothing_left c.args.nodes.now c.args.way.left c.args.one k.target k.reference c.if-way-eq0.true))

pub expand_part-returns-in-End : goal.expand_part-returns-in-End
expand_part-returns-in-End t c steps moves =
    rw c.in-End.is (end_placed c.args.nodes.now (routes_below c.args.nodes.now c.args.way.left) steps (rw c.in-End.is at c.requires.there) (c.place_shape.ensures steps moves))

pub expand_part-returns-else-way-eq0 : goal.expand_part-returns-else-way-eq0
expand_part-returns-else-way-eq0 t c =
    let left = c.args.way.left in
    let k = c.in-Copies in
    let more : left ≡ suc (left - 1) = omega arith in
    rw (k.is, by_copies c.args.nodes.now left (left - 1) c.args.one k.target k.reference more) c.expand_copies.ensures

-- row by row
pub expand_copies-expand_row-requires : goal.expand_copies-expand_row-requires
expand_copies-expand_row-requires t c = (omega arith, (c.requires.followed, (c.requires.there, (c.requires.more, omega (arith, c.rows-row-end.ensures.few)))))

pub expand_copies-loop-row-preserved : goal.expand_copies-loop-row-preserved
expand_copies-loop-row-preserved t c =
    one_followed c.loop-row.invariant c.loop-row.row (number_more c.loop-row-test.true) (number_is c.loop-row-test.true) c.in_ok-expand_row.ensures

pub expand_copies-returns-in_err-expand_row : goal.expand_copies-returns-in_err-expand_row
expand_copies-returns-in_err-expand_row t c =
    one_refuses c.loop-row.invariant _ (by_rows c.args.nodes.now (c.args.way.left - 1) c.args.target c.args.reference.now _ c.rows-row-end.ensures.value)
    c.loop-row.row (number_more c.loop-row-test.true) (number_is c.loop-row-test.true) c.from_residual.result _ c.from_residual.ensures.1 c.in_err-expand_row.ensures

pub expand_copies-returns : goal.expand_copies-returns
expand_copies-returns t c =
    all_followed c.loop-row.invariant _ (by_rows c.args.nodes.now (c.args.way.left - 1) c.args.target c.args.reference.now _ c.rows-row-end.ensures.value)
    (rw (length-range_with_len 0 c.rows-row-end.result) c.loop-row-test.false)

-- column by column
pub expand_row-expand-requires : goal.expand_row-expand-requires
expand_row-expand-requires t c = (omega (arith, c.on.ensures.left), (c.requires.followed, c.requires.there))

pub expand_row-loop-column-preserved : goal.expand_row-loop-column-preserved
expand_row-loop-column-preserved t c =
    one_followed c.loop-column.invariant c.loop-column.column (number_more c.loop-column-test.true) (number_is c.loop-column-test.true)
    (stepped c.args.nodes.now c.args.way.motion c.on.result.motion c.args.target c.on.ensures.moves c.on.ensures.left c.in_ok-expand.ensures)

pub expand_row-returns-in_err-expand : goal.expand_row-returns-in_err-expand
expand_row-returns-in_err-expand t c =
    one_refuses c.loop-column.invariant _ (by_columns c.args.nodes.now (c.args.way.left - 1) c.args.target c.args.reference.now _ c.args.row c.columns-column-end.ensures.value)
    c.loop-column.column (number_more c.loop-column-test.true) (number_is c.loop-column-test.true) c.from_residual.result _ c.from_residual.ensures.1
    (stepped c.args.nodes.now c.args.way.motion c.on.result.motion c.args.target c.on.ensures.moves c.on.ensures.left c.in_err-expand.ensures)

pub expand_row-returns : goal.expand_row-returns
expand_row-returns t c =
    all_followed c.loop-column.invariant _ (by_columns c.args.nodes.now (c.args.way.left - 1) c.args.target c.args.reference.now _ c.args.row c.columns-column-end.ensures.value)
    (rw (length-range_with_len 0 c.columns-column-end.result) c.loop-column-test.false)
