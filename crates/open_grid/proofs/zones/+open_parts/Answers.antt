use Rattle.std.proofs.Common.{Vec, arith, inl}
use Rattle.lists.proofs.Words.{Global, IfOk-weaker}
use Rattle.geo_core.specs.declared.plane.Rect.{Rect}
use Rattle.union_area.proofs.laws.LineLaws.{fewer_in_line}
use Rattle.union_area.proofs.laws.PartLaws.{fewer_cells}
use Rattle.open_grid.specs.inside.ZoneNeeds.{HaveOpenCells}
use Rattle.open_grid.specs.inside.ZoneSteps.{AreStretched}
use Rattle.open_grid.proofs.CellLaws.{by_axis, no_items, open_everywhere, open_in_halves, open_in_lines, open_nowhere, some_items}
use Rattle.open_grid.proofs.CountLaws.{counts_if, counts_in_halves, counts_in_part, counts_same}
use Rattle.open_grid.proofs.zones.+open_parts.Goals as goal

pub returns-in-Everywhere-clause-cells : goal.returns-in-Everywhere-clause-cells
returns-in-Everywhere-clause-cells t c = λ islands stand. rw (c.in_ok-push-in-Everywhere.ensures.items, c.new-rects.ensures.items)
    (open_everywhere c.args.zone c.args.side islands (rw c.in-Everywhere.is at (c.in_ok-many.ensures.left islands stand)).0)

pub returns-then-is_empty-clause-cells : goal.returns-then-is_empty-clause-cells
returns-then-is_empty-clause-cells t c = λ islands stand.
    let none = rw c.as_slice.ensures at (no_items _ c.if-is_empty.ensures) in
    rw c.new-rects.ensures.items (open_nowhere c.args.zone c.args.side islands c.in-Of.left none (rw c.in-Of.is at (c.in_ok-many.ensures.left islands stand)))

pub next_step-requires-clause-several : goal.next_step-requires-clause-several
next_step-requires-clause-several t c =
    let some = rw c.as_slice.ensures at (some_items _ c.if-is_empty.ensures) in
    (rw c.in-Of.is at c.in_ok-many.ensures.at_once) some

pub returns-in-Repeat-clause-cells : goal.returns-in-Repeat-clause-cells
returns-in-Repeat-clause-cells t c = λ islands stand.
    IfOk-weaker c.stretched.result (λ (rects : Vec Rect Global). AreStretched c.in-Repeat.axis c.args.zone c.in_ok-lines-in-Repeat.lines.items rects.items)
    (λ (rects : Vec Rect Global). HaveOpenCells islands c.args.side c.args.zone rects.items)
    (λ (rects : Vec Rect Global) are.
    open_in_lines c.args.zone c.args.side islands c.in-Of.left c.in-Repeat.axis _ c.in_ok-lines-in-Repeat.lines.items rects.items
    (rw c.in-Of.is at (c.in_ok-many.ensures.left islands stand))
    (by_axis c.args.zone c.args.side c.in-Repeat.axis c.requires.some c.steady_columns_sever_alike.ensures c.steady_rows_sever_alike.ensures)
    (rw (c.in-Repeat.is, c.as_slice-2.ensures) at c.in_ok-axis.ensures).1 c.first_line-line.ensures (rw c.as_slice-in-Repeat.ensures at c.in_ok-lines-in-Repeat.ensures.cells) are)
    (rw c.deref.ensures.value at c.stretched.ensures)

pub open_parts-requires : goal.open_parts-requires
open_parts-requires t c =
    let fewer = fewer_in_line c.in-Repeat.axis c.args.zone _ c.first_line-line.ensures (rw c.in-Repeat.is at c.in_ok-axis.ensures).0 in
    (omega (arith, fewer), (c.requires.some, c.requires.few))

pub open_parts-requires-in-Halve : goal.open_parts-requires-in-Halve
open_parts-requires-in-Halve t c = let fewer = fewer_cells c.args.zone _ _ c.parts_at.ensures.parts in (omega (arith, fewer.0), (c.requires.some, c.requires.few))

pub open_parts-requires-in-Halve-2 : goal.open_parts-requires-in-Halve-2
open_parts-requires-in-Halve-2 t c = let fewer = fewer_cells c.args.zone _ _ c.parts_at.ensures.parts in (omega (arith, fewer.1), (c.requires.some, c.requires.few))

pub returns-clause-cells : goal.returns-clause-cells
returns-clause-cells t c = λ islands stand. rw (c.in_ok-extend_from_slice-in-Halve.ensures.items, c.deref-in-Halve.ensures.value)
    (open_in_halves c.args.zone c.args.side islands c.in-Of.left _ _ c.in_ok-both-in-Halve.both.items c.in_ok-others-in-Halve.others.items
    (rw c.in-Of.is at (c.in_ok-many.ensures.left islands stand)) c.parts_at.ensures.parts (rw c.as_slice-in-Halve.ensures at c.in_ok-both-in-Halve.ensures.cells)
    (rw c.as_slice-in-Halve-2.ensures at c.in_ok-others-in-Halve.ensures.cells))

-- ---- the count

pub returns-in_err-many-clause-counts : goal.returns-in_err-many-clause-counts
returns-in_err-many-clause-counts t c = λ islands stand. counts_same islands c.args.zone c.args.side _

pub returns-in_err-push-in-Everywhere-clause-counts : goal.returns-in_err-push-in-Everywhere-clause-counts
returns-in_err-push-in-Everywhere-clause-counts t c = λ islands stand.
    counts_if islands c.args.zone c.args.side c.in-Everywhere.many _ _ (rw c.in-Everywhere.is at (c.in_ok-many.ensures.left islands stand)).1 c.count_if.ensures.never_falls
    c.count_if.ensures.rises

pub returns-in-Everywhere-clause-counts : goal.returns-in-Everywhere-clause-counts
returns-in-Everywhere-clause-counts t c = λ islands stand.
    counts_if islands c.args.zone c.args.side c.in-Everywhere.many _ _ (rw c.in-Everywhere.is at (c.in_ok-many.ensures.left islands stand)).1 c.count_if.ensures.never_falls
    c.count_if.ensures.rises

pub returns-then-is_empty-clause-counts : goal.returns-then-is_empty-clause-counts
returns-then-is_empty-clause-counts t c = λ islands stand. counts_same islands c.args.zone c.args.side _

pub returns-in_err-axis-clause-counts : goal.returns-in_err-axis-clause-counts
returns-in_err-axis-clause-counts t c = λ islands stand. counts_same islands c.args.zone c.args.side _

pub returns-in_err-lines-in-Repeat-clause-counts : goal.returns-in_err-lines-in-Repeat-clause-counts
returns-in_err-lines-in-Repeat-clause-counts t c = λ islands stand.
    counts_in_part islands c.args.zone c.args.side c.in-Of.left _ _ _ (rw c.in-Of.is at (c.in_ok-many.ensures.left islands stand)) (λ d has. ((c.first_line-line.ensures.cells d).0 has).0)
    (rw c.as_slice-in-Repeat.ensures at c.in_err-lines-in-Repeat.ensures.counts)

pub returns-in-Repeat-clause-counts : goal.returns-in-Repeat-clause-counts
returns-in-Repeat-clause-counts t c = λ islands stand.
    counts_in_part islands c.args.zone c.args.side c.in-Of.left _ _ _ (rw c.in-Of.is at (c.in_ok-many.ensures.left islands stand)) (λ d has. ((c.first_line-line.ensures.cells d).0 has).0)
    (rw c.as_slice-in-Repeat.ensures at c.in_ok-lines-in-Repeat.ensures.counts)

pub returns-in_err-both-in-Halve-clause-counts : goal.returns-in_err-both-in-Halve-clause-counts
returns-in_err-both-in-Halve-clause-counts t c = λ islands stand.
    counts_in_part islands c.args.zone c.args.side c.in-Of.left _ _ _ (rw c.in-Of.is at (c.in_ok-many.ensures.left islands stand))
    (λ d has. (c.parts_at.ensures.parts.cells d).1 (inl has)) (rw c.as_slice-in-Halve.ensures at c.in_err-both-in-Halve.ensures.counts)

pub returns-in_err-others-in-Halve-clause-counts : goal.returns-in_err-others-in-Halve-clause-counts
returns-in_err-others-in-Halve-clause-counts t c = λ islands stand.
    counts_in_halves islands c.args.zone c.args.side c.in-Of.left _ _ _ _ _ (rw c.in-Of.is at (c.in_ok-many.ensures.left islands stand)) c.parts_at.ensures.parts
    (rw c.as_slice-in-Halve.ensures at c.in_ok-both-in-Halve.ensures.counts) (rw c.as_slice-in-Halve-2.ensures at c.in_err-others-in-Halve.ensures.counts)

pub returns-in_err-extend_from_slice-in-Halve-clause-counts : goal.returns-in_err-extend_from_slice-in-Halve-clause-counts
returns-in_err-extend_from_slice-in-Halve-clause-counts t c = λ islands stand.
    counts_in_halves islands c.args.zone c.args.side c.in-Of.left _ _ _ _ _ (rw c.in-Of.is at (c.in_ok-many.ensures.left islands stand)) c.parts_at.ensures.parts
    (rw c.as_slice-in-Halve.ensures at c.in_ok-both-in-Halve.ensures.counts) (rw c.as_slice-in-Halve-2.ensures at c.in_ok-others-in-Halve.ensures.counts)

pub returns-clause-counts : goal.returns-clause-counts
returns-clause-counts t c = λ islands stand.
    counts_in_halves islands c.args.zone c.args.side c.in-Of.left _ _ _ _ _ (rw c.in-Of.is at (c.in_ok-many.ensures.left islands stand)) c.parts_at.ensures.parts
    (rw c.as_slice-in-Halve.ensures at c.in_ok-both-in-Halve.ensures.counts) (rw c.as_slice-in-Halve-2.ensures at c.in_ok-others-in-Halve.ensures.counts)
