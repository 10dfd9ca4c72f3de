use Rattle.std.proofs.Common.{◌∙◌, ap}
use Rattle.open_grid.proofs.CountingLaws.{lost_parts, none_lost_parts_none, untouched_parts_none}
use Rattle.open_grid.proofs.parting.parted_counted.Goals as goal

pub returns-in-Untouched-clause-answer : goal.returns-in-Untouched-clause-answer
returns-in-Untouched-clause-answer c =
    untouched_parts_none c.args.island.now c.args.side c.args.cell c.in_ok-ring.field-0 c.in_ok-ring.ensures.parted c.in-Untouched.is

pub returns-then-lost-clause-answer : goal.returns-then-lost-clause-answer
returns-then-lost-clause-answer c =
    lost_parts c.args.island.now c.args.side c.args.cell c.in_ok-ring.field-0 c.in_ok-ring.ensures.parted c.in-OneArc.lost c.in-OneArc.is c.if-lost.true
    c.as_slice.result.now (c.as_slice.ensures ∙ ap (λ i. i.anchors) c.island.view_is)

pub returns-else-lost-clause-answer : goal.returns-else-lost-clause-answer
returns-else-lost-clause-answer c =
    none_lost_parts_none c.args.island.now c.args.side c.args.cell c.in_ok-ring.field-0 c.in_ok-ring.ensures.parted c.in-OneArc.lost c.in-OneArc.is c.if-lost.false
