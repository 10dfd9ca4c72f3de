use Rattle.net_numbers.proofs.NumberLaws.{cells_from_corners}
use Rattle.net_numbers.proofs.numbers.first_cells.Goals as goal

pub returns : goal.returns
returns c =
    cells_from_corners c.args.pieces.now c.in_ok-corners.corners.items c.in_ok-in_order.field-0.items c.in_ok-corners.ensures c.in_ok-in_order.ensures.rising
    (rw c.as_slice.ensures.value at c.in_ok-in_order.ensures.same)
