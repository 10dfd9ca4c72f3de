use Rattle.std.proofs.Common.{Vec}
use Rattle.lists.proofs.Words.{Global, IfOk-weaker}
use Rattle.geo_core.specs.declared.plane.Labelled.{Labelled}
use Rattle.net_numbers.proofs.NumberLaws.{cells_from_corners}
use Rattle.net_numbers.proofs.numbers.numbered.Goals as goal

pub with_numbers-requires-clause-cells : goal.with_numbers-requires-clause-cells
with_numbers-requires-clause-cells c =
    rw c.as_slice-3.ensures.value
    (cells_from_corners c.args.pieces.now c.in_ok-corners.corners.items c.in_ok-cells.cells.items c.in_ok-corners.ensures c.in_ok-cells.ensures.rising
    (rw c.as_slice.ensures.value at c.in_ok-cells.ensures.same))

pub returns : goal.returns
returns c =
    IfOk-weaker c.with_numbers.result _ _ (λ (numbered : Vec Labelled Global) each. record {
      cells = c.in_ok-cells.cells.items;
      are_first =
          cells_from_corners c.args.pieces.now c.in_ok-corners.corners.items c.in_ok-cells.cells.items c.in_ok-corners.ensures c.in_ok-cells.ensures.rising
          (rw c.as_slice.ensures.value at c.in_ok-cells.ensures.same);
      each = each;
    }) (rw c.as_slice-3.ensures.value at c.with_numbers.ensures)
