use Rattle.std.proofs.Common.{subst}
use Rattle.fault_model.specs.FaultNames.{IslandLists}
use Rattle.open_grid.specs.inside.ZoneSteps.{HaveBoxesOf}
use Rattle.open_grid.proofs.BoxLaws.{boxes_of_island}
use Rattle.open_grid.proofs.boxes.boxes_of.Goals as goal

pub returns-clause-boxes : goal.returns-clause-boxes
returns-clause-boxes c =
    let seen : IslandLists = record { pieces = c.island.inside.pieces; anchors = c.island.inside.anchors } in
    let pieces = rw (c.as_slice-pieces.ensures, c.in_ok-boxes.ensures.items) at c.in_ok-add_rects.ensures in
    let spots = rw c.as_slice.ensures at c.in_ok-add_spots.ensures in
    rw c.from_vec.ensures (subst (λ i. HaveBoxesOf i c.add_spots.new.boxes.items) c.island.view_is
    (boxes_of_island seen c.add_rects.new.boxes.items c.add_spots.new.boxes.items c.island.invariant pieces spots))
