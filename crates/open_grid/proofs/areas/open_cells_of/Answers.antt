use Rattle.std.proofs.Common.{Vec, ◌↔◌}
use Rattle.lists.proofs.Words.{Global, IfOk-weaker}
use Rattle.geo_core.specs.Plane.{Has, IsInUnion}
use Rattle.geo_core.specs.declared.plane.Cell.{Cell}
use Rattle.geo_core.specs.declared.plane.Rect.{Rect}
use Rattle.fault_model.specs.FaultNames.{IsIslandOpen}
use Rattle.open_grid.specs.inside.Wires.{HaveSeveringCells, IsWire}
use Rattle.open_grid.proofs.PartingLaws.{open_cells_of_one}
use Rattle.open_grid.proofs.areas.open_cells_of.Goals as goal

pub returns-in-Some : goal.returns-in-Some
returns-in-Some c =
    let island = c.args.island.now in
    let window = c.args.window in
    let side = c.args.side in
    let sound = c.in-Some.ensures.sound in
    let wire : IsWire c.in-Some.wire c.as_slice.result.now island = rw c.as_slice.ensures (record { anchored = sound; alone = c.in-Some.ensures.alone; have_hulls = c.in_ok-hulls.ensures }) in
    IfOk-weaker c.cells_of_wire.result (λ (rects : Vec Rect Global). HaveSeveringCells island side window rects.items)
    (λ (rects : Vec Rect Global). (cell : Cell) → IsInUnion rects.items cell ↔ (Has window cell × IsIslandOpen island side cell))
    (λ (rects : Vec Rect Global) are. open_cells_of_one c.defects_sever_islands.ensures island window side rects.items sound are)
    (c.cells_of_wire.ensures island wire)
