use Rattle.std.proofs.Common.{Vec, [], ◌∷◌, ◌↔◌}
use Rattle.lists.proofs.Words.{Global, IfOk-weaker, All-cons, All-nil}
use Rattle.geo_core.specs.Plane.{Has, IsInUnion}
use Rattle.geo_core.specs.declared.plane.Cell.{Cell}
use Rattle.geo_core.specs.declared.plane.Rect.{Rect}
use Rattle.fault_model.specs.FaultNames.{IsIslandOpen}
use Rattle.fault_model.specs.IslandLists.{IsAnchoredIsland}
use Rattle.open_grid.specs.inside.ZoneNeeds.{HaveOpenCells, StandForAll}
use Rattle.open_grid.proofs.EachLaws.{one_open}
use Rattle.open_grid.proofs.PartingLaws.{cells_of_both}
use Rattle.open_grid.proofs.areas.cells_of_island.Goals as goal

-- what was looked at stands for the island
stands : (c : goal.After-drop-looked) → StandForAll c.args.window c.args.side c.deref.result.now (c.args.island.now ∷ [])
stands c = rw (c.deref.ensures.value, c.in_ok-looked.ensures.items) (c.in_ok-look.ensures.stands c.args.window c.args.side, tt)

pub returns-clause-cells : goal.returns-clause-cells
returns-clause-cells c =
    let island = c.args.island.now in
    let window = c.args.window in
    let side = c.args.side in
    let sound = All-cons IsAnchoredIsland island [] c.in_ok-look.ensures.sound (All-nil IsAnchoredIsland) in
    IfOk-weaker c.open_parts.result (λ (rects : Vec Rect Global). HaveOpenCells (island ∷ []) side window rects.items)
    (λ (rects : Vec Rect Global). (cell : Cell) → IsInUnion rects.items cell ↔ (Has window cell × IsIslandOpen island side cell))
    (λ (rects : Vec Rect Global) are. one_open window side island rects.items (cells_of_both c.defects_sever_islands.ensures (island ∷ []) window side rects.items sound are))
    (c.open_parts.ensures.cells (island ∷ []) (stands c))

pub returns-clause-never_falls : goal.returns-clause-never_falls
returns-clause-never_falls c = (c.open_parts.ensures.counts (c.args.island.now ∷ []) (stands c)).never_falls

pub returns-clause-rises_by_many : goal.returns-clause-rises_by_many
returns-clause-rises_by_many c = (c.open_parts.ensures.counts (c.args.island.now ∷ []) (stands c)).rises_by_many
