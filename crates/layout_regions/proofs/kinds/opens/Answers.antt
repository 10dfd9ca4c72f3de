use Rattle.std.proofs.Common.{Global, Vec, ◌↔◌}
use Rattle.lists.proofs.Words.{IfOk-weaker}
use Rattle.geo_core.specs.Plane.{Has, IsInUnion}
use Rattle.geo_core.specs.declared.plane.Cell.{Cell}
use Rattle.geo_core.specs.declared.plane.Rect.{Rect}
use Rattle.severing.specs.Severing.{IsSomeOpen}
use Rattle.layout_regions.proofs.RectLaws.{found_in}
use Rattle.layout_regions.proofs.kinds.opens.Goals as goal

pub returns : goal.returns
returns c =
    let window = c.args.window in
    let parted = IsSomeOpen c.args.islands.now c.args.side in
    let swapped = IfOk-weaker c.open_cells.result (λ (found : Vec Rect Global). (d : Cell) → IsInUnion found.items d ↔ (Has window d × parted d))
    (λ (found : Vec Rect Global). (d : Cell) → IsInUnion found.items d ↔ (parted d × Has window d))
    (λ found are d. (λ u. let h = (are d).0 u in (h.1, h.0), λ h. (are d).1 (h.1, h.0)))
    c.open_cells.ensures.cells in
    found_in parted window parted (λ d has. (λ o. o, λ o. o)) c.open_cells.result swapped c.open_cells.ensures.apart
