use Rattle.std.proofs.Common.{List, subst, ◌↔◌}
use Rattle.lists.proofs.Words.{IfOk-weaker}
use Rattle.geo_core.specs.Plane.{Has, IsInUnion}
use Rattle.geo_core.specs.declared.plane.Cell.{Cell}
use Rattle.geo_core.specs.declared.plane.Rect.{Rect}
use Rattle.open_grid.proofs.EachLaws.{AreOpenCells}
use Rattle.open_grid.proofs.areas.open_cells.Goals as goal

pub returns-clause-cells : goal.returns-clause-cells
returns-clause-cells c =
    let window = c.args.window in
    let value = c.as_slice.ensures.value in
    IfOk-weaker c.union_rects.result (λ found. (d : Cell) → IsInUnion found.items d ↔ (IsInUnion c.as_slice.result.now d × Has window d))
    (λ found. AreOpenCells c.args.islands.now window c.args.side found.items)
    (λ found same d.
    let both = subst (λ (xs : List Rect). IsInUnion found.items d ↔ (IsInUnion xs d × Has window d)) value (same d) in
    let are = c.in_ok-cells.ensures d in (λ u. are.0 (both.0 u).0, λ h. both.1 (are.1 h, h.0)))
    c.union_rects.ensures.cells
