use Rattle.std.proofs.Common.{List, subst, ◌↔◌}
use Rattle.lists.proofs.Words.{IfOk-weaker}
use Rattle.geo_core.specs.Plane.{Has, IsInUnion}
use Rattle.geo_core.specs.declared.plane.Cell.{Cell}
use Rattle.geo_core.specs.declared.plane.Rect.{Rect}
use Rattle.via_clusters.specs.Blocks.{CoversSomeBox}
use Rattle.via_clusters.proofs.areas.via_rects.Goals as goal

pub returns-clause-cells : goal.returns-clause-cells
returns-clause-cells c =
    let window = c.args.window in
    let centres = c.in_ok-centres.centres.items in
    let value = c.as_slice.ensures.value in
    IfOk-weaker c.union_rects.result (λ found. (d : Cell) → IsInUnion found.items d ↔ (IsInUnion c.as_slice.result.now d × Has window d))
    (λ found. (d : Cell) → IsInUnion found.items d ↔ (CoversSomeBox c.args.boxes.now c.args.r d × Has window d))
    (λ found same d.
    let both = subst (λ (xs : List Rect). IsInUnion found.items d ↔ (IsInUnion xs d × Has window d)) value (same d) in
    let are = c.in_ok-centres.ensures d in (λ u. are.0 (both.0 u).0, λ h. both.1 (are.1 h, h.1)))
    c.union_rects.ensures.cells

pub returns-clause-apart : goal.returns-clause-apart
returns-clause-apart c = c.union_rects.ensures.apart
