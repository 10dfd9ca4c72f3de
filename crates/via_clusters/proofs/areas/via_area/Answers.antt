use Rattle.std.proofs.Common.{sym, subst, List, ◌↔◌}
use Rattle.lists.proofs.Words.{IfOk-weaker}
use Rattle.geo_core.specs.Plane.{Has, IsInUnion}
use Rattle.geo_core.specs.declared.plane.Cell.{Cell}
use Rattle.geo_core.specs.declared.plane.Rect.{Rect}
use Rattle.fault_model.specs.FaultNames.{Tally, cells_of}
use Rattle.fault_model.proofs.CellLaws.{has_from_listed}
use Rattle.fault_model.proofs.TallyLaws.{Tally-same}
use Rattle.via_clusters.specs.Blocks.{CoversSomeBox}
use Rattle.via_clusters.proofs.areas.via_area.Goals as goal

pub returns-clause-tally : goal.returns-clause-tally
returns-clause-tally c =
    let window = c.args.window in
    let covers = CoversSomeBox c.args.boxes.now c.args.r in
    let cells = cells_of window in
    let same = subst (λ (centres : List Rect). (d : Cell) → IsInUnion centres d ↔ (covers d × Has window d)) (sym c.as_slice.ensures.value) c.in_ok-centres.ensures in
    IfOk-weaker c.union_area.result (Tally (IsInUnion c.as_slice.result.now) cells) (Tally covers cells)
    (λ n. Tally-same cells n (λ d among. (λ u. ((same d).0 u).0, λ s. (same d).1 (s, has_from_listed window d among)))) c.union_area.ensures.tally
