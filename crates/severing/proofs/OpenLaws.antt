-- what defects sever is what they make open
use Rattle.std.proofs.Common.{ℕ, List, [], ◌≢◌}
use Rattle.lists.proofs.Words.{slice_get_within}
use Rattle.lists.proofs.Containing.{some_item, Contains-slice_get}
use Rattle.geo_core.specs.Plane.{IsInUnion}
use Rattle.geo_core.specs.declared.plane.Cell.{Cell}
use Rattle.geo_core.specs.declared.plane.Half.{Half}
use Rattle.geo_core.specs.declared.plane.Rect.{Rect}
use Rattle.fault_model.specs.FaultNames.{IsOn, IsInFootprint, IslandLists, IsInAnchor, IsIslandOpen}
use Rattle.fault_model.specs.IslandLists.{IsAnchoredIsland}
use Rattle.fault_model.proofs.HalfLaws.{some_half}
use Rattle.fault_model.proofs.UnionLaws.{cell_of_some}
use Rattle.severing.specs.Severing.{IsSevered}

-- some half square lies in the union of rectangles of which there is one
half_of_some : (rects : List Rect) → rects ≢ [] → (h : Half) × IsOn (IsInUnion rects) h
half_of_some rects some =
    let c = cell_of_some rects some in
    let h = some_half c.0 in
    (h.0, (c.0, h.1, c.1))

module _ (island : IslandLists) (s : ℕ) (c : Cell) where
  pub severed_from_open : IsIslandOpen island s c → IsSevered island (IsInFootprint c s)
  severed_from_open o = record {
    one = o.one;
    other = o.other;
    one_is = slice_get_within island.anchors o.one o.tied.2.spot o.tied.2.at;
    other_is = slice_get_within island.anchors o.other o.tied.3.spot o.tied.3.at;
    different = o.different;
    apart = o.parted;
  }

  module _ (anchored : IsAnchoredIsland island) where
    -- the half squares of an anchor are the island's
    on_island : (number : ℕ) (h : Half) → IsInAnchor island.anchors number h → IsOn (IsInUnion island.pieces) h
    on_island number h a = (a.lies.0, a.lies.1, anchored.on_pieces a.spot a.lies.0 (Contains-slice_get island.anchors number a.spot a.at) a.lies.2)

    pub open_from_severed : IsSevered island (IsInFootprint c s) → IsIslandOpen island s c
    open_from_severed severed =
        let one = some_item island.anchors severed.one severed.one_is in
        let other = some_item island.anchors severed.other severed.other_is in
        let p = half_of_some one.0.rects one.0.some in
        let q = half_of_some other.0.rects other.0.some in
        let in_one : IsInAnchor island.anchors severed.one p.0 = record { spot = one.0; at = one.1; lies = p.1 } in
        let in_other : IsInAnchor island.anchors severed.other q.0 = record { spot = other.0; at = other.1; lies = q.1 } in
        record {
          one = severed.one;
          other = severed.other;
          different = severed.different;
          tied = (p.0, q.0, in_one, in_other, anchored.connected p.0 q.0 (on_island severed.one p.0 in_one) (on_island severed.other q.0 in_other));
          parted = severed.apart;
        }
