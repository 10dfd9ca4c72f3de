-- what is counted over the parts of a layer map are faults of the map, kind by kind
use Rattle.std.proofs.Common.{ℕ, ◌+◌, ◌-◌, ◌/◌, ◌<◌, ◌≤◌, ◌≡◌, refl, sym, subst, List, [], length, arith, ◌↔◌, slice_index_or, Option}
use Rattle.geo_core.specs.Plane.{IsCoveredIn}
use Rattle.geo_core.specs.declared.plane.Cell.{Cell}
use Rattle.geo_core.specs.declared.plane.Rect.{Rect}
use Rattle.fault_model.specs.FaultNames.{cells_of_window}
use Rattle.map_model.specs.MapNames.{LayerMap, side_by}
use Rattle.net_extract.specs.Cuts.{cuts_of}
use Rattle.questions.specs.declared.kind.Kind.{Kind}
use Rattle.questions.specs.declared.kind.Kind.TheVariants.{Short, Open, Via}
use Rattle.via_clusters.specs.Blocks.{CoversSomeBox}
use Rattle.area_parts.specs.AreaParts.{ArePartsOf}
use Rattle.area_parts.specs.AskedCounts.{IsCountedAs}
use Rattle.area_parts.specs.FaultKinds.{IsFault}
use Rattle.area_parts.specs.Rows.{IsWindowFor}
use Rattle.area_parts.specs.declared.parts.Parts.{Parts}
use Rattle.layout_regions.specs.Regions.{IsNumberFor, IsRegion}
use Rattle.layout_regions.specs.inside.FoundRects.{AreWantedRects}
use Rattle.layout_regions.proofs.CutFaults.{block_is}
use Rattle.layout_regions.proofs.PieceFaults.{short_is}

module _ (layer_map : LayerMap) (lists : List (List Rect)) (parts : Parts) (are : ArePartsOf layer_map lists parts) where
  counted_is_fault : (kind : Kind) (number side : ℕ) (c : Cell) → IsNumberFor kind (length parts.metals) (length parts.cuts) number → 1 ≤ side
      → IsCountedAs kind parts number side c ↔ IsFault layer_map (IsCoveredIn lists) kind number side c
  counted_is_fault Short number side c numbered some =
      let of_metal = numbered.of_metal (λ via. cc via) in
      let small : number < length layer_map.metals = omega (arith, are.one_each) in
      short_is (IsCoveredIn lists) (cuts_of layer_map) number (slice_index_or parts.metals number []) (are.pieces number small) side c some
  counted_is_fault Open number side c numbered some =
      let of_metal = numbered.of_metal (λ via. cc via) in
      let small : number < length layer_map.metals = omega (arith, are.one_each) in
      are.islands number small side c
  counted_is_fault Via number side c numbered some =
      let k = number - length parts.metals in
      let behind = numbered.behind_metals refl in
      let before = numbered.of_cut refl in
      let small : k < length layer_map.cuts = omega (arith, are.each_once.boxes.one_each) in
      let at : length layer_map.metals + k ≡ number = omega (arith, are.one_each) in
      subst (λ n. CoversSomeBox (slice_index_or parts.cuts k []) ((side + 1) / 2) c ↔ IsFault layer_map (IsCoveredIn lists) Via n side c) at
      (block_is layer_map k small lists parts are side some c)

  -- a number of the map's is one of the parts'
  pub number_in_parts : (kind : Kind) (number : ℕ) → IsNumberFor kind (length layer_map.metals) (length layer_map.cuts) number
      → IsNumberFor kind (length parts.metals) (length parts.cuts) number
  number_in_parts kind number numbered =
      subst (λ metals. IsNumberFor kind metals (length parts.cuts) number) (sym are.one_each)
      (subst (λ cuts. IsNumberFor kind (length layer_map.metals) cuts number) (sym are.each_once.boxes.one_each) numbered)

  -- rectangles of what is counted over the map's window are the region
  pub region_is : (window : Option Rect) (kind : Kind) (number size : ℕ) (rects : List Rect) → IsWindowFor layer_map (IsCoveredIn lists) window
      → IsNumberFor kind (length parts.metals) (length parts.cuts) number → 1 ≤ side_by layer_map.measure size
      → AreWantedRects (IsCountedAs kind parts number (side_by layer_map.measure size)) (cells_of_window window) rects → IsRegion layer_map (IsCoveredIn lists) kind number size rects
  region_is window kind number size rects is_window numbered some found = record {
    window = window;
    is_window = is_window;
    cells = λ c.
        let same = counted_is_fault kind number (side_by layer_map.measure size) c numbered some in
        let there = found.cells_are c in (
          λ u. let h = there.0 u in (h.0, same.0 h.1),
          λ h. there.1 (h.0, same.1 h.1),
        );
    apart = found.apart;
  }
