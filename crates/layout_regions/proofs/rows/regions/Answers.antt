use Rattle.std.proofs.Common.{ℕ, ◌≤◌, Global, List, Vec, length, sym, subst, slice_index_or}
use Rattle.lists.proofs.Words.{enumerate_from, length-map}
use Rattle.first_refusal.proofs.AnswerLaws.{handed_on, out_of_memory}
use Rattle.first_refusal.proofs.JudgeLaws.{given, passed, passes, unread}
use Rattle.geo_core.specs.Plane.{IsCoveredIn}
use Rattle.geo_core.specs.declared.plane.Rect.{Rect}
use Rattle.fault_model.specs.FaultNames.{IsCovered, IsWindowOf, cells_of_window}
use Rattle.map_model.specs.MapNames.{layer_map_of, mapped_cut, metal_layer}
use Rattle.map_model.specs.declared.map.Map.{Map}
use Rattle.net_extract.specs.Extraction.{IsOnItsMetal, off_metal}
use Rattle.net_extract.specs.declared.fault.NetFault.TheVariants.{Memory}
use Rattle.questions.specs.declared.kind.Kind.{Kind}
use Rattle.area_parts.specs.AreaParts.{ArePartsOf}
use Rattle.area_parts.specs.AskedCounts.{IsCountedAs}
use Rattle.area_parts.specs.declared.parts.Parts.{Parts}
use Rattle.layout_regions.specs.Regions.{IsNumberFor, IsRegion}
use Rattle.layout_regions.specs.inside.FoundRects.{AreWantedRects}
use Rattle.layout_regions.proofs.CountedFaults.{number_in_parts, region_is}
use Rattle.layout_regions.proofs.rows.regions.Goals as goal

-- a number of the map's metals and cuts is one of the parts'
numbered : (given : Map) (lists : List (List Rect)) (parts : Parts) → ArePartsOf (layer_map_of given) lists parts → (kind : Kind) (number : ℕ)
    → IsNumberFor kind (length given.metals) (length given.cuts) number → IsNumberFor kind (length parts.metals) (length parts.cuts) number
numbered given lists parts are kind number is =
    number_in_parts (layer_map_of given) lists parts are kind number
    (subst (λ metals. IsNumberFor kind metals (length (layer_map_of given).cuts) number) (sym (length-map given.metals metal_layer))
    (subst (λ cuts. IsNumberFor kind (length given.metals) cuts number) (sym (length-map given.cuts mapped_cut)) is))

pub returns-in_err-parts : goal.returns-in_err-parts
returns-in_err-parts c =
    let lists = c.args.layers.now.lists.items in
    let layer_map = layer_map_of c.args.map.now in
    let fault = c.in_err-parts.field-0.0 in
    handed_on Memory _ c.from_residual.result fault c.from_residual.ensures.1
    (unread (IsOnItsMetal lists) off_metal (ArePartsOf layer_map lists) _ (enumerate_from 0 layer_map.terminals) fault c.in_err-parts.ensures)

pub rects_of-requires-clause-numbered : goal.rects_of-requires-clause-numbered
rects_of-requires-clause-numbered c =
    numbered c.args.map.now c.args.layers.now.lists.items c.in_ok-parts.parts (given c.in_ok-parts.ensures) c.args.kind c.args.number c.requires.numbered

pub returns-in_err-rects_of : goal.returns-in_err-rects_of
returns-in_err-rects_of c = out_of_memory Memory _ c.from_residual-in_err-rects_of.result c.from_residual-in_err-rects_of.ensures.1

pub returns : goal.returns
returns c =
    let map = c.args.map.now in
    let lists = c.args.layers.now.lists.items in
    let layer_map = layer_map_of map in
    let parts = c.in_ok-parts.parts in
    let are = given c.in_ok-parts.ensures in
    let kind = c.args.kind in
    let number = c.args.number in
    let window = c.window_of-window.result in
    let size = slice_index_or map.sizes c.args.place 0 in
    let rects = c.in_ok-rects_of.field-0 in
    let by_reach = subst (λ ls. IsWindowOf (IsCovered (IsCoveredIn ls)) c.reach.result window) c.as_slice.ensures.value c.window_of-window.ensures in
    let is_window = subst (λ r. IsWindowOf (IsCovered (IsCoveredIn lists)) r window) c.reach.ensures.reach by_reach in
    let some = subst (λ (s : ℕ). 1 ≤ s) c.side-side.ensures.side c.side-side.ensures.within.least in
    let Found : ℕ → Type 0 = λ side. AreWantedRects (IsCountedAs kind parts number side) (cells_of_window window) rects.items in
    let found = subst Found c.side-side.ensures.side c.in_ok-rects_of.ensures in
    let of_parts = numbered map lists parts are kind number c.requires.numbered in
    passes (IsOnItsMetal lists) off_metal (λ (made : Vec Rect Global). IsRegion layer_map (IsCoveredIn lists) kind number size made.items) (enumerate_from 0 layer_map.terminals) rects (passed c.in_ok-parts.ensures)
    (region_is layer_map lists parts are window kind number size rects.items is_window of_parts some found)
