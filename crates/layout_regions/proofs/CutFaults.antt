-- a defect covers a box of a cut exactly where it blocks a via of the cut with its number
use Rattle.std.proofs.Common.{ℕ, ◌+◌, ◌/◌, ◌<◌, ◌≤◌, ◌≡◌, refl, sym, ap, ◌∙◌, subst, List, [], length, arith, ◌↔◌, Some, slice_get, slice_index_or, option_map, Contains}
use Rattle.lists.proofs.Containing.{Contains-slice_get, some_item}
use Rattle.lists.proofs.Mapping.{Contains-map_from}
use Rattle.lists.proofs.Numbering.{numbered_alike, slice_get-enumerate}
use Rattle.lists.proofs.Words.{slice_get-map}
use Rattle.geo_core.specs.Plane.{IsCoveredIn}
use Rattle.geo_core.specs.declared.plane.Cell.{Cell}
use Rattle.geo_core.specs.declared.plane.Rect.{Rect}
use Rattle.fault_model.specs.FaultNames.{Cut, IsViaBlock}
use Rattle.fault_model.proofs.FaultLaws.{block_at}
use Rattle.map_model.specs.MapNames.{LayerMap, MappedCut}
use Rattle.net_extract.specs.Cuts.{cut_of, cuts_of, numbered_cuts}
use Rattle.questions.specs.declared.kind.Kind.TheVariants.{Via}
use Rattle.via_clusters.specs.Blocks.{CoversSomeBox}
use Rattle.area_parts.specs.AreaParts.{ArePartsOf}
use Rattle.area_parts.specs.FaultKinds.{IsFault}
use Rattle.area_parts.specs.declared.parts.Parts.{Parts}

module _ (layer_map : LayerMap) (k : ℕ) (small : k < length layer_map.cuts) where
  -- the cut with its number
  abbrev numbered : ℕ × MappedCut
  numbered = (length layer_map.metals + k, (some_item layer_map.cuts k small).0)

  abbrev cut : Cut
  cut = cut_of numbered

  numbered_at : slice_get (numbered_cuts layer_map) k ≡ Some numbered
  numbered_at = let item = some_item layer_map.cuts k small in slice_get-enumerate (length layer_map.metals) layer_map.cuts k item.0 item.1

  cut_at : slice_get (cuts_of layer_map) k ≡ Some cut
  cut_at = slice_get-map cut_of (numbered_cuts layer_map) k ∙ ap (option_map cut_of) numbered_at

  -- no other cut has its number
  only_cut : (other : Cut) → Contains (cuts_of layer_map) other → other.number ≡ length layer_map.metals + k → cut ≡ other
  only_cut other among e =
      let found = Contains-map_from cut_of (numbered_cuts layer_map) other among in
      let number : found.0.0 ≡ length layer_map.metals + k = ap (λ (one : Cut). one.number) found.2 ∙ e in
      let here = Contains-slice_get (numbered_cuts layer_map) k numbered numbered_at in
      ap cut_of (sym (numbered_alike (length layer_map.metals) layer_map.cuts found.0 numbered found.1 here number)) ∙ found.2

  -- by half of the side, rounded up
  pub block_is : (lists : List (List Rect)) (parts : Parts) → ArePartsOf layer_map lists parts → (side : ℕ) → 1 ≤ side → (c : Cell)
      → CoversSomeBox (slice_index_or parts.cuts k []) ((side + 1) / 2) c ↔ IsFault layer_map (IsCoveredIn lists) Via (length layer_map.metals + k) side c
  block_is lists parts are side some c =
      let boxed = are.boxes k cut cut_at ((side + 1) / 2) c (omega arith) in
      let at = block_at (IsCoveredIn lists) side some cut c in (
        λ h. (cut, Contains-slice_get (cuts_of layer_map) k cut cut_at, refl, at.1 (boxed.0 h)),
        λ f. boxed.1 (at.0 (subst (λ (one : Cut). IsViaBlock (IsCoveredIn lists) one side c) (sym (only_cut f.0 f.1 f.2)) f.3)),
      )
