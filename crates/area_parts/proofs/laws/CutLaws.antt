-- the boxes of a cut's via clusters, and where a defect makes the fault of its question
use Rattle.std.proofs.Common.{ℕ, ◌+◌, ◌/◌, ◌<◌, ◌≤◌, ◌≡◌, refl, sym, ap, ◌∙◌, subst, List, [], ◌∷◌, ◌++◌, inl, inr, length, length-append, get_or, arith, ◌↔◌, Some, slice_get, slice_index_or, option_map, Contains}
use Rattle.lists.proofs.Words.{cases_lt, get_or_append_left, get_or_push, slice_get-get_or, slice_get-map, get_or-enumerate_from, length-enumerate_from}
use Rattle.geo_core.specs.Plane.{IsCoveredIn}
use Rattle.geo_core.specs.declared.plane.Cell.{Cell}
use Rattle.geo_core.specs.declared.plane.Rect.{Rect}
use Rattle.fault_model.specs.FaultNames.{Cut, IsViaBlock}
use Rattle.fault_model.proofs.FaultLaws.{block_at}
use Rattle.lists.proofs.Containing.{Contains-slice_get}
use Rattle.lists.proofs.Mapping.{Contains-map_from}
use Rattle.lists.proofs.Numbering.{numbered_alike}
use Rattle.map_model.specs.MapNames.{LayerMap, MappedCut}
use Rattle.net_extract.specs.Cuts.{cut_of, cuts_of, numbered_cuts}
use Rattle.questions.specs.declared.kind.Kind.TheVariants.{Via}
use Rattle.via_clusters.specs.Blocks.{CoversSomeBox}
use Rattle.area_parts.specs.AreaParts.{ArePartsOf}
use Rattle.area_parts.specs.FaultKinds.{IsFault}
use Rattle.area_parts.specs.LayerParts.{AreOneEach}
use Rattle.area_parts.specs.declared.parts.Parts.{Parts}

-- an item of a list, by its number
abbrev item_at : {X : Type 0} (xs : List X) (k : ℕ) → k < length xs → X
item_at [] k small = absurd (omega arith)
item_at (x ∷ xs) k small = get_or (x ∷ xs) k x

module _ (layer_map : LayerMap) (k : ℕ) (small : k < length layer_map.cuts) where
  -- the cut with its number
  abbrev numbered : ℕ × MappedCut
  numbered = (length layer_map.metals + k, get_or layer_map.cuts k (item_at layer_map.cuts k small))

  numbered_at : slice_get (numbered_cuts layer_map) k ≡ Some numbered
  numbered_at =
      let metals = length layer_map.metals in
      let d : ℕ × MappedCut = (0, item_at layer_map.cuts k small) in
      let as_many = length-enumerate_from metals layer_map.cuts in
      let within : k < length (numbered_cuts layer_map) = omega (arith, as_many) in
      slice_get-get_or (numbered_cuts layer_map) k d within ∙ ap Some (get_or-enumerate_from metals layer_map.cuts k d small)

  cut_at : slice_get (cuts_of layer_map) k ≡ Some (cut_of numbered)
  cut_at = slice_get-map cut_of (numbered_cuts layer_map) k ∙ ap (option_map cut_of) numbered_at

  -- no other cut has its number
  only_cut : (cut : Cut) → Contains (cuts_of layer_map) cut → cut.number ≡ length layer_map.metals + k → cut_of numbered ≡ cut
  only_cut cut among e =
      let found = Contains-map_from cut_of (numbered_cuts layer_map) cut among in
      let number : found.0.0 ≡ length layer_map.metals + k = ap (λ (one : Cut). one.number) found.2 ∙ e in
      let same = numbered_alike (length layer_map.metals) layer_map.cuts found.0 numbered found.1 (Contains-slice_get (numbered_cuts layer_map) k numbered numbered_at) number in
      ap cut_of (sym same) ∙ found.2

  -- a defect covers one of the cut's boxes exactly where it makes the fault of the cut's question
  pub block_is : (lists : List (List Rect)) (parts : Parts) → ArePartsOf layer_map lists parts → (side : ℕ) → 1 ≤ side → (c : Cell)
      → CoversSomeBox (slice_index_or parts.cuts k []) ((side + 1) / 2) c ↔ IsFault layer_map (IsCoveredIn lists) Via (length layer_map.metals + k) side c
  block_is lists parts are side some c =
      let boxed = are.boxes k (cut_of numbered) cut_at ((side + 1) / 2) c (omega arith) in
      let at = block_at (IsCoveredIn lists) side some (cut_of numbered) c in (
        λ h. (cut_of numbered, Contains-slice_get (cuts_of layer_map) k (cut_of numbered) cut_at, refl, at.1 (boxed.0 h)),
        λ f. boxed.1 (at.0 (subst (λ (cut : Cut). IsViaBlock (IsCoveredIn lists) cut side c) (sym (only_cut f.0 f.1 f.2)) f.3)),
      )

-- one list more
pub one_list_more : {X : Type 0} (Is : ℕ → List X → Type 0) (k : ℕ) (lists : List (List X)) (list : List X) → AreOneEach Is k lists → Is k list → AreOneEach Is (k + 1) (lists ++ list ∷ [])
one_list_more Is k lists list are more = record {
  one_each = omega (arith, length-append lists (list ∷ []), are.one_each);
  each = λ number small.
      elim (cases_lt number k) [
        | inl before ↦ subst (Is number) (sym (get_or_append_left lists (list ∷ []) [] number (omega (arith, are.one_each)))) (are.each number before)
        | inr last ↦
            let is : number ≡ k = omega arith in
            subst (Is number) (sym (get_or_push lists list [] number (are.one_each ∙ sym is))) (subst (λ n. Is n list) (sym is) more)
      ];
}
